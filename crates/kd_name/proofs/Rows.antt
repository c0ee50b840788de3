-- Examples, by computation.
use Rattle.std.specs.Prelude.{◌≡◌, true, false, ◌++◌, Some, None, codes, replicate, refl}
use Rattle.std.specs.Fmt.{digits}
use Rattle.kd_name.specs.declared.bus_name.BusNameFault.TheVariants.{NoLabel, WrongPrefix}
use Rattle.kd_name.specs.BusNames.{bus_name_fault}
use Rattle.kd_name.specs.Names.{is_name, is_label}
use Rattle.kd_name.specs.Patterns.{is_pattern, parent, covers}

one_element : is_name (codes "a") ≡ false
one_element = refl

begins_with_dot : is_name (codes ".a.b") ≡ false
begins_with_dot = refl

empty_element : is_name (codes "a..b") ≡ false
empty_element = refl

begins_with_digit : is_name (codes "a.1b") ≡ false
begins_with_digit = refl

bytes_256 : is_name (codes "a." ++ replicate 254 98) ≡ false
bytes_256 = refl

bytes_255 : is_name (codes "a." ++ replicate 253 98) ≡ true
bytes_255 = refl

star_for_one : covers (codes "foo.bar.*") (codes "foo.bar.baz") ≡ true
star_for_one = refl

star_for_two : covers (codes "foo.bar.*") (codes "foo.bar.baz.baz") ≡ false
star_for_two = refl

star_for_none : covers (codes "foo.bar.*") (codes "foo.bar") ≡ false
star_for_none = refl

star_for_no_element : covers (codes "foo.*") (codes "foo.") ≡ false
star_for_no_element = refl

itself : covers (codes "foo.*") (codes "foo.*") ≡ true
itself = refl

of_one_element : is_pattern (codes "foo.*") ≡ true
of_one_element = refl

star_alone : is_pattern (codes "*") ≡ false
star_alone = refl

star_twice : is_pattern (codes "foo.*.*") ≡ false
star_twice = refl

above : parent (codes "org.example.App") ≡ Some (codes "org.example")
above = refl

above_nothing : parent (codes "org") ≡ None
above_nothing = refl

label_with_dots : is_label (codes ".1000-bus.") ≡ true
label_with_dots = refl

label_65 : is_label (replicate 65 97) ≡ false
label_65 = refl

of_its_user : bus_name_fault 1047 (codes "1047-foobar") ≡ None
unfolding bus_name_fault digits
of_its_user = refl

of_another_user : bus_name_fault 1047 (codes "1024-foobar") ≡ Some WrongPrefix
unfolding bus_name_fault digits
of_another_user = refl

of_no_user : bus_name_fault 1047 (codes "foobar") ≡ Some WrongPrefix
unfolding bus_name_fault digits
of_no_user = refl

nothing_behind : bus_name_fault 1047 (codes "1047-") ≡ Some WrongPrefix
unfolding bus_name_fault digits
nothing_behind = refl

no_label : bus_name_fault 1047 (codes "1024 foobar") ≡ Some NoLabel
unfolding bus_name_fault digits
no_label = refl
