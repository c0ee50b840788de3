-- What a user may call a bus of his own.
use Rattle.std.specs.Prelude.{ℕ, Bool, not, ◌&&◌, nat_lt, nat_eq, List, [], ◌∷◌, ◌++◌, length, Option, is_none}
use Rattle.std.specs.List.{starts_with}
use Rattle.std.specs.Fmt.{decimal}
use Rattle.kd_model.specs.Words.{first_that_holds}
use Rattle.kd_name.specs.declared.bus_name.BusNameFault.{BusNameFault}
use Rattle.kd_name.specs.declared.bus_name.BusNameFault.TheVariants.{NoLabel, WrongPrefix}
use Rattle.kd_name.specs.Names.{is_label}

-- what the names of a user's buses begin with: the number of the user in decimal, and a dash
abbrev pub prefix_of : ℕ → List ℕ
prefix_of uid = decimal uid ++ 45 ∷ []

-- the text begins with the user's prefix and has at least one byte behind it
abbrev pub has_prefix : ℕ → List ℕ → Bool
has_prefix uid name =
    starts_with nat_eq name (prefix_of uid) && nat_lt (length (prefix_of uid)) (length name)

-- why a bus of the user can't be called this, where it can't: it is no label; else it hasn't his
-- number in front
unfoldable pub bus_name_fault : ℕ → List ℕ → Option BusNameFault
bus_name_fault uid name = first_that_holds
    ((not (is_label name), NoLabel)
    ∷ (not (has_prefix uid name), WrongPrefix)
    ∷ [])

-- a bus of the user may be called this
abbrev pub is_bus_name : ℕ → List ℕ → Bool
is_bus_name uid name = is_none (bus_name_fault uid name)
