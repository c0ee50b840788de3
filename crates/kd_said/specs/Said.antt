-- What items say, as the code finds it.
use Rattle.std.specs.Prelude.{ℕ, Bool, false, List, [], ◌∷◌, Option, Some, None}
use Rattle.std.specs.Borrow.{Bor}
use Rattle.kd_match.specs.Rules.{is_bad_name}
use Rattle.kd_wire.specs.declared.item.WireItem.{WireItem}
use Rattle.kd_wire.specs.declared.item.WireItem.TheVariants as item
use Rattle.kd_commands.specs.Items.{Filter, Named}
use Rattle.kd_said.specs.declared.seals.Named as code

-- the item names what is neither empty nor a name
abbrev pub misnamed : WireItem → Bool
misnamed (item.Name n) = is_bad_name n
misnamed (item.NameAdd old new n) = is_bad_name n
misnamed (item.NameRemove old new n) = is_bad_name n
misnamed (item.NameChange old new n) = is_bad_name n
misnamed _ = false

-- the first name
abbrev pub name_among : List WireItem → Option (List ℕ)
name_among [] = None
name_among (item.Name n ∷ is) = Some n
name_among (_ ∷ is) = name_among is

-- a filter as the code finds it
abbrev pub filter_of : ℕ × Bor (List ℕ) → Filter
filter_of f = record { generation = f.0; bits = f.1.now }

-- a seal that is named, as the code finds it
abbrev pub named_of : code.Named → Named
named_of n = record { number = n.number; range = n.range }
