-- What a rule's items ask for, item by item.
use Rattle.std.specs.Prelude.{◌≡◌, ◌++◌, ℕ, List, [], ◌∷◌}
use Rattle.std.specs.List.{cons_option}
use Rattle.std.proofs.lemmas.List.Elements.{filter_map-append}
use Rattle.kd_wire.specs.declared.item.WireItem.{WireItem}
use Rattle.kd_commands.specs.Items.{condition_of, conditions_in}

-- an item more
pub conditions_more : (size : ℕ) (is : List WireItem) (i : WireItem) → conditions_in size (is ++ i ∷ []) ≡ conditions_in size is ++ cons_option (condition_of size i) []
conditions_more size is i = filter_map-append (condition_of size) is (i ∷ [])
