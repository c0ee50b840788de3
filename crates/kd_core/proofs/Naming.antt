-- Which bus items name, item by item.
use Rattle.std.proofs.Common.{◌≡◌, ℕ, List, ◌∷◌, Some, refl, ap}
use Rattle.kd_wire.specs.declared.item.WireItem.{WireItem}
use Rattle.kd_wire.specs.declared.item.WireItem.TheVariants as item
use Rattle.kd_commands.specs.Items.{bus_in}

pub named_here : (x : WireItem) (rest : List WireItem) (name : List ℕ) → x ≡ item.Bus name → bus_in (x ∷ rest) ≡ Some name
named_here x rest name e = ap (λ (y : WireItem). bus_in (y ∷ rest)) e

pub named_later : (x : WireItem) (rest : List WireItem) → ((name : List ℕ) → x ≡ item.Bus name → ⊥) → bus_in (x ∷ rest) ≡ bus_in rest
named_later (item.Bus name) rest never = absurd (never name refl)
named_later x rest never = refl
