use Rattle.std.proofs.Common.{◌≡◌, ℕ, ◌<◌, ◌≤◌, false, Some, length, get_or, vec_capacity}
use Rattle.std.specs.Slots.{slots_filled, slots_items, slots_len}
use Rattle.std.specs.Slots.Ownership.{Filled}
use mathlib.Core.Option.{some}
use lib.ListN.{get_elem?}
use Rattle.kd_turn.specs.declared.views.Cell.{Cell}
use Rattle.kd_turn.proofs.closing.emptied.Given as goal

abbrev pub invariant-emptying : goal.invariant-emptying
invariant-emptying g l =
    (length l.values.items ≡ l.lock) × (l.fn.locks ≤ vec_capacity l.values) × (slots_len l.closed.slots ≡ l.fn.locks) × (slots_items l.closed.slots ≡ slots_items l.initial.closed.slots)
    × Filled (slots_filled l.closed.slots) l.lock (slots_len l.closed.slots) × ((k : ℕ) → k < l.lock → get_or (slots_filled l.closed.slots) k false ≡ false)
    × ((k : ℕ) (x : g.row.T.Denot) → get_elem? l.values.items k ≡ some x
    → (y : Cell g.row.T.Denot g.row.E.Denot) × (get_elem? (slots_items l.initial.closed.slots) k ≡ some y) × (y.value ≡ Some x))
