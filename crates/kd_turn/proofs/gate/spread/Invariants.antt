use Rattle.std.proofs.Common.{◌≡◌, ◌+◌, ◌≤◌, [], length, vec_capacity}
use Rattle.kd_hands.specs.Views.{last_view}
use Rattle.kd_turn.specs.Told.{AreFresh}
use Rattle.kd_turn.proofs.gate.spread.Given as goal

abbrev pub invariant-making : goal.invariant-making
invariant-making g l =
    (length l.all.items + 1 ≡ l.counter) × (l.fn.passes ≤ vec_capacity l.all) × (l.last.table_id ≡ l.gate.id)
    × (l.last.me ≡ (last_view l.last.table_id.slots (length l.all.items), [])) × AreFresh l.gate.id l.all.items
