use Rattle.std.proofs.Common.{◌≡◌}
use Rattle.kd_turn.proofs.pass.Pass.take.Given as goal

abbrev pub invariant-waiting : goal.invariant-waiting
invariant-waiting g l = (l.self-inside.seat.table_id ≡ l.initial.self-inside.seat.table_id) × (l.self-inside.seat.me ≡ l.initial.self-inside.seat.me)
    × (l.self-inside.turns ≡ l.initial.self-inside.turns)
