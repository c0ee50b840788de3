-- The rows so far, the slots whose entries are left, and room for them.
use Rattle.std.specs.Prelude.{◌≤◌, length, vec_capacity}
use Rattle.kd_pool.proofs.Moves.{Moves}
use Rattle.kd_pool.proofs.table.move_queued.Given as goal

abbrev pub invariant-waiting : goal.invariant-waiting
invariant-waiting l = Moves l.slots l.rows.items l.queue × (vec_capacity l.initial.rows ≤ vec_capacity l.rows)

abbrev pub decreases-waiting : goal.decreases-waiting
decreases-waiting l = length l.queue
