-- The slots so far are changed, the others as they were.
use Rattle.std.specs.Prelude.{◌≡◌, ◌++◌, drop, map, take, vec_capacity}
use Rattle.kd_acts.specs.Steps.{now_queued}
use Rattle.kd_pool.proofs.table.set_queued.Given as goal

abbrev pub invariant-slots : goal.invariant-slots
invariant-slots l = (l.slots.items ≡ map (now_queued l.number l.priority l.arrival) (take l.i l.initial.slots.items) ++ drop l.i l.initial.slots.items) × (vec_capacity l.slots ≡ vec_capacity l.initial.slots)
