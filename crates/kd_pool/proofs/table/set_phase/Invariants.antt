-- The slots so far are changed, the others as they were.
use Rattle.std.specs.Prelude.{◌≡◌, ◌++◌, drop, map, take, vec_capacity}
use Rattle.kd_acts.specs.Steps.{in_phase}
use Rattle.kd_pool.proofs.table.set_phase.Given as goal

abbrev pub invariant-slots : goal.invariant-slots
invariant-slots l = (l.slots.items ≡ map (in_phase l.phase l.number) (take l.i l.initial.slots.items) ++ drop l.i l.initial.slots.items) × (vec_capacity l.slots ≡ vec_capacity l.initial.slots)
