-- The best so far and the best of what is left are the best of all.
use Rattle.std.specs.Prelude.{drop}
use Rattle.kd_pool.proofs.Picks.{Leads}
use Rattle.kd_acts.specs.State.{is_reserved}
use Rattle.kd_acts.specs.Steps.{of_lower_number}
use Rattle.kd_pool.proofs.table.lowest_reserved.Given as goal

abbrev pub invariant-slots : goal.invariant-slots
invariant-slots l = Leads of_lower_number is_reserved l.best l.slots (drop l.slot-index l.slots)
