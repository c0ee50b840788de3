-- Of the slots so far the freed ones are out of the book.
use Rattle.kd_pool.proofs.Sweeps.{Sweeps}
use Rattle.kd_acts.specs.State.{is_freed}
use Rattle.kd_pool.proofs.giving.give_back_freed.Given as goal

abbrev pub invariant-slots : goal.invariant-slots
invariant-slots l = Sweeps is_freed l.initial.book.size l.slots l.slot-index l.book
