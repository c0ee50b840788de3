-- Of the slots so far those that wait are out of the book.
use Rattle.kd_pool.proofs.Sweeps.{Sweeps}
use Rattle.kd_acts.specs.State.{is_waiting}
use Rattle.kd_pool.proofs.giving.give_back_waiting.Given as goal

abbrev pub invariant-slots : goal.invariant-slots
invariant-slots l = Sweeps is_waiting l.initial.book.size l.slots l.slot-index l.book
