-- The slots so far are out of the book.
use Rattle.std.specs.Prelude.{true}
use Rattle.kd_pool.proofs.Sweeps.{Sweeps}
use Rattle.kd_pool.proofs.giving.give_back_all.Given as goal

abbrev pub invariant-slots : goal.invariant-slots
invariant-slots l = Sweeps (λ _. true) l.initial.book.size l.slots l.slot-index l.book
