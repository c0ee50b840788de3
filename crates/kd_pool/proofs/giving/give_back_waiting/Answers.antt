-- The slot in hand is in the book, and goes out of it if it has to; at the end those are left that
-- stay.
use Rattle.kd_pool.proofs.Sweeps.{is_in_book, swept_all, sweeps_on}
use Rattle.kd_acts.specs.State.{is_waiting}
use Rattle.kd_pool.proofs.giving.give_back_waiting.Goals as goal

pub give_back_if_waiting-requires : goal.give_back_if_waiting-requires
give_back_if_waiting-requires c = record { placed = is_in_book is_waiting c.args.book.now.size c.args.slots.now c.slots.slot-index c.slot-item.result c.slots.book c.slots-test.true c.slot-item.is c.slots.invariant; sound = c.slots.invariant.sound }

pub slots-preserved : goal.slots-preserved
slots-preserved c = sweeps_on is_waiting c.args.book.now.size c.args.slots.now c.slots.slot-index c.slot-item.result c.slots.book _ c.slots-test.true c.slot-item.is c.slots.invariant c.give_back_if_waiting.ensures.gone c.give_back_if_waiting.ensures.sound

pub returns-clause-gone : goal.returns-clause-gone
returns-clause-gone c = swept_all is_waiting c.args.book.now.size c.args.slots.now c.slots.slot-index c.slots.book c.slots-test.false c.slots.invariant
