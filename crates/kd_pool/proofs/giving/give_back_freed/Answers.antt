-- The slot in hand is in the book, and goes out of it if it has to; at the end those are left that
-- stay.
use Rattle.kd_pool.proofs.Sweeps.{is_in_book, swept_all, sweeps_on}
use Rattle.kd_acts.specs.State.{is_freed}
use Rattle.kd_pool.proofs.giving.give_back_freed.Goals as goal

pub give_back_if_freed-requires : goal.give_back_if_freed-requires
give_back_if_freed-requires c = record { placed = is_in_book is_freed c.args.book.now.size c.args.slots.now c.slots.slot-index c.slot-item.result c.slots.book c.slots-test.true c.slot-item.is c.slots.invariant; sound = c.slots.invariant.sound }

pub slots-preserved : goal.slots-preserved
slots-preserved c = sweeps_on is_freed c.args.book.now.size c.args.slots.now c.slots.slot-index c.slot-item.result c.slots.book _ c.slots-test.true c.slot-item.is c.slots.invariant c.give_back_if_freed.ensures.freed c.give_back_if_freed.ensures.sound

pub returns-clause-freed : goal.returns-clause-freed
returns-clause-freed c = swept_all is_freed c.args.book.now.size c.args.slots.now c.slots.slot-index c.slots.book c.slots-test.false c.slots.invariant
