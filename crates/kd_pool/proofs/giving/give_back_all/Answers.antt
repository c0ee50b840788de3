-- The slot in hand is in the book, and goes out of it if it has to; at the end those are left that
-- stay.
use Rattle.std.specs.Prelude.{List, true, map}
use Rattle.std.proofs.Common.{ap, ◌∙◌}
use Rattle.kd_model.specs.Slices.{Book}
use Rattle.kd_pool.proofs.Sweeps.{is_in_book, none_stay, swept_all, sweeps_on}
use Rattle.kd_acts.specs.State.{placed_of}
use Rattle.kd_acts.specs.declared.slot.Slot.{Slot}
use Rattle.kd_pool.proofs.giving.give_back_all.Goals as goal

pub give_back-requires : goal.give_back-requires
give_back-requires c = is_in_book (λ _. true) c.args.book.now.size c.args.slots.now c.slots.slot-index c.slot-item.result c.slots.book c.slots-test.true c.slot-item.is c.slots.invariant

pub slots-preserved : goal.slots-preserved
slots-preserved c = sweeps_on (λ _. true) c.args.book.now.size c.args.slots.now c.slots.slot-index c.slot-item.result c.slots.book _ c.slots-test.true c.slot-item.is c.slots.invariant c.give_back.ensures.gone c.give_back.ensures.sound

pub returns-clause-all : goal.returns-clause-all
returns-clause-all c =
    let P : List Slot → Book = λ xs. record { size = c.args.book.now.size; slices = map placed_of xs } in
    swept_all (λ _. true) c.args.book.now.size c.args.slots.now c.slots.slot-index c.slots.book c.slots-test.false c.slots.invariant ∙ ap P (none_stay c.args.slots.now)
