-- The share of the slot in hand moves if it waits, and behind the last nothing is left.
use Rattle.std.proofs.Common.{ap, sym, ◌∙◌}
use Rattle.std.proofs.lemmas.List.{drop_all}
use Rattle.kd_acts.specs.State.{is_waiting}
use Rattle.kd_pool.specs.Sealed.{with_all_moved, without_shares}
use Rattle.kd_pool.proofs.Sharing.{ends_on, moved_on}
use Rattle.kd_pool.proofs.sealed.move_waiting.Goals as goal

pub slots-preserved : goal.slots-preserved
slots-preserved c = (
  ends_on is_waiting c.args.slots.now c.slots.slot-index c.slot-item.result c.slots.from.items c.move_if_waiting.new.from.items c.slots-test.true c.slot-item.is c.move_if_waiting.ensures.from ∙ c.slots.invariant.0,
  moved_on is_waiting c.args.slots.now c.slots.slot-index c.slot-item.result c.slots.from.items c.slots.to.items c.move_if_waiting.new.from.items c.move_if_waiting.new.to.items c.slots-test.true c.slot-item.is c.move_if_waiting.ensures.from c.move_if_waiting.ensures.to ∙ c.slots.invariant.1,
)

pub returns-clause-from : goal.returns-clause-from
returns-clause-from c =
    let none = drop_all c.slots.slot-index c.args.slots.now c.slots-test.false in
    sym (ap (λ xs. without_shares is_waiting xs c.slots.from.items) none) ∙ c.slots.invariant.0

pub returns-clause-to : goal.returns-clause-to
returns-clause-to c =
    let none = drop_all c.slots.slot-index c.args.slots.now c.slots-test.false in
    sym (ap (λ xs. with_all_moved is_waiting xs c.slots.from.items c.slots.to.items) none) ∙ c.slots.invariant.1
