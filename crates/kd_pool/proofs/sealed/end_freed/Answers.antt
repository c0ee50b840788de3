-- The share of the slot in hand ends if it is freed, and behind the last nothing is left.
use Rattle.std.proofs.Common.{ap, sym, ◌∙◌}
use Rattle.std.proofs.lemmas.List.{drop_all}
use Rattle.kd_acts.specs.State.{is_freed}
use Rattle.kd_pool.specs.Sealed.{without_shares}
use Rattle.kd_pool.proofs.Sharing.{ends_on}
use Rattle.kd_pool.proofs.sealed.end_freed.Goals as goal

pub slots-preserved : goal.slots-preserved
slots-preserved c = ends_on is_freed c.args.slots.now c.slots.slot-index c.slot-item.result c.slots.shares.items c.end_if_freed.new.shares.items c.slots-test.true c.slot-item.is c.end_if_freed.ensures ∙ c.slots.invariant

pub returns : goal.returns
returns c =
    let none = drop_all c.slots.slot-index c.args.slots.now c.slots-test.false in
    sym (ap (λ xs. without_shares is_freed xs c.slots.shares.items) none) ∙ c.slots.invariant
