-- The share of the slot in hand ends, and behind the last nothing is left.
use Rattle.std.specs.Prelude.{true}
use Rattle.std.proofs.Common.{ap, sym, ◌∙◌}
use Rattle.std.proofs.lemmas.List.{drop_all}
use Rattle.kd_pool.specs.Sealed.{without_shares}
use Rattle.kd_pool.proofs.Sharing.{ends_on}
use Rattle.kd_pool.proofs.sealed.end_all.Goals as goal

pub slots-preserved : goal.slots-preserved
slots-preserved c = ends_on (λ _. true) c.args.slots.now c.slots.slot-index c.slot-item.result c.slots.shares.items c.put.new.shares.items c.slots-test.true c.slot-item.is c.put.ensures ∙ c.slots.invariant

pub returns : goal.returns
returns c =
    let none = drop_all c.slots.slot-index c.args.slots.now c.slots-test.false in
    sym (ap (λ xs. without_shares (λ _. true) xs c.slots.shares.items) none) ∙ c.slots.invariant
