use Rattle.std.proofs.Common.{◌++◌, ◌∙◌}
use Rattle.kd_policy.specs.Granted.{nothing_granted}
use Rattle.kd_policy.proofs.Granting.{none_found, holding_more}
use Rattle.kd_policy.proofs.policy.PolicyDb.granted.Goals as goal

pub holdings-init : goal.holdings-init
holdings-init c = none_found nothing_granted (c.args.front.now ++ c.args.back.now) c.args.uid c.args.gid

pub holdings-preserved : goal.holdings-preserved
holdings-preserved c =
    c.grant-found.ensures ∙ holding_more c.args.scope c.deref-holding-items.result.now c.holdings.holding-index c.holding-item.result c.holdings.found (c.args.front.now ++ c.args.back.now) c.args.uid c.args.gid c.holdings-test.true c.holding-item.is c.holdings.invariant
