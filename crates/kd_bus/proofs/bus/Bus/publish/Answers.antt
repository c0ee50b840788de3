use Rattle.std.proofs.Common.{sym, subst}
use Rattle.kd_bus.specs.Sight.{BusSight}
use Rattle.kd_bus.specs.Turned.{Belongs}
use Rattle.kd_bus.proofs.Kept.{publishes_belong}
use Rattle.kd_bus.proofs.bus.Bus.publish.Goals as goal

pub returns-clause-own : goal.returns-clause-own
returns-clause-own g c = λ k b.
    publishes_belong c.args.pending c.publish.result c.pass.inside.pass.view c.publish.new.pass.view k (subst (λ (z : BusSight). Belongs z.view k) (sym c.pass.view_is) b) c.publish.ensures.publishes
