use Rattle.std.proofs.Common.{sym, subst}
use Rattle.kd_bus.specs.Members.{MemberBelongs}
use Rattle.kd_bus.specs.Sight.{BusSight}
use Rattle.kd_bus.proofs.Belonging.{start_belongs}
use Rattle.kd_bus.proofs.bus.Bus.start.Goals as goal

pub returns-clause-own : goal.returns-clause-own
returns-clause-own g c = λ m b.
    start_belongs m c.start.result c.args.creator c.args.param.size c.args.param.hashes c.pass.inside.pass.view c.start.new.pass.view c.start.ensures.starts c.start.ensures.wanting
    (subst (λ (z : BusSight). MemberBelongs z.view m) (sym c.pass.view_is) b)
