use Rattle.std.proofs.Common.{sym, subst}
use Rattle.kd_bus.specs.Sight.{BusSight}
use Rattle.kd_bus.specs.Turned.{Belongs}
use Rattle.kd_bus.proofs.Looking.{reads_belong}
use Rattle.kd_bus.proofs.bus.Bus.read.Goals as goal

pub returns-clause-own_others : goal.returns-clause-own_others
returns-clause-own_others g c = λ k b.
    reads_belong c.args.conn.now.seat c.args.number c.args.sealed c.read.result c.args.conn.now.hand c.pass.inside.pass.view c.read.new.pass.view k (subst (λ (z : BusSight). Belongs z.view k) (sym c.pass.view_is) b) c.read.ensures.reads
