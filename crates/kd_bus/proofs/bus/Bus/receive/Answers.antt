use Rattle.std.proofs.Common.{sym, subst}
use Rattle.kd_bus.specs.Sight.{BusSight}
use Rattle.kd_bus.specs.Turned.{Belongs}
use Rattle.kd_bus.proofs.Kept.{belongs_sits, receives_belong, receives_others}
use Rattle.kd_bus.proofs.bus.Bus.receive.Goals as goal

pub receive-requires-clause-sits : goal.receive-requires-clause-sits
receive-requires-clause-sits g c =
    belongs_sits c.pass.inside.pass.view c.args.conn.now (subst (λ (z : BusSight). Belongs z.view c.args.conn.now) (sym c.pass.view_is) c.requires.own)

pub returns-clause-own : goal.returns-clause-own
returns-clause-own g c =
    let own = subst (λ (z : BusSight). Belongs z.view c.args.conn.now) (sym c.pass.view_is) c.requires.own in
    receives_belong c.args.conn.now c.args.mode c.receive.result c.receive.new.hand c.pass.inside.pass.view c.receive.new.pass.view own c.receive.ensures.receives

pub returns-clause-own_others : goal.returns-clause-own_others
returns-clause-own_others g c = λ k ne b.
    receives_others c.args.conn.now.seat c.args.mode c.receive.result c.args.conn.now.hand c.receive.new.hand c.pass.inside.pass.view c.receive.new.pass.view k ne (subst (λ (z : BusSight). Belongs z.view k) (sym c.pass.view_is) b) c.receive.ensures.receives
