use Rattle.std.proofs.Common.{sym, subst}
use Rattle.kd_bus.specs.Sight.{BusSight}
use Rattle.kd_bus.specs.Turned.{Belongs}
use Rattle.kd_bus.proofs.Kept.{release_keeps, release_others}
use Rattle.kd_bus.proofs.bus.Bus.release.Goals as goal

pub returns-clause-own : goal.returns-clause-own
returns-clause-own c =
    let own = subst (λ (z : BusSight). Belongs z.view c.args.conn.now) (sym c.pass.view_is) c.requires.own in
    release_keeps c.args.conn.now c.args.number c.pass.inside.pass c.release.new.pass c.release.new.hand c.release.result own c.release.ensures.answer c.release.ensures.freed c.release.ensures.marked c.release.ensures.refused

pub returns-clause-own_others : goal.returns-clause-own_others
returns-clause-own_others c = λ k ne b.
    release_others c.args.conn.now.seat c.args.number c.release.result c.args.conn.now.hand c.release.new.hand c.pass.inside.pass c.release.new.pass k ne (subst (λ (z : BusSight). Belongs z.view k) (sym c.pass.view_is) b) c.release.ensures.marked c.release.ensures.refused
