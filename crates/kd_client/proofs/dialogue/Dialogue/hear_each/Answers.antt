-- A reply more each time, or none.
use Rattle.std.proofs.Common.{refl, ◌∙◌, ap, length, arith}
use Rattle.kd_client.specs.Causes.{HeardFront}
use Rattle.kd_client.proofs.Hearing.{heard_none, heard_more, heard_front, err_as}
use Rattle.kd_client.proofs.dialogue.Dialogue.hear_each.Goals as goal

pub commands-init : goal.commands-init
commands-init g c = (heard_none (g.L.Link.told c.args.self.now.link).reading c.args.self.now.read, ap length c.requires.none, c.requires.room, omega arith, refl)

pub returns-in_err-reply-clause-err : goal.returns-in_err-reply-clause-err
returns-in_err-reply-clause-err g c =
    let cs = c.args.commands.now in
    let i = c.commands.command-index in
    let e = c.in_err-reply.field-0.0 in
    let front = heard_front (g.L.Link.told c.args.self.now.link).reading (g.L.Link.told c.commands.self.link).reading (g.L.Link.told c.hear.new.self.link).reading c.args.self.now.read c.commands.self.read cs c.commands.heard.items i c.command-item.result e c.commands-test.true c.command-item.is c.commands.invariant.1 c.commands.invariant.0 c.in_err-reply.ensures.err in
    err_as (HeardFront c.args.self.now.read (g.L.Link.told c.args.self.now.link).reading (g.L.Link.told c.hear.new.self.link).reading cs) c.from_residual.result e c.from_residual.ensures.1 front

pub commands-preserved : goal.commands-preserved
commands-preserved g c =
    let cs = c.args.commands.now in
    let i = c.commands.command-index in
    let ok = c.in_ok-reply.ensures in
    let more = heard_more (g.L.Link.told c.args.self.now.link).reading (g.L.Link.told c.commands.self.link).reading (g.L.Link.told c.hear.new.self.link).reading c.args.self.now.read c.commands.self.read c.hear.new.self.read cs c.commands.heard.items i c.command-item.result c.in_ok-reply.reply c.commands-test.true c.command-item.is c.commands.invariant.1 c.commands.invariant.0 ok.read ok.answers ok.faults ok.place in
    (rw c.push_reserved.ensures.items more, omega (arith, ap length c.push_reserved.ensures.items, c.commands.invariant.1), omega (arith, c.push_reserved.ensures.capacity, c.commands.invariant.2), omega (arith, ok.few, c.commands.invariant.3), ok.kept ∙ c.commands.invariant.4)
