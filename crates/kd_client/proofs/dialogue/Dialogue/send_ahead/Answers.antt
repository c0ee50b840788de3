-- The frames go out whole, and then each reply is read; or one of the two breaks off.
use Rattle.kd_client.specs.declared.error.ClientError.TheVariants.{OutOfMemory}
use Rattle.kd_client.specs.Causes.{BrokeAhead}
use Rattle.kd_client.proofs.Hearing.{ahead_none, ahead_unheard, ahead_unsent, ahead_went, err_as}
use Rattle.kd_client.proofs.dialogue.Dialogue.send_ahead.Goals as goal

pub returns-in_err-heard-clause-err : goal.returns-in_err-heard-clause-err
returns-in_err-heard-clause-err g c =
    let link = g.L.Link.told c.args.self.now.link in
    err_as (BrokeAhead c.args.self.now.read link link c.args.commands.now) c.from_residual.result OutOfMemory c.from_residual.ensures.1 (ahead_none c.args.self.now.read link c.args.commands.now)

pub returns-in_err-write-clause-err : goal.returns-in_err-write-clause-err
returns-in_err-write-clause-err g c =
    let before = g.L.Link.told c.args.self.now.link in
    let after = g.L.Link.told c.write.new.self.link in
    let e = c.in_err-write.field-0.0 in
    err_as (BrokeAhead c.args.self.now.read before after c.args.commands.now) c.from_residual-in_err-write.result e c.from_residual-in_err-write.ensures.1 (ahead_unsent c.args.self.now.read before after c.args.commands.now e c.in_err-write.ensures.err c.in_err-write.ensures.kept)

pub returns-in_err-hear_each-clause-err : goal.returns-in_err-hear_each-clause-err
returns-in_err-hear_each-clause-err g c =
    let before = g.L.Link.told c.args.self.now.link in
    let mid = g.L.Link.told c.write.new.self.link in
    let after = g.L.Link.told c.hear_each.new.self.link in
    let e = c.in_err-hear_each.field-0.0 in
    err_as (BrokeAhead c.args.self.now.read before after c.args.commands.now) c.from_residual-in_err-hear_each.result e c.from_residual-in_err-hear_each.ensures.1
    (ahead_unheard c.args.self.now.read c.write.new.self.read before mid after c.args.commands.now e c.in_ok-write.ensures.read c.in_ok-write.ensures.ok c.in_ok-write.ensures.kept c.in_err-hear_each.ensures.kept c.in_err-hear_each.ensures.err)

pub returns-clause-ok : goal.returns-clause-ok
returns-clause-ok g c =
    ahead_went c.args.self.now.read c.write.new.self.read c.hear_each.new.self.read (g.L.Link.told c.args.self.now.link) (g.L.Link.told c.write.new.self.link) (g.L.Link.told c.hear_each.new.self.link) c.args.commands.now c.hear_each.new.heard.items
    c.in_ok-write.ensures.read c.in_ok-write.ensures.ok c.in_ok-write.ensures.faults c.in_ok-write.ensures.kept c.in_ok-hear_each.ensures.kept c.in_ok-hear_each.ensures.count c.in_ok-hear_each.ensures.heard
