use Rattle.std.proofs.Common.{◌≡◌, None, ap, ◌∙◌}
use Rattle.kd_wire.specs.declared.reply.Reply.TheVariants as reply
use Rattle.kd_match.specs.Rules.{remove_refusal, result_of}
use Rattle.kd_commands.specs.State.{Desk}
use Rattle.kd_commands.specs.Matches.{match_remove}
use Rattle.kd_tables.specs.declared.change.Change.TheVariants as change
use Rattle.kd_desk.proofs.Quiet.{not_refused, quiet_planned}
use Rattle.kd_desk.proofs.Refused.{refused_with}
use Rattle.kd_desk.proofs.Rules.{remove_fits, remove_planned, remove_refused}
use Rattle.kd_desk.proofs.matching.plan_match_remove.Goals as goal

pub returns-in_err-may_remove : goal.returns-in_err-may_remove
returns-in_err-may_remove c =
    let d : Desk = c.args.desk.now in
    let why = c.in_err-may_remove.field-0.0 in
    refused_with d (match_remove d c.args.conn.now c.args.cookie) c.from_residual.result why c.from_residual.ensures.1
    (remove_refused d c.args.conn.now c.args.cookie why (c.in_err-may_remove.ensures ∙ ap (λ (y : Desk). result_of (remove_refusal y.rules c.args.conn.now.id c.args.cookie)) c.desk.view_is))

pub returns : goal.returns
returns c =
    let d : Desk = c.args.desk.now in
    let x = c.args.conn.now in
    let none : remove_refusal d.rules x.id c.args.cookie ≡ None = not_refused (remove_refusal d.rules x.id c.args.cookie) (c.in_ok-may_remove.ensures ∙ ap (λ (y : Desk). result_of (remove_refusal y.rules c.args.conn.now.id c.args.cookie)) c.desk.view_is) in
    rw (c.quiet.ensures, c.itself.ensures) (quiet_planned d x reply.MatchRemove (change.RemovesRules x.id c.args.cookie) (match_remove d x c.args.cookie) (remove_fits d x.id c.args.cookie none) (remove_planned d x c.args.cookie none))
