use Rattle.std.proofs.Common.{◌≡◌, Ok, ap, ◌∙◌}
use Rattle.kd_wire.specs.declared.reply.Reply.TheVariants as reply
use Rattle.kd_seal.specs.Book.{unseal_answer}
use Rattle.kd_commands.specs.State.{Desk}
use Rattle.kd_commands.specs.Seals.{unseal}
use Rattle.kd_tables.specs.declared.change.Change.TheVariants as change
use Rattle.kd_desk.proofs.Quiet.{quiet_planned}
use Rattle.kd_desk.proofs.Refused.{refused_with}
use Rattle.kd_desk.proofs.Rules.{unseal_fits, unseal_planned, unseal_refused}
use Rattle.kd_desk.proofs.sealing.plan_unseal.Goals as goal

pub returns-in_err-may_unseal : goal.returns-in_err-may_unseal
returns-in_err-may_unseal c =
    let d : Desk = c.args.desk.now in
    let why = c.in_err-may_unseal.field-0.0 in
    refused_with d (unseal d c.args.conn.now c.args.number) c.from_residual.result why c.from_residual.ensures.1
    (unseal_refused d c.args.conn.now c.args.number why (c.in_err-may_unseal.ensures.answer ∙ ap (λ (y : Desk). unseal_answer y.seals c.args.conn.now.id c.args.number) c.desk.view_is))

pub returns : goal.returns
returns c =
    let d : Desk = c.args.desk.now in
    let x = c.args.conn.now in
    let found : Ok tt ≡ unseal_answer d.seals x.id c.args.number = c.in_ok-may_unseal.ensures.answer ∙ ap (λ (y : Desk). unseal_answer y.seals c.args.conn.now.id c.args.number) c.desk.view_is in
    rw (c.quiet.ensures, c.itself.ensures) (quiet_planned d x reply.Unseal (change.Unseals x.id c.args.number) (unseal d x c.args.number) (unseal_fits d x.id c.args.number found) (unseal_planned d x c.args.number found))
