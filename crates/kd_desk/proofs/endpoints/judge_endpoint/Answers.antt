use Rattle.std.proofs.Common.{sym, ap, ◌∙◌}
use Rattle.std.specs.Prelude.{is_some}
use Rattle.kd_endpoint.specs.Labels.{add_answer, label_number}
use Rattle.kd_commands.specs.State.{Desk}
use Rattle.kd_desk.proofs.Keeping.{last_judged}
use Rattle.kd_desk.proofs.endpoints.judge_endpoint.Goals as goal

pub returns : goal.returns
returns c =
    let label = c.args.label.now in
    c.may_add.ensures.answer
    ∙ ap (λ (y : Desk). add_answer y.endpoints label) c.desk.view_is
    ∙ last_judged c.args.desk.now c.args.creds.now label c.args.entries.now
    (sym c.is_ill_said.ensures ∙ c.if-is_ill_said.false)
    (sym c.has_wildcard.ensures ∙ c.if-has_wildcard.false)
    (sym c.is_privileged.ensures ∙ c.if-not-is_privileged.false)
    (ap (λ (y : Desk). is_some (label_number y.endpoints label)) (sym c.desk.view_is) ∙ sym (ap is_some c.find.ensures) ∙ sym c.is_some.ensures ∙ c.if-is_some.false)
    c.if-entries-gt-ENTRIES.false
