use Rattle.std.proofs.Common.{◌≡◌, ℕ, List, None, false, length, ap, sym, ◌∙◌}
use Rattle.std.specs.Prelude.{nat_le}
use Rattle.kd_model.specs.Words.{first_that_holds}
use Rattle.kd_wire.specs.declared.item.WireItem.{WireItem}
use Rattle.kd_wire.specs.declared.reply.Reply.TheVariants as reply
use Rattle.kd_match.specs.Rules.{result_of}
use Rattle.kd_commands.specs.State.{Desk}
use Rattle.kd_commands.specs.Items.{conditions_in}
use Rattle.kd_commands.specs.Matches.{match_add, match_refusals}
use Rattle.kd_tables.specs.declared.change.Change.TheVariants as change
use Rattle.kd_tables.specs.Drafts.{Fits, applied}
use Rattle.kd_desk.proofs.Quiet.{not_refused, quiet_planned}
use Rattle.kd_desk.proofs.Refused.{refused_with}
use Rattle.kd_desk.proofs.Rules.{add_planned, add_refused, has_room, rule_fits_in}
use Rattle.kd_desk.proofs.matching.plan_match_add.Goals as goal

pub returns-in_err-judge_rule : goal.returns-in_err-judge_rule
returns-in_err-judge_rule c =
    let d : Desk = c.args.desk.now in
    let why = c.in_err-judge_rule.field-0.0 in
    refused_with d (match_add d c.args.conn.now c.args.replace c.args.cookie c.args.items) c.from_residual.result why c.from_residual.ensures.1
    (add_refused d c.args.conn.now c.args.replace c.args.cookie c.args.items why (c.in_err-judge_rule.ensures ∙ ap (λ (l : List WireItem). result_of (first_that_holds (match_refusals d c.args.conn.now c.args.replace c.args.cookie l))) c.items-2.ensures))

pub returns : goal.returns
unfolding Fits applied
returns c =
    let d : Desk = c.args.desk.now in
    let x = c.args.conn.now in
    let none : first_that_holds (match_refusals d x c.args.replace c.args.cookie c.args.items) ≡ None = not_refused (first_that_holds (match_refusals d x c.args.replace c.args.cookie c.args.items)) (c.in_ok-judge_rule.ensures ∙ ap (λ (l : List WireItem). result_of (first_that_holds (match_refusals d x c.args.replace c.args.cookie l))) c.items-2.ensures) in
    let asked : c.in_ok-conditions.conditions.items ≡ conditions_in d.rules.size c.args.items = c.in_ok-conditions.ensures.conditions ∙ ap (λ (n : ℕ). conditions_in n c.args.items) c.filters.ensures in
    let few : nat_le 4096 (length d.rules.rules) ≡ false = sym (ap (λ (y : Desk). nat_le 4096 (length y.rules.rules)) c.desk.view_is) ∙ sym c.is_full.ensures ∙ c.if-is_full.false in
    rw (c.quiet.ensures, c.itself.ensures)
    (quiet_planned d x reply.MatchAdd (change.AddsRule x.id c.args.cookie c.in_ok-conditions.conditions c.args.replace) (match_add d x c.args.replace c.args.cookie c.args.items)
    (rw asked (rule_fits_in d x c.args.replace c.args.cookie c.args.items none), has_room d.rules.rules x.id c.args.cookie c.args.replace few)
    (rw asked (add_planned d x c.args.replace c.args.cookie c.args.items none)))
