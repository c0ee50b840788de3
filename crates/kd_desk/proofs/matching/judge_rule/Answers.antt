use Rattle.std.proofs.Common.{ℕ, ap, sym, ◌∙◌, []}
use Rattle.kd_model.specs.Words.{some_of}
use Rattle.kd_match.specs.Rules.{result_of, rule_refusal}
use Rattle.kd_commands.specs.Items.{is_bad_mask}
use Rattle.kd_commands.specs.State.{Desk}
use Rattle.kd_desk.proofs.Rules.{bad_name_judged, bad_mask_judged, many_judged, rest_judged}
use Rattle.kd_desk.proofs.matching.judge_rule.Goals as goal

pub returns-then-has_bad_name : goal.returns-then-has_bad_name
returns-then-has_bad_name c = bad_name_judged c.args.desk.now c.args.conn.now c.args.replace c.args.cookie c.args.items.now (sym c.has_bad_name.ensures ∙ c.if-has_bad_name.true)

pub returns-then-has_bad_mask : goal.returns-then-has_bad_mask
returns-then-has_bad_mask c =
    let size = ap (λ (n : ℕ). some_of (is_bad_mask n) c.args.items.now) (sym c.filters.ensures) in
    bad_mask_judged c.args.desk.now c.args.conn.now c.args.replace c.args.cookie c.args.items.now (sym c.has_bad_name.ensures ∙ c.if-has_bad_name.false) (size ∙ sym c.has_bad_mask.ensures ∙ c.if-has_bad_mask.true)

pub returns-then-items-gt-CONDITIONS : goal.returns-then-items-gt-CONDITIONS
returns-then-items-gt-CONDITIONS c =
    let size = ap (λ (n : ℕ). some_of (is_bad_mask n) c.args.items.now) (sym c.filters.ensures) in
    many_judged c.args.desk.now c.args.conn.now c.args.replace c.args.cookie c.args.items.now (sym c.has_bad_name.ensures ∙ c.if-has_bad_name.false) (size ∙ sym c.has_bad_mask.ensures ∙ c.if-has_bad_mask.false) c.if-items-gt-CONDITIONS.true

pub returns : goal.returns
returns c =
    let size = ap (λ (n : ℕ). some_of (is_bad_mask n) c.args.items.now) (sym c.filters.ensures) in
    rest_judged c.args.desk.now c.args.conn.now c.args.replace c.args.cookie c.args.items.now c.may_add.result (sym c.has_bad_name.ensures ∙ c.if-has_bad_name.false) (size ∙ sym c.has_bad_mask.ensures ∙ c.if-has_bad_mask.false) c.if-items-gt-CONDITIONS.false
    (c.may_add.ensures ∙ ap (λ (y : Desk). result_of (rule_refusal y.rules c.args.conn.now.id c.args.cookie [] c.args.replace)) c.desk.view_is)
