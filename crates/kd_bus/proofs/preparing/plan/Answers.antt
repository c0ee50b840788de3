use Rattle.std.proofs.Common.{◌∙◌, true, false, sym, subst}
use Rattle.kd_tables.specs.Drafts.{PlanResult}
use Rattle.kd_bus.proofs.Planned.{astray, in_order}
use Rattle.kd_bus.proofs.preparing.plan.Goals as goal

pub returns-then-is_astray-clause-planned : goal.returns-then-is_astray-clause-planned
returns-then-is_astray-clause-planned c = astray c.args.generation c.args.aim c.args.desk.now c.args.who.now c.args.cmd true (sym c.is_astray.ensures ∙ c.if-is_astray.true)

pub returns-clause-planned : goal.returns-clause-planned
returns-clause-planned c =
    subst (λ w. PlanResult c.args.desk.now w c.plan.result)
    (sym (astray c.args.generation c.args.aim c.args.desk.now c.args.who.now c.args.cmd false (sym c.is_astray.ensures ∙ c.if-is_astray.false)))
    c.plan.ensures

pub returns-clause-order : goal.returns-clause-order
returns-clause-order c = in_order c.args.desk.now c.args.who.now c.args.cmd c.plan.result c.requires.form c.plan.ensures
