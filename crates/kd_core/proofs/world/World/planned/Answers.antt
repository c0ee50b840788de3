-- The desk's plan, unless another bus is named.
use Rattle.std.proofs.Common.{◌∙◌, subst, sym}
use Rattle.kd_tables.specs.Drafts.{PlanResult}
use Rattle.kd_world.specs.Planner.{planned}
use Rattle.kd_core.specs.Running.{Running}
use Rattle.kd_core.proofs.Takes.{orders}
use Rattle.kd_core.proofs.Wholes.{planned_here}
use Rattle.kd_core.proofs.world.World.planned.Goals as goal

pub returns-clause-planned : goal.returns-clause-planned
returns-clause-planned c =
    let here = planned_here c.self.inside.desk c.args.who.now c.args.command c.plan.result (sym c.is_astray.ensures ∙ c.if-is_astray.false) c.plan.ensures in
    subst (λ (r : Running). PlanResult r.world.desk (planned r.world.desk c.args.who.now c.args.command) c.plan.result) c.self.view_is here

pub returns-clause-order : goal.returns-clause-order
returns-clause-order c =
    orders c.self.inside.desk c.args.who.now c.args.command c.plan.result c.requires.form
    (planned_here c.self.inside.desk c.args.who.now c.args.command c.plan.result (sym c.is_astray.ensures ∙ c.if-is_astray.false) c.plan.ensures)
