use Rattle.std.proofs.Common.{sym, subst}
use Rattle.kd_core.proofs.Alongs.{either_way, reached_by}
use Rattle.kd_core.specs.Running.{Running, event_of, stepped}
use Rattle.kd_world.proofs.Reached.{hands_always_agree}
use Rattle.kd_world.proofs.Staying as staying
use Rattle.kd_world.specs.State.{World}
use Rattle.kd_world.specs.Step.{step}
use Rattle.kd_world.specs.Runs.{IsReached}
use Rattle.kd_world.specs.Agreed.{HandsAgree}
use Rattle.kd_core.proofs.world.World.step.Goals as goal

pub returns-clause-hands : goal.returns-clause-hands
unfolding stepped
returns-clause-hands c = λ r.
    let w : World = c.args.self.now.world in
    let on : IsReached (step w (event_of c.args.event)) = reached_by w (event_of c.args.event) c.requires.may r in
    either_way (IsReached c.run.new.self.world × HandsAgree c.run.new.self.world) c.run.result c.run.ensures.ok c.run.ensures.err
    (λ e. subst (λ (x : Running). IsReached x.world × HandsAgree x.world) (sym e) (on, hands_always_agree (step w (event_of c.args.event)) on))
    (λ e. subst (λ (x : Running). IsReached x.world × HandsAgree x.world) (sym e) (r, hands_always_agree w r))

pub returns-clause-slices : goal.returns-clause-slices
returns-clause-slices c = λ r. staying.slices_always_stay c.args.self.now.world (event_of c.args.event) r
