-- The caller reads at its own pool.
use Rattle.std.proofs.Common.{◌≡◌, List, ap, subst, ◌∙◌}
use Rattle.std.specs.Prelude.{IfOk}
use Rattle.kd_acts.specs.State.{Hold, read}
use Rattle.kd_core.specs.declared.event.Answer.{Answer}
use Rattle.kd_core.specs.Acting.{aimed_answer}
use Rattle.kd_world.specs.Own.{pool_seat}
use Rattle.kd_world.specs.Pools.{act_at}
use Rattle.kd_world.specs.Answers.{when_seated}
use Rattle.kd_core.specs.Running.{Running, told_by_pool}
use Rattle.kd_core.proofs.Delivered.{read_says}
use Rattle.kd_core.proofs.world.World.read.Goals as goal

pub returns : goal.returns
returns c =
    let me = c.caller.result.now in
    let same = c.deref.ensures.value ∙ ap (λ (r : Running). r.world.pools) c.self.view_is in
    let says = ap (λ (hs : List Hold). told_by_pool (when_seated (pool_seat me) (aimed_answer (act_at (pool_seat me) (read c.args.number c.args.sealed)) hs))) same ∙ read_says c.args.self.now.world c.args.caller c.args.number c.args.sealed me c.caller.ensures in
    record { answer = subst (λ (x : Answer). IfOk c.read.result (λ a. a ≡ x)) says c.read.ensures }
