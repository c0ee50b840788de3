use Rattle.std.proofs.Common.{subst, sym}
use Rattle.kd_wire.proofs.Formed.{of_answer}
use Rattle.kd_core.specs.Running.{Running}
use Rattle.kd_replay.specs.Turns.{IsReady}
use Rattle.kd_replay.proofs.Holding.{opens_ready}
use Rattle.kd_replay.proofs.replay.open.Goals as goal

pub returns-clause-ready : goal.returns-clause-ready
returns-clause-ready c = of_answer c.make.result (λ w e. subst (λ (r : Running). IsReady r.world) (sym e) opens_ready) c.make.ensures.opening
