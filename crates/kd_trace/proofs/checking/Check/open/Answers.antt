use Rattle.std.proofs.Common.{[], sym, subst}
use Rattle.kd_world.specs.State.{World}
use Rattle.kd_trace.specs.Judging.{AreRun}
use Rattle.kd_trace.proofs.Runs.{none_run}
use Rattle.kd_trace.proofs.checking.Check.open.Goals as goal

pub returns-clause-judged : goal.returns-clause-judged
returns-clause-judged c = subst (λ (w : World). AreRun [] w 0 0) (sym c.in_ok-open.ensures.world) none_run
