use Rattle.std.proofs.Common.{length}
use Rattle.kd_trace.proofs.Checks.{Stands}
use Rattle.kd_trace.proofs.checking.check_trace.Given as goal

abbrev pub invariant-pairs : goal.invariant-pairs
invariant-pairs l =
    Stands l.bytes l.rest l.at l.check.run.world.world l.check.run.world.steps l.check.run.number
    l.check.count l.check.verdict

abbrev pub decreases-pairs : goal.decreases-pairs
decreases-pairs l = length l.rest
