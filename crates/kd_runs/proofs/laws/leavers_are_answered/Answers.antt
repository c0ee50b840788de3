-- By its plan, or by what the first pool refused.
use Rattle.kd_runs.proofs.Answered as answered
use Rattle.kd_runs.proofs.laws.leavers_are_answered.Goals as goal

pub returns : goal.returns
returns c = answered.leavers_are_answered
