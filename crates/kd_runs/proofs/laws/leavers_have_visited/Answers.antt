-- By how many answers the holder has.
use Rattle.kd_runs.proofs.Left as left
use Rattle.kd_runs.proofs.laws.leavers_have_visited.Goals as goal

pub returns : goal.returns
returns c = left.leavers_have_visited
