-- Part by part.
use Rattle.kd_runs.proofs.Left as left
use Rattle.kd_runs.proofs.laws.visited_are_all.Goals as goal

pub returns : goal.returns
returns c = left.visited_are_all
