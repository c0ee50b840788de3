-- By the holder's plan.
use Rattle.kd_runs.proofs.Left as left
use Rattle.kd_runs.proofs.laws.holders_visit_few.Goals as goal

pub returns : goal.returns
returns c = left.holders_visit_few
