-- Event by event.
use Rattle.kd_runs.proofs.Lists as lists
use Rattle.kd_runs.proofs.laws.worlds_go_on.Goals as goal

pub returns : goal.returns
returns c = lists.worlds_go_on
