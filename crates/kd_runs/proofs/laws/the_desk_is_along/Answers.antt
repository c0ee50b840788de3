-- Event by event.
use Rattle.kd_runs.proofs.Lists as lists
use Rattle.kd_runs.proofs.laws.the_desk_is_along.Goals as goal

pub returns : goal.returns
returns c = lists.desk_is_along
