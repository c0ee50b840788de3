-- Entry by entry.
use Rattle.kd_runs.proofs.Lists as lists
use Rattle.kd_runs.proofs.laws.a_desk_goes_on.Goals as goal

pub returns : goal.returns
returns c = lists.desk_with_one_more
