-- Act by act.
use Rattle.kd_runs.proofs.Lists as lists
use Rattle.kd_runs.proofs.laws.a_pool_goes_on.Goals as goal

pub returns : goal.returns
returns c = lists.hold_with_one_more
