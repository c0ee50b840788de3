-- Event by event.
use Rattle.kd_runs.proofs.Lists as lists
use Rattle.kd_runs.proofs.laws.the_pools_are_along.Goals as goal

pub returns : goal.returns
returns c = lists.pools_are_along
