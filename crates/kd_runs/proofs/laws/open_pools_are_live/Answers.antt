-- By the holder's visits.
use Rattle.kd_runs.proofs.Pools as pools
use Rattle.kd_runs.proofs.laws.open_pools_are_live.Goals as goal

pub returns : goal.returns
returns c = pools.open_pools_are_live
