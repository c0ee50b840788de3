-- Event by event.
use Rattle.kd_runs.proofs.Pools as pools
use Rattle.kd_runs.proofs.laws.open_pools_so_far.Goals as goal

pub returns : goal.returns
returns c = pools.open_pools_so_far
