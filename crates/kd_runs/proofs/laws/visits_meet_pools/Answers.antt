-- By the holder's plan.
use Rattle.kd_runs.proofs.Pools as pools
use Rattle.kd_runs.proofs.laws.visits_meet_pools.Goals as goal

pub returns : goal.returns
returns c = pools.visits_meet_pools
