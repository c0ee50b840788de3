-- Plan by plan.
use Rattle.kd_settled.proofs.Sizes as sizes
use Rattle.kd_settled.proofs.laws.pools_have_sizes.Goals as goal

pub returns : goal.returns
returns c = sizes.pools_have_sizes
