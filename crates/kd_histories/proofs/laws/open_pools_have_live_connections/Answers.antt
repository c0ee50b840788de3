use Rattle.kd_histories.proofs.Resting.{open_are_live}
use Rattle.kd_histories.proofs.laws.open_pools_have_live_connections.Goals as goal

pub returns : goal.returns
returns c = open_are_live
