use Rattle.kd_histories.proofs.Resting.{exactly_addressed}
use Rattle.kd_histories.proofs.laws.pools_are_made_what_is_addressed.Goals as goal

pub returns : goal.returns
returns c = exactly_addressed
