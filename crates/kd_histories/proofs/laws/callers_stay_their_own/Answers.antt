use Rattle.kd_histories.proofs.Owners.{callers_are_own}
use Rattle.kd_histories.proofs.laws.callers_stay_their_own.Goals as goal

pub returns : goal.returns
returns c = callers_are_own
