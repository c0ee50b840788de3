use Rattle.kd_histories.proofs.DeskPuts.{raises_where_nobody_sits}
use Rattle.kd_histories.proofs.laws.pools_are_raised_where_nobody_sits.Goals as goal

pub returns : goal.returns
returns c = raises_where_nobody_sits
