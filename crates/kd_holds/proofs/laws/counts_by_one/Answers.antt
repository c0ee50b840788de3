-- By each kind of act.
use Rattle.kd_holds.proofs.Counting as counting
use Rattle.kd_holds.proofs.laws.counts_by_one.Goals as goal

pub returns : goal.returns
returns c = counting.counts_by_one
