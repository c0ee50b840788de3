-- By each kind of part.
use Rattle.kd_holds.proofs.Counting as counting
use Rattle.kd_holds.proofs.laws.visits_count.Goals as goal

pub returns : goal.returns
returns c = counting.visits_count
