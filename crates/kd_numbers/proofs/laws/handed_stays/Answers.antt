-- Act by act.
use Rattle.kd_numbers.proofs.Lists as lists
use Rattle.kd_numbers.proofs.laws.handed_stays.Goals as goal

pub returns : goal.returns
returns c = lists.handed_stays
