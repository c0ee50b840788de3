-- Act by act.
use Rattle.kd_numbers.proofs.Lists as lists
use Rattle.kd_numbers.proofs.laws.freed_stays.Goals as goal

pub returns : goal.returns
returns c = lists.freed_stays
