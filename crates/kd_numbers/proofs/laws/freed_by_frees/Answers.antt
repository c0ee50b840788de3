-- Act by act.
use Rattle.kd_numbers.proofs.Lists as lists
use Rattle.kd_numbers.proofs.laws.freed_by_frees.Goals as goal

pub returns : goal.returns
returns c = lists.freed_by_frees
