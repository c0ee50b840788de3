-- Entry by entry.
use Rattle.kd_runs.proofs.Lists as lists
use Rattle.kd_runs.proofs.laws.what_is_addressed_goes_on.Goals as goal

pub returns : goal.returns
returns c = lists.addressed_with_one_more
