-- Act by act.
use Rattle.kd_counts.proofs.Steps as steps
use Rattle.kd_counts.proofs.laws.counts_go_on.Goals as goal

pub returns : goal.returns
returns c = steps.counts_go_on
