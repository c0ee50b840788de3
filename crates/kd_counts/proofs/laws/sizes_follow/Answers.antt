-- Act by act.
use Rattle.kd_counts.proofs.Steps as steps
use Rattle.kd_counts.proofs.laws.sizes_follow.Goals as goal

pub returns : goal.returns
returns c = steps.sizes_follow
