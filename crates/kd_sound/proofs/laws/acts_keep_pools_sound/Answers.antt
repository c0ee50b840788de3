-- Act by act.
use Rattle.kd_sound.proofs.Steps as steps
use Rattle.kd_sound.proofs.laws.acts_keep_pools_sound.Goals as goal

pub returns : goal.returns
returns c = steps.acts_keep_pools_sound
