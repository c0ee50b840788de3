-- Act after act.
use Rattle.kd_sound.proofs.Lists as lists
use Rattle.kd_sound.proofs.laws.pools_are_sound.Goals as goal

pub returns : goal.returns
returns c = lists.pools_are_sound
