-- The new slice lies among those of a sound pool.
use Rattle.kd_sound.proofs.Only as only
use Rattle.kd_sound.proofs.laws.only_lengths_keep_pools_sound.Goals as goal

pub returns : goal.returns
returns c = only.only_lengths_keep_pools_sound
