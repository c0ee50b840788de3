-- Event after event.
use Rattle.kd_lengths.proofs.Worlds as worlds
use Rattle.kd_lengths.proofs.laws.pools_are_always_sound.Goals as goal

pub returns : goal.returns
returns c = worlds.pools_are_always_sound
