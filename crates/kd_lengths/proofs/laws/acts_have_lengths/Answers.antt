-- Of what its holder has drained.
use Rattle.kd_lengths.proofs.Worlds as worlds
use Rattle.kd_lengths.proofs.laws.acts_have_lengths.Goals as goal

pub returns : goal.returns
returns c = worlds.acts_have_lengths
