-- Each slice of a sound pool has the length of its bytes.
use Rattle.kd_sound.proofs.Lists as lists
use Rattle.kd_sound.proofs.laws.drained_messages_have_lengths.Goals as goal

pub returns : goal.returns
returns c = lists.drained_have_lengths
