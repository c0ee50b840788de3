-- By the list before its entry.
use Rattle.kd_keepers.proofs.Along as along
use Rattle.kd_keepers.proofs.laws.endpoints_are_there.Goals as goal

pub returns : goal.returns
returns c = along.keepers_are_there
