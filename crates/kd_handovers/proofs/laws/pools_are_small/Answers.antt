-- By each command.
use Rattle.kd_handovers.proofs.Opening as opening
use Rattle.kd_handovers.proofs.laws.pools_are_small.Goals as goal

pub returns : goal.returns
returns c = opening.pools_are_small
