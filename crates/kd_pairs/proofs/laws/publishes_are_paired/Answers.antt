-- Event by event.
use Rattle.kd_pairs.proofs.Along as along
use Rattle.kd_pairs.proofs.laws.publishes_are_paired.Goals as goal

pub returns : goal.returns
returns c = along.publishes_are_paired
