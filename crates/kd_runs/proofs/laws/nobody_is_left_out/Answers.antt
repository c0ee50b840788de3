-- Event by event.
use Rattle.kd_runs.proofs.Left as left
use Rattle.kd_runs.proofs.laws.nobody_is_left_out.Goals as goal

pub returns : goal.returns
returns c = left.nobody_is_left_out
