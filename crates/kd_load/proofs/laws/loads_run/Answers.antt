-- The front that the passes make in turn, and what they send behind it.
use Rattle.kd_load.proofs.Ran as ran
use Rattle.kd_load.proofs.laws.loads_run.Goals as goal

pub returns : goal.returns
returns c = ran.loads_run
