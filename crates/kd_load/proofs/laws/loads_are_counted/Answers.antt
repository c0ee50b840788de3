-- The front, the messages of all threads, and each pool.
use Rattle.kd_load.proofs.Whole as whole
use Rattle.kd_load.proofs.laws.loads_are_counted.Goals as goal

pub returns : goal.returns
returns c = whole.loads_are_counted
