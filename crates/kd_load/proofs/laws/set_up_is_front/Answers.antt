-- Connection after connection.
use Rattle.kd_load.proofs.Coming as coming
use Rattle.kd_load.proofs.laws.set_up_is_front.Goals as goal

pub returns : goal.returns
returns c = coming.set_up_is_front
