-- As connections stand.
use Rattle.kd_settled.proofs.Rising as rising
use Rattle.kd_settled.proofs.laws.broadcasts_rise.Goals as goal

pub returns : goal.returns
returns c = rising.broadcasts_rise
