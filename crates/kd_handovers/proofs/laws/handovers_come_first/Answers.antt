-- By each kind of plan.
use Rattle.kd_handovers.proofs.First as first
use Rattle.kd_handovers.proofs.laws.handovers_come_first.Goals as goal

pub returns : goal.returns
returns c = first.handovers_come_first
