use Rattle.kd_finishing.proofs.Steps as steps
use Rattle.kd_finishing.proofs.laws.finished_desks_are_settled.Goals as goal

pub returns : goal.returns
returns c = steps.finished_desks_are_settled
