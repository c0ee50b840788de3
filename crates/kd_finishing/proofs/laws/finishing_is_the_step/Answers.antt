use Rattle.kd_finishing.proofs.Steps as steps
use Rattle.kd_finishing.proofs.laws.finishing_is_the_step.Goals as goal

pub returns : goal.returns
returns c = steps.finishing_is_the_step
