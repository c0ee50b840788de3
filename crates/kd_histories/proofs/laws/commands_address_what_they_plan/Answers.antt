use Rattle.kd_histories.proofs.Going.{addressed_as_planned}
use Rattle.kd_histories.proofs.laws.commands_address_what_they_plan.Goals as goal

pub returns : goal.returns
returns c = addressed_as_planned
