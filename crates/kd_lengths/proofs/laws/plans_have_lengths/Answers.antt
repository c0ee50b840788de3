-- By each command.
use Rattle.kd_lengths.proofs.Plans as plans
use Rattle.kd_lengths.proofs.laws.plans_have_lengths.Goals as goal

pub returns : goal.returns
returns c = plans.plans_have_lengths
