-- By its visits and its notices.
use Rattle.kd_settled.proofs.Short as short
use Rattle.kd_settled.proofs.laws.plans_are_short.Goals as goal

pub returns : goal.returns
returns c = short.plans_are_short
