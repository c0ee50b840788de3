-- By its refusals.
use Rattle.kd_settled.proofs.Senders as senders
use Rattle.kd_settled.proofs.laws.unicasts_reach.Goals as goal

pub returns : goal.returns
returns c = senders.unicasts_reach
