-- By the plans of each command.
use Rattle.kd_settled.proofs.Always as always
use Rattle.kd_settled.proofs.laws.the_desk_stays_settled.Goals as goal

pub returns : goal.returns
returns c = always.settled_stays
