-- By what a plan does to who sits where.
use Rattle.kd_commands.proofs.Others as others
use Rattle.kd_commands.proofs.laws.others_stay.Goals as goal

pub returns : goal.returns
returns c = others.others_stay
