-- By what a plan does to who sits where.
use Rattle.kd_commands.proofs.Seating as seating
use Rattle.kd_commands.proofs.laws.the_desk_stays_seated.Goals as goal

pub returns : goal.returns
returns c = seating.seating_stays
