-- By what a plan does to who sits where.
use Rattle.kd_settled.proofs.Meeting as meeting
use Rattle.kd_settled.proofs.laws.visits_meet_open.Goals as goal

pub returns : goal.returns
returns c = meeting.visits_meet_open
