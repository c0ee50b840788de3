-- By what a plan does to who sits where.
use Rattle.kd_settled.proofs.Meeting as meeting
use Rattle.kd_settled.proofs.laws.ids_go_on.Goals as goal

pub returns : goal.returns
returns c = meeting.ids_go_on
