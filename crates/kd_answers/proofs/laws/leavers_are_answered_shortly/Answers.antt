-- By its plan, at the desk that it holds.
use Rattle.kd_answers.proofs.Leavers as leavers
use Rattle.kd_answers.proofs.laws.leavers_are_answered_shortly.Goals as goal

pub returns : goal.returns
returns c = leavers.leavers_are_answered_shortly
