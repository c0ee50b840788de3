-- Command by command.
use Rattle.kd_answers.proofs.Listings as listings
use Rattle.kd_answers.proofs.laws.plans_answer_shortly.Goals as goal

pub returns : goal.returns
returns c = listings.plans_answer_shortly
