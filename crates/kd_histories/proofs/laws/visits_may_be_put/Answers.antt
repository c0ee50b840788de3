use Rattle.kd_histories.proofs.Puts as lemmas
use Rattle.kd_histories.proofs.laws.visits_may_be_put.Goals as goal

pub returns : goal.returns
returns c = lemmas.visits_may_be_put
