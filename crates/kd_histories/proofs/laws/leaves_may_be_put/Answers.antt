use Rattle.kd_histories.proofs.DeskPuts as lemmas
use Rattle.kd_histories.proofs.laws.leaves_may_be_put.Goals as goal

pub returns : goal.returns
returns c = lemmas.leaves_may_be_put
