use Rattle.kd_histories.proofs.Puts as lemmas
use Rattle.kd_histories.proofs.laws.publishes_may_be_put.Goals as goal

pub returns : goal.returns
returns c = lemmas.publishes_may_be_put
