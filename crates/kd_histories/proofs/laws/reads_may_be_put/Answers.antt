use Rattle.kd_histories.proofs.Puts as lemmas
use Rattle.kd_histories.proofs.laws.reads_may_be_put.Goals as goal

pub returns : goal.returns
returns c = lemmas.reads_may_be_put
