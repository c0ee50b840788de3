use Rattle.kd_histories.proofs.DeskPuts as lemmas
use Rattle.kd_histories.proofs.laws.idle_desks_may_be_put.Goals as goal

pub returns : goal.returns
returns c = lemmas.idle_desks_may_be_put
