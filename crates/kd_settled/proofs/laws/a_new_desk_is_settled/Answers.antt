-- Its tables are empty.
use Rattle.kd_settled.proofs.Always as always
use Rattle.kd_settled.proofs.laws.a_new_desk_is_settled.Goals as goal

pub returns : goal.returns
returns c = always.opens_settled
