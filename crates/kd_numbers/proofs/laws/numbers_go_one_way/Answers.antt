-- Act by act.
use Rattle.kd_numbers.proofs.Goes as goes
use Rattle.kd_numbers.proofs.laws.numbers_go_one_way.Goals as goal

pub returns : goal.returns
returns c = goes.numbers_go_one_way
