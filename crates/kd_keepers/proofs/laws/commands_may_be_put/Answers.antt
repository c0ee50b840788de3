-- Its caller keeps its endpoint on the whole list, too.
use Rattle.kd_keepers.proofs.Puts as puts
use Rattle.kd_keepers.proofs.laws.commands_may_be_put.Goals as goal

pub returns : goal.returns
returns c = puts.kept_leaves_may_be_put
