-- By the parts that may end all.
use Rattle.kd_commands.proofs.Opens as opens
use Rattle.kd_commands.proofs.laws.open_pools_stay.Goals as goal

pub returns : goal.returns
returns c = opens.opens_stay
