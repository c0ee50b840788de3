-- By the parts that raise and close.
use Rattle.kd_commands.proofs.Opens as opens
use Rattle.kd_commands.proofs.laws.open_pools_have_live_connections.Goals as goal

pub returns : goal.returns
returns c = opens.opens_are_live
