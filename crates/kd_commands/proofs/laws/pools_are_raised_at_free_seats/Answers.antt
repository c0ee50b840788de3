-- By the one part that raises.
use Rattle.kd_commands.proofs.Opens as opens
use Rattle.kd_commands.proofs.laws.pools_are_raised_at_free_seats.Goals as goal

pub returns : goal.returns
returns c = opens.raises_free
