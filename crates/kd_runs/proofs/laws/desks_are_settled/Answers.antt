-- Event by event.
use Rattle.kd_runs.proofs.Home as home
use Rattle.kd_runs.proofs.laws.desks_are_settled.Goals as goal

pub returns : goal.returns
returns c = home.desks_are_settled
