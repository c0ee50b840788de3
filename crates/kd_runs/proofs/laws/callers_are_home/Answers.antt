-- Event by event.
use Rattle.kd_runs.proofs.Home as home
use Rattle.kd_runs.proofs.laws.callers_are_home.Goals as goal

pub returns : goal.returns
returns c = home.callers_are_home
