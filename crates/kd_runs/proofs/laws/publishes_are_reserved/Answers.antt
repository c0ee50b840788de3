-- By what publishings arrive.
use Rattle.kd_runs.proofs.Publishing as publishing
use Rattle.kd_runs.proofs.laws.publishes_are_reserved.Goals as goal

pub returns : goal.returns
returns c = publishing.publishes_are_reserved
