-- What is published goes behind all that waits.
use Rattle.kd_acts.proofs.Publishing as law
use Rattle.kd_acts.proofs.laws.publishes_last.Goals as goal

pub returns : goal.returns
returns c = law.publishes_last
