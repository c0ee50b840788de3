-- What a receive tells waited.
use Rattle.kd_acts.proofs.Handed as law
use Rattle.kd_acts.proofs.laws.receives_waiting.Goals as goal

pub returns : goal.returns
returns c = law.receives_waiting
