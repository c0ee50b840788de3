-- Slices last.
use Rattle.kd_acts.proofs.Stays as law
use Rattle.kd_acts.proofs.laws.slices_last.Goals as goal

pub returns : goal.returns
returns c = law.slices_last
