-- All that wait arrived before the next arrival number is given.
use Rattle.kd_acts.proofs.Arrived as law
use Rattle.kd_acts.proofs.laws.arrivals_stay.Goals as goal

pub returns : goal.returns
returns c = law.arrivals_stay
