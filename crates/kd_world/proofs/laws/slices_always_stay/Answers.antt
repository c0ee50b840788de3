use Rattle.kd_world.proofs.Staying as staying
use Rattle.kd_world.proofs.laws.slices_always_stay.Goals as goal

pub returns : goal.returns
returns c = staying.slices_always_stay
