-- By what a plan does to who sits where.
use Rattle.kd_settled.proofs.Sizes as sizes
use Rattle.kd_settled.proofs.laws.sizes_stay.Goals as goal

pub returns : goal.returns
returns c = sizes.sizes_stay
