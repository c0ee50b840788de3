-- By what each connection may own.
use Rattle.kd_settled.proofs.Lengths as lengths
use Rattle.kd_settled.proofs.laws.images_fit.Goals as goal

pub returns : goal.returns
returns c = lengths.images_fit
