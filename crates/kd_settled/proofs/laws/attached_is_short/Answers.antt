-- By what each connection may own.
use Rattle.kd_settled.proofs.Lengths as lengths
use Rattle.kd_settled.proofs.laws.attached_is_short.Goals as goal

pub returns : goal.returns
returns c = lengths.attached_is_short
