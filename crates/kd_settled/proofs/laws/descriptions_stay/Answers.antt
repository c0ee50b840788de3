-- By the form of a HELLO.
use Rattle.kd_settled.proofs.Described as described
use Rattle.kd_settled.proofs.laws.descriptions_stay.Goals as goal

pub returns : goal.returns
returns c = described.descriptions_stay
