use Rattle.kd_trace.proofs.OnePlace.{one_place}
use Rattle.kd_trace.proofs.laws.bytes_break_at_one_place.Goals as goal

pub returns : goal.returns
returns c = one_place
