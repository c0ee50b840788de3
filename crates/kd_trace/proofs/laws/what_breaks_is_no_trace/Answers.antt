use Rattle.kd_trace.proofs.OneReading.{no_trace}
use Rattle.kd_trace.proofs.laws.what_breaks_is_no_trace.Goals as goal

pub returns : goal.returns
returns c = no_trace
