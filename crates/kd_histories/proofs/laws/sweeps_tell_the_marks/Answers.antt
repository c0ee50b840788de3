use Rattle.kd_histories.proofs.Marks.{sweeps_tell}
use Rattle.kd_histories.proofs.laws.sweeps_tell_the_marks.Goals as goal

pub returns : goal.returns
returns c = sweeps_tell
