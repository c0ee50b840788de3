use Rattle.kd_bus.specs.Slips.{turn_told}
use Rattle.kd_bus.proofs.slip.Slip.idle.Goals as goal

pub returns : goal.returns
unfolding turn_told
returns c = c.of.ensures
