use Rattle.kd_wire.proofs.Formed.{judged, formed}
use Rattle.kd_wire.proofs.laws.the_test_tells_well_formed_commands.Goals as goal

pub returns : goal.returns
returns c = λ command. (formed command, judged command)
