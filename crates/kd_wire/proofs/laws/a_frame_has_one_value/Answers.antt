use Rattle.std.proofs.Common.{refl}
use Rattle.kd_wire.specs.Frames.{frame_of}
use Rattle.kd_wire.proofs.ReadAgain.{one_value}
use Rattle.kd_wire.proofs.laws.a_frame_has_one_value.Goals as goal

pub returns : goal.returns
returns c = λ caller other command second typed typed2 formed formed2 fits fits2 e. one_value (frame_of caller command) caller other command second typed typed2 fits fits2 formed formed2 refl e
