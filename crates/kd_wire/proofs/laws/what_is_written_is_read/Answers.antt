use Rattle.std.proofs.Common.{refl}
use Rattle.kd_wire.specs.Frames.{frame_of}
use Rattle.kd_wire.proofs.ReadAgain.{not_refused}
use Rattle.kd_wire.proofs.laws.what_is_written_is_read.Goals as goal

pub returns : goal.returns
returns c = λ port caller command typed formed fits admitted running. not_refused port (frame_of caller command) caller command typed fits admitted running formed refl
