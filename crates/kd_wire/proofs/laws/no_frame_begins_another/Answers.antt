use Rattle.kd_wire.proofs.ReadAgain.{not_beginning}
use Rattle.kd_wire.proofs.laws.no_frame_begins_another.Goals as goal

pub returns : goal.returns
returns c = λ caller other command second rest typed typed2 formed formed2 fits fits2 e. not_beginning caller other command second rest typed typed2 fits fits2 formed formed2 e
