use Rattle.kd_replay.proofs.Only.{one_turn}
use Rattle.kd_replay.proofs.laws.a_frame_has_one_turn.Goals as goal

pub returns : goal.returns
returns c = one_turn
