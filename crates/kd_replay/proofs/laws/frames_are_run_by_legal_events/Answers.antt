use Rattle.kd_replay.proofs.Legal.{frames_reach}
use Rattle.kd_replay.proofs.laws.frames_are_run_by_legal_events.Goals as goal

pub returns : goal.returns
returns c = frames_reach
