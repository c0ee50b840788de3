use Rattle.kd_replay.proofs.Only.{one_transcript}
use Rattle.kd_replay.proofs.laws.frames_have_one_transcript.Goals as goal

pub returns : goal.returns
returns c = one_transcript
