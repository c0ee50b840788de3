use Rattle.std.proofs.Common.{refl}
use Rattle.kd_wire.specs.Replies.{reply_frame}
use Rattle.kd_wire.proofs.RepliesAgain.{reply_again}
use Rattle.kd_wire.proofs.laws.a_written_reply_is_read.Goals as goal

pub returns : goal.returns
returns c = λ command caller reply typed command-fits caller-fits answers few. reply_again (reply_frame command caller reply) command caller reply typed command-fits caller-fits answers few refl
