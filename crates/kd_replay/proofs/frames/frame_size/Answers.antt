use Rattle.std.proofs.Common.{sym, ◌∙◌}
use Rattle.kd_replay.proofs.Cuts.{front_frame, no_frame}
use Rattle.kd_replay.proofs.frames.frame_size.Goals as goal

pub returns-in-Frame-clause-frame : goal.returns-in-Frame-clause-frame
returns-in-Frame-clause-frame c = (front_frame c.args.bytes.now c.in-Frame.size (sym c.cut.ensures ∙ c.in-Frame.is)).frame

pub returns-in_default : goal.returns-in_default
returns-in_default c = record { inside = tt; frame = tt; some = tt; none = no_frame c.args.bytes.now (λ n e. c.in_default.not-Frame n (c.cut.ensures ∙ e)) }
