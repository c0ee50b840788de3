-- Whoever leaves the desk is answered by one of its command's replies.
use Rattle.std.specs.Prelude.{◌≡◌, ◌≢◌, Some}
use Rattle.kd_types.specs.declared.refusal.Refusal.TheVariants.{OutOfMemory}
use Rattle.kd_wire.specs.Commands.{opcode_in}
use Rattle.kd_wire.specs.Opcodes.{opcode_number}
use Rattle.kd_wire.specs.Replies.{IsReplyTo}
use Rattle.kd_acts.specs.State.{Hold, Visit, by_desk, refused}
use Rattle.kd_acts.specs.Steps.{answer}
use Rattle.kd_world.specs.Holding.{command_end}
use Rattle.kd_world.specs.Runs.{IsReached}
use Rattle.kd_world.specs.State.{Holder, World}

-- no visit is answered by want of memory
abbrev pub VisitsWantNoMemory : Type 0
VisitsWantNoMemory = (h : Hold) (v : Visit) → answer h (by_desk v) ≢ refused OutOfMemory

-- however the visits were answered
abbrev pub LeaversAreAnswered : Type 0
LeaversAreAnswered =
    (w : World) (h : Holder) → IsReached w → w.holder ≡ Some h
    → IsReplyTo (opcode_number (opcode_in h.command)) (command_end w h).reply
