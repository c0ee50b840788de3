-- How long the reply to a command of the desk can be. Only a listing is longer than its words: it
-- has a line for each of 64 connections and 4,096 claims, and a line with a name of 255 bytes takes
-- 288.
use Rattle.std.specs.Prelude.{◌≡◌, ◌≤◌, Some, Ok}
use Rattle.kd_wire.specs.declared.command.Command.{Command}
use Rattle.kd_wire.specs.Commands.{opcode_in}
use Rattle.kd_wire.specs.Opcodes.{opcode_number}
use Rattle.kd_wire.specs.Replies.{IsReplyTo, reply_length}
use Rattle.kd_wire.specs.declared.reply.Reply.{Reply}
use Rattle.kd_commands.specs.declared.who.Who.{Who}
use Rattle.kd_commands.specs.State.{Desk}
use Rattle.kd_commands.specs.Plans.{Plan}
use Rattle.kd_commands.specs.Step.{plan}
use Rattle.kd_settled.specs.Settled.{IsSettled}
use Rattle.kd_world.specs.Holding.{command_end}
use Rattle.kd_world.specs.Runs.{IsReached}
use Rattle.kd_world.specs.State.{Holder, World}

-- 40 bytes, and 288 for each of 4,160 lines
abbrev pub IsShort : Reply → Type 0
IsShort r = reply_length r ≤ 1198120

-- what a settled desk plans is answered shortly, whoever asks
abbrev pub PlansAnswerShortly : Type 0
PlansAnswerShortly =
    (d : Desk) (w : Who) (x : Command) (p : Plan) → IsSettled d → plan d w x ≡ Ok p
    → IsShort p.reply

-- a reply that may be written: one of its command's, and short
pub record IsWritable (x : Command) (r : Reply) : Type 0 where
  pub fits : IsReplyTo (opcode_number (opcode_in x)) r
  pub short : IsShort r

-- along every run whoever holds the desk is answered so, however the pools answered its visits
abbrev pub LeaversAreAnsweredShortly : Type 0
LeaversAreAnsweredShortly =
    (w : World) (h : Holder) → IsReached w → w.holder ≡ Some h
    → IsWritable h.command (command_end w h).reply
