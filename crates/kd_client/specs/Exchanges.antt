-- What was asked and answered over a link, and the bytes of both.
use Rattle.std.specs.Prelude.{◌≡◌, ℕ, ◌+◌, List, length, map, Result, Ok, Err}
use Rattle.std.specs.List.{flat_map, zip, AllByRecursion}
use Rattle.std.specs.Io.KnownBytes.{Appends, Consumes}
use Rattle.kd_outside.specs.Told.{Side, LinkState}
use Rattle.kd_wire.specs.declared.command.Command.{Command}
use Rattle.kd_types.specs.declared.refusal.Refusal.{Refusal}
use Rattle.kd_wire.specs.declared.reply.Reply.{Reply}
use Rattle.kd_wire.specs.declared.reply.Reply.TheVariants.{Refused}
use Rattle.kd_wire.specs.Opcodes.{opcode_number}
use Rattle.kd_wire.specs.Commands.{opcode_in}
use Rattle.kd_wire.specs.Frames.{frame_of}
use Rattle.kd_wire.specs.Replies.{reply_frame, IsReplyTo}

-- a command that was asked, and its reply
pub record Exchange : Type 0 where
  pub command : Command
  pub reply : Reply

abbrev pub exchange : Command → Reply → Exchange
exchange command reply = record { command = command; reply = reply }

-- the reply that tells this: a command is done, or is refused
abbrev pub outcome : {X : Type 0} → Reply → Result X Refusal → Reply
outcome done (Ok value) = done
outcome done (Err refusal) = Refused refusal

-- commands and their replies, paired by place
abbrev pub paired : List Command → List Reply → List Exchange
paired commands replies = map (λ p. exchange p.0 p.1) (zip commands replies)

abbrev pub commands_of : List Exchange → List Command
commands_of es = map (λ e. e.command) es

-- the command word of a command's frame and of its replies
abbrev pub number_of : Command → ℕ
number_of command = opcode_number (opcode_in command)

-- the frames of commands, in order; a client's caller word is 0
unfoldable pub frames : List Command → List ℕ
frames commands = flat_map (λ c. frame_of 0 c) commands

-- the replies, in order
unfoldable pub replies : List Exchange → List ℕ
replies es = flat_map (λ e. reply_frame (number_of e.command) 0 e.reply) es

-- each reply is one of its command
abbrev pub AreAnswered : List Exchange → Type 0
AreAnswered es = AllByRecursion (λ e. IsReplyTo (number_of e.command) e.reply) es

-- from one state of a link to a later one the frames of these commands were written, and their
-- replies were read, each at its own place, and nothing else; no call of the link failed
pub record Exchanged (before after : LinkState) (es : List Exchange) : Type 0 where
  pub written : Appends before.writing.bytes after.writing.bytes (frames (commands_of es))
  pub read : Consumes before.reading.bytes after.reading.bytes (replies es)
  pub answered : AreAnswered es
  pub reads : after.reading.faults ≡ before.reading.faults
  pub writes : after.writing.faults ≡ before.writing.faults

-- a dialogue went on by these, from one state of the link and one place to the other
pub record Went (before after : LinkState) (from to : ℕ) (es : List Exchange) : Type 0 where
  pub exchanged : Exchanged before after es
  pub place : to ≡ from + length (replies es)

-- the replies of these were read, each at its own place, from one place to the other; no read failed
pub record Heard (before after : Side) (from to : ℕ) (es : List Exchange) : Type 0 where
  pub read : Consumes before.bytes after.bytes (replies es)
  pub answered : AreAnswered es
  pub faults : after.faults ≡ before.faults
  pub place : to ≡ from + length (replies es)
