-- What is written of frames or replies: a line for each.
use Rattle.std.specs.Prelude.{◌≡◌, ◌⊎◌, ℕ, ◌==◌, if◌then◌else◌, List, ◌++◌, codes, Option, Some}
use Rattle.kd_types.specs.declared.refusal.Refusal.{Refusal}
use Rattle.kd_wire.specs.declared.port.Port.{Port}
use Rattle.kd_wire.specs.declared.port.Port.TheVariants.{Replay, Session}
use Rattle.kd_wire.specs.declared.command.Command.{Command}
use Rattle.kd_wire.specs.Frames.{frame_of, caller_word}
use Rattle.kd_wire.specs.Refusals.{refusal_of, IsWellFormed}
use Rattle.kd_wire.specs.Typed.{IsTyped}
use Rattle.kd_lines.specs.declared.kind.Kind.{Kind}
use Rattle.kd_lines.specs.declared.kind.Kind.TheVariants.{Frames, Replies}
use Rattle.kd_lines.specs.declared.end.End.{End}
use Rattle.kd_lines.specs.declared.end.End.TheVariants.{Done, WriteFault, BadFrame, OutOfMemory}
use Rattle.kd_lines.specs.Marks.{text}
use Rattle.kd_lines.specs.Names.{refusal_text}
use Rattle.kd_lines.specs.Commands.{command_line}
use Rattle.kd_lines.specs.Replies.{head_text, reply_line}
use Rattle.kd_lines.specs.Pieces.{IsPiece, HasNoPiece, WritesFront, WritesWhole, WritesUpTo}

-- a frame from the caller 0 is one of a session, any other one of a recorded input
abbrev pub port_of : List ℕ → Port
port_of frame = if caller_word frame == 0 then Session else Replay

-- a frame that is refused: its caller, its command, why, and its bytes
abbrev pub refused_line : List ℕ → Refusal → List ℕ
refused_line frame why =
    head_text frame ++ codes " refused " ++ refusal_text why ++ codes " FRAME" ++ text frame
    ++ codes "\n"

abbrev pub IsRefusedLine : List ℕ → List ℕ → Type 0
IsRefusedLine frame line =
    (why : Refusal) × (refusal_of (port_of frame) frame ≡ Some why)
    × (line ≡ refused_line frame why)

-- a frame is the one spelling of this caller's command
pub record IsSpelling (frame : List ℕ) (caller : ℕ) (command : Command) : Type 0 where
  pub spelled : frame ≡ frame_of caller command
  pub form : IsWellFormed command
  pub typed : IsTyped command

-- any other is the line of the command that it spells
abbrev pub IsCommandLine : List ℕ → List ℕ → Type 0
IsCommandLine frame line =
    (caller : ℕ) × (command : Command) × IsSpelling frame caller command
    × (line ≡ command_line caller command)

-- the line of a frame or a reply
abbrev pub IsLine : Kind → List ℕ → List ℕ → Type 0
IsLine Frames frame line = IsRefusedLine frame line ⊎ IsCommandLine frame line
IsLine Replies reply line = line ≡ reply_line reply

-- what showing these bytes came to
abbrev pub ShowsSo : Kind → List ℕ → Option (List ℕ) → Option (List ℕ) → End → Type 0
ShowsSo kind bytes held_before held_after Done =
    WritesWhole (IsPiece kind) (IsLine kind) bytes held_before held_after
ShowsSo kind bytes held_before held_after (BadFrame at) =
    WritesUpTo (IsPiece kind) (IsLine kind) (HasNoPiece kind) bytes at held_before held_after
ShowsSo kind bytes held_before held_after WriteFault =
    WritesFront (IsPiece kind) (IsLine kind) bytes held_before held_after
ShowsSo kind bytes held_before held_after OutOfMemory =
    WritesFront (IsPiece kind) (IsLine kind) bytes held_before held_after
ShowsSo kind bytes held_before held_after _ = ⊥
