-- Frames, how bytes fall into them, and the command of each.
use Rattle.std.specs.Prelude.{◌≡◌, ℕ, true, List, ◌++◌, length, None}
use Rattle.std.specs.List.{flat_map, AllByRecursion}
use Rattle.kd_wire.specs.declared.command.Command.{Command}
use Rattle.kd_wire.specs.declared.frame.Cut.TheVariants.{Frame}
use Rattle.kd_wire.specs.declared.port.Port.TheVariants.{Replay}
use Rattle.kd_wire.specs.Ports.{takes_caller, takes_opcode}
use Rattle.kd_wire.specs.Commands.{opcode_in}
use Rattle.kd_wire.specs.Frames.{cut_of, frame_of}
use Rattle.kd_wire.specs.Refusals.{IsWellFormed, refusal_of}
use Rattle.kd_wire.specs.Typed.{IsTyped}

-- a whole frame: its first word is its size
abbrev pub IsFrame : List ℕ → Type 0
IsFrame frame = cut_of frame ≡ Frame (length frame)

-- no whole frame stands at the front
abbrev pub HasNoFrame : List ℕ → Type 0
HasNoFrame bytes = (frame rest : List ℕ) → IsFrame frame → bytes ≡ frame ++ rest → ⊥

-- the bytes of frames, one after the other
abbrev pub joined : List (List ℕ) → List ℕ
joined frames = flat_map (λ frame. frame) frames

-- the bytes are these whole frames and a rest
pub record IsCut (bytes : List ℕ) (frames : List (List ℕ)) (rest : List ℕ) : Type 0 where
  pub parts : bytes ≡ joined frames ++ rest
  pub each : AllByRecursion IsFrame frames

-- a frame is the one spelling of this caller's command, which a replay runs, and nothing in it is
-- refused; the numbers of a command are of their types
pub record IsRead (frame : List ℕ) (caller : ℕ) (command : Command) : Type 0 where
  pub spelled : frame ≡ frame_of caller command
  pub admitted : takes_caller Replay caller ≡ true
  pub run : takes_opcode Replay (opcode_in command) ≡ true
  pub form : IsWellFormed command
  pub typed : IsTyped command
  pub accepted : refusal_of Replay frame ≡ None
