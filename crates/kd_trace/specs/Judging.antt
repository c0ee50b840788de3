-- What a checker keeps of a run so far.
use Rattle.std.specs.Prelude.{◌≡◌, ℕ, List, length, Option, Some, None, ⊤}
use Rattle.kd_wire.specs.Opcodes.{opcode_number}
use Rattle.kd_wire.specs.Commands.{opcode_in}
use Rattle.kd_world.specs.State.{Holder, World}
use Rattle.kd_world.specs.Legal.{Event, take}
use Rattle.kd_world.specs.Runs.{world_after}
use Rattle.kd_replay.specs.Turns.{replay_world}
use Rattle.kd_trace.specs.declared.verdict.Verdict.{Verdict}
use Rattle.kd_trace.specs.declared.verdict.Verdict.TheVariants.{Yes, No}
use Rattle.kd_trace.specs.Trace.{Pair, events}
use Rattle.kd_trace.specs.Right.{AreRight, IsFirstWrong}

-- while the desk is held, this is the number of the command with which it was taken
abbrev pub IsNumberOf : Option Holder → ℕ → Type 0
IsNumberOf None k = ⊤
IsNumberOf (Some h) k = k ≡ opcode_number (opcode_in h.command)

abbrev pub HoldsNumber : World → ℕ → Type 0
HoldsNumber w k = IsNumberOf w.holder k

-- the number of the command that an event gives, else the one before
abbrev pub number_with : Event → ℕ → ℕ
number_with (take n x) k = opcode_number (opcode_in x)
number_with e k = k

-- all pairs so far were run
pub record AreRun (ps : List Pair) (w : World) (k count : ℕ) : Type 0 where
  pub right : AreRight replay_world ps
  pub world : w ≡ world_after replay_world (events ps)
  pub number : HoldsNumber w k
  pub count_is : count ≡ length ps

-- what is known of the pairs so far, by the verdict on them
abbrev pub AreJudged : List Pair → World → ℕ → ℕ → Verdict → Type 0
AreJudged ps w k count Yes = AreRun ps w k count
AreJudged ps w k count (No index at) = IsFirstWrong ps index at
