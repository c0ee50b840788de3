-- Which traces are right: the run is legal from the opening of a bus, and each event has its
-- answer.
use Rattle.std.specs.Prelude.{◌≡◌, ℕ, true, List, [], ◌∷◌, ◌++◌, length, Option, Some, None, IsNone, ⊤}
use Rattle.kd_types.specs.Refusal.{refusal_number, refusal_value}
use Rattle.kd_wire.specs.Opcodes.{opcode_number}
use Rattle.kd_wire.specs.Commands.{opcode_in}
use Rattle.kd_tables.specs.declared.part.Out.TheVariants as out
use Rattle.kd_world.specs.State.{Holder, World}
use Rattle.kd_world.specs.Legal.{Event, legal}
use Rattle.kd_world.specs.Answers.{says}
use Rattle.kd_world.specs.Step.{step}
use Rattle.kd_world.specs.Runs.{AreLegal, world_after}
use Rattle.kd_world.specs.Tie.{IsOffered, IsOfferedSoFar}
use Rattle.kd_world.specs.Agreed.{HandsAgree, SlicesStay}
use Rattle.kd_pairs.specs.Paired.{IsPairedAlong}
use Rattle.kd_core.specs.declared.event.Answer.{Answer}
use Rattle.kd_core.specs.declared.event.Answer.TheVariants as answer
use Rattle.kd_core.specs.Running.{said}
use Rattle.kd_replay.specs.Turns.{replay_world}
use Rattle.kd_trace.specs.declared.outcome.Outcome.{Outcome}
use Rattle.kd_trace.specs.declared.outcome.Outcome.TheVariants.{Taken, Published, Gone, Freed, Visited, Refused, Slice, VisitRefused, Left, Got, Bytes}
use Rattle.kd_trace.specs.declared.verdict.Verdict.{Verdict}
use Rattle.kd_trace.specs.declared.verdict.Verdict.TheVariants.{Yes, No}
use Rattle.kd_trace.specs.Trace.{IsTrace, Pair, events, trace_bytes}

-- the number of the command with which the desk was taken
abbrev pub number_held : Option Holder → ℕ
number_held None = 0
number_held (Some h) = opcode_number (opcode_in h.command)

-- an answer as a trace has it; the reply to a command has the command's number
abbrev pub outcome_of : ℕ → Answer → Outcome
outcome_of command answer.Taken = Taken
outcome_of command (answer.Refused why) = Refused (refusal_number why) (refusal_value why)
outcome_of command (answer.Visited out.Done) = Visited
outcome_of command (answer.Visited (out.Slice number)) = Slice number
outcome_of command (answer.Visited (out.Refused why)) =
    VisitRefused (refusal_number why) (refusal_value why)
outcome_of command (answer.Left reply) = Left command reply
outcome_of command answer.Published = Published
outcome_of command answer.Gone = Gone
outcome_of command (answer.Got g) = Got g.number g.offset g.length g.dropped
outcome_of command (answer.Bytes bytes) = Bytes bytes
outcome_of command answer.Freed = Freed

-- what the world answers to an event
unfoldable pub outcome : World → Event → Outcome
outcome w e = outcome_of (number_held w.holder) (said e (says w e))

-- the event is legal, and has its answer
pub record IsRight (w : World) (p : Pair) : Type 0 where
  pub allowed : legal w p.event ≡ true
  pub answer : p.outcome ≡ outcome w p.event

-- and so it is of each pair, where those before it were run
abbrev pub AreRight : World → List Pair → Type 0
AreRight w [] = ⊤
AreRight w (p ∷ ps) = IsRight w p × AreRight (step w p.event) ps

-- the first pair that isn't right, counted from 0, and where its event begins
pub record IsFirstWrong (ps : List Pair) (index at : ℕ) : Type 0 where
  pub before : List Pair
  pub wrong : Pair
  pub behind : List Pair
  pub all : ps ≡ before ++ wrong ∷ behind
  pub right : AreRight replay_world before
  pub here : IsRight (world_after replay_world (events before)) wrong → ⊥
  pub index_is : index ≡ length before
  pub place : at ≡ length (trace_bytes before)

-- a verdict on some pairs
abbrev pub IsVerdict : List Pair → Verdict → Type 0
IsVerdict ps Yes = AreRight replay_world ps
IsVerdict ps (No index at) = IsFirstWrong ps index at

-- the verdict on bytes that are a trace
abbrev pub HasVerdict : List ℕ → Verdict → Type 0
HasVerdict bytes v = (ps : List Pair) × IsTrace bytes ps × IsVerdict ps v

-- all that holds of the run of a right trace, named again for whoever reads a verdict: it is legal;
-- each pool was made what the desk's history addresses to it, in order, each once, followed by what
-- the desk's holder has visited, if somebody holds it; each publishing that isn't gone is of the
-- last offer before it at its pool that reserved its number, by the same caller and with that
-- offer's content, and no other stands between the two; and before each event hands agree with
-- pools, and every slice keeps its place and its bytes through it until it is let go
pub record IsLegalRun (es : List Event) : Type 0 where
  pub legal : AreLegal 1000 64 8 es
  pub offered : (c : ℕ) → IsNone ((world_after replay_world es).holder) → IsOffered 1000 64 8 c es
  pub offered_so_far : (c : ℕ) → IsOfferedSoFar 1000 64 8 c es
  pub paired : IsPairedAlong 1000 64 8 es
  pub hands :
      (before behind : List Event) → es ≡ before ++ behind → HandsAgree (world_after replay_world before)
  pub slices :
      (before behind : List Event) (e : Event) → es ≡ before ++ e ∷ behind
      → SlicesStay (world_after replay_world before) e
