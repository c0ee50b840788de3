-- The trace of the run that frames make, and how a record of them ends.
use Rattle.std.specs.Prelude.{◌≡◌, ◌≢◌, ◌⊎◌, ℕ, ◌≤◌, List, [], ◌∷◌, length, take, Option}
use Rattle.std.specs.Io.KnownBytes.{Appends, Keeps}
use Rattle.kd_types.specs.declared.status.Status.{Status}
use Rattle.kd_types.specs.declared.status.Status.TheVariants.{Done, BadWords, ReadFault, WriteFault, TooMuchInput, OutOfMemory, BadFrame}
use Rattle.kd_world.specs.State.{World}
use Rattle.kd_world.specs.Legal.{Event}
use Rattle.kd_world.specs.Step.{step}
use Rattle.kd_replay.specs.Turns.{replay_world}
use Rattle.kd_replay.specs.Frames.{HasNoFrame, IsCut, joined}
use Rattle.kd_replay.specs.Transcript.{AreRunBy, Ends}
use Rattle.kd_replay.specs.Ends.{HasReadTooMuch, WasReadToItsEnd}
use Rattle.kd_trace.specs.Trace.{IsTrace, Pair}
use Rattle.kd_trace.specs.Right.{AreRight, outcome}

-- events that happen one after the other, each with its answer
unfoldable pub pairs_along : World → List Event → List Pair
pairs_along w [] = []
pairs_along w (e ∷ es) = record { event = e; outcome = outcome w e } ∷ pairs_along (step w e) es

-- the bytes are the trace of the run that the frames make: of the legal events by which they are
-- run, each with its answer; so it is right to its end
pub record IsRecord (frames : List (List ℕ)) (written : List ℕ) : Type 0 where
  pub events : List Event
  pub end : World
  pub run : AreRunBy replay_world frames events end
  pub ends : Ends replay_world events end
  pub trace : IsTrace written (pairs_along replay_world events)
  pub right : AreRight replay_world (pairs_along replay_world events)

-- a front of the trace of the first frames was written
abbrev pub WritesFront : List ℕ → Option (List ℕ) → Option (List ℕ) → Type 0
WritesFront bytes held_before held_after =
    (frames : List (List ℕ)) × (rest written : List ℕ) × (n : ℕ) × IsCut bytes frames rest
    × IsRecord frames written × Appends held_before held_after (take n written)

-- the trace of all these frames was written
abbrev pub WritesAll : List (List ℕ) → Option (List ℕ) → Option (List ℕ) → Type 0
WritesAll frames held_before held_after =
    (written : List ℕ) × IsRecord frames written × Appends held_before held_after written

-- what recording the frames of these bytes came to
abbrev pub RecordResult : List ℕ → Option (List ℕ) → Option (List ℕ) → Status → Type 0
RecordResult bytes held_before held_after Done =
    (frames : List (List ℕ)) × IsCut bytes frames [] × WritesAll frames held_before held_after
RecordResult bytes held_before held_after (BadFrame at) =
    (frames : List (List ℕ)) × (rest : List ℕ) × IsCut bytes frames rest × (rest ≢ [])
    × HasNoFrame rest × (at ≡ length (joined frames)) × WritesAll frames held_before held_after
RecordResult bytes held_before held_after WriteFault = WritesFront bytes held_before held_after
RecordResult bytes held_before held_after OutOfMemory = WritesFront bytes held_before held_after
RecordResult bytes held_before held_after _ = ⊥

-- the greatest number of bytes that a record takes
abbrev pub most_recorded : ℕ
most_recorded = 16777216

-- what a record read and wrote, by its end: nothing is written before the words were looked at and
-- the input was read to its end
abbrev pub IsRecordEnd :
    Option (List ℕ) → Option (List ℕ) → Option (List ℕ) → Option (List ℕ) → Status → Type 0
IsRecordEnd left_before left_after held_before held_after BadWords =
    Keeps left_before left_after × Keeps held_before held_after
IsRecordEnd left_before left_after held_before held_after ReadFault = Keeps held_before held_after
IsRecordEnd left_before left_after held_before held_after TooMuchInput =
    HasReadTooMuch most_recorded left_before left_after × Keeps held_before held_after
IsRecordEnd left_before left_after held_before held_after OutOfMemory =
    Keeps held_before held_after
    ⊎ ((bytes : List ℕ) × WasReadToItsEnd left_before left_after bytes
    × RecordResult bytes held_before held_after OutOfMemory)
IsRecordEnd left_before left_after held_before held_after status =
    (bytes : List ℕ) × WasReadToItsEnd left_before left_after bytes
    × (length bytes ≤ most_recorded) × RecordResult bytes held_before held_after status
