-- How a check of a source's bytes ends, and what was read and written then, where the source and
-- the sink tell it.
use Rattle.std.specs.Prelude.{◌≡◌, ℕ, ◌≤◌, List, length, take, Option}
use Rattle.std.specs.Io.KnownBytes.{Appends, Keeps}
use Rattle.kd_types.specs.declared.status.Status.{Status}
use Rattle.kd_types.specs.declared.status.Status.TheVariants.{Done, BadWords, ReadFault, WriteFault, TooMuchInput, OutOfMemory, BadTrace}
use Rattle.kd_replay.specs.Ends.{HasReadTooMuch, WasReadToItsEnd}
use Rattle.kd_trace.specs.declared.verdict.Verdict.{Verdict}
use Rattle.kd_trace.specs.declared.verdict.Verdict.TheVariants.{Yes}
use Rattle.kd_trace.specs.Trace.{BreaksAt, IsTrace, Pair, events}
use Rattle.kd_trace.specs.Right.{HasVerdict, IsLegalRun}
use Rattle.kd_trace.specs.Texts.{verdict_line}

-- the greatest number of bytes that a check takes
abbrev pub most_checked : ℕ
most_checked = 268435456

-- this is the verdict on the bytes, which are a trace; where it is Yes the run is legal, with all
-- that holds of every legal run
pub record IsJudged (bytes : List ℕ) (v : Verdict) : Type 0 where
  pub verdict : HasVerdict bytes v
  pub legal : v ≡ Yes → (ps : List Pair) × IsTrace bytes ps × IsLegalRun (events ps)

-- what a check of bytes came to: the line of their verdict was written, or a front of it where the
-- sink failed; nothing where they aren't a trace, and break at the byte that is told
abbrev pub CheckResult : List ℕ → Option (List ℕ) → Option (List ℕ) → Status → Type 0
CheckResult bytes held_before held_after Done =
    (v : Verdict) × IsJudged bytes v × Appends held_before held_after (verdict_line v)
CheckResult bytes held_before held_after (BadTrace at) =
    BreaksAt bytes at × Keeps held_before held_after
CheckResult bytes held_before held_after WriteFault =
    (v : Verdict) × (n : ℕ) × IsJudged bytes v
    × Appends held_before held_after (take n (verdict_line v))
CheckResult bytes held_before held_after OutOfMemory = Keeps held_before held_after
CheckResult bytes held_before held_after _ = ⊥

-- what a check read and wrote, by its end: nothing is written before the words were looked at and
-- the input was read to its end, and nothing where memory is wanting
abbrev pub IsCheckEnd :
    Option (List ℕ) → Option (List ℕ) → Option (List ℕ) → Option (List ℕ) → Status → Type 0
IsCheckEnd left_before left_after held_before held_after BadWords =
    Keeps left_before left_after × Keeps held_before held_after
IsCheckEnd left_before left_after held_before held_after ReadFault = Keeps held_before held_after
IsCheckEnd left_before left_after held_before held_after TooMuchInput =
    HasReadTooMuch most_checked left_before left_after × Keeps held_before held_after
IsCheckEnd left_before left_after held_before held_after OutOfMemory =
    Keeps held_before held_after
IsCheckEnd left_before left_after held_before held_after status =
    (bytes : List ℕ) × WasReadToItsEnd left_before left_after bytes
    × (length bytes ≤ most_checked) × CheckResult bytes held_before held_after status
