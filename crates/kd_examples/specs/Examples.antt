-- When an example agrees with what is made of its lines, what the bus answers, and what is told.
use Rattle.std.specs.Prelude.{◌≢◌, ◌⊎◌, ◌<◌, ℕ, Bool, true, false, List, [], length}
use Rattle.std.specs.declared.option.Option.{Option}
use Rattle.std.specs.declared.option.Option.TheVariants.{Some}
use Rattle.kd_types.specs.declared.status.Status.TheVariants as statuses
use Rattle.kd_lines.specs.declared.kind.Kind.TheVariants.{Replies}
use Rattle.kd_lines.specs.declared.end.End.TheVariants as ends
use Rattle.kd_lines.specs.Lines.{ShowsSo}
use Rattle.kd_lines.specs.Making.{MakesSo}
use Rattle.kd_replay.specs.Transcript.{ReplayResult}
use Rattle.kd_examples.specs.declared.example.Example.{Example}
use Rattle.kd_examples.specs.declared.outcome.Outcome.{Outcome}
use Rattle.kd_examples.specs.declared.outcome.Outcome.TheVariants.{Agrees, TooLong, OtherFrames, OtherReplies, OtherLines}

-- what a run relates: what was written before it and after it, and how it ended
abbrev pub Run : Type 0 → Type 1
Run E = Option (List ℕ) → Option (List ℕ) → E → Type 0

-- a run ends well and writes what is wanted; or it ends otherwise, or writes something else
abbrev pub ComesTo : {E : Type 0} → Run E → E → List ℕ → Bool → Type 0
ComesTo Runs done wanted true = Runs (Some []) (Some wanted) done
ComesTo {E} Runs done wanted false =
    (written : List ℕ) × (end : E) × Runs (Some []) (Some written) end
    × ((written ≢ wanted) ⊎ (end ≢ done))

-- the lines make the frames, or don't
abbrev pub Makes : Example → Bool → Type 0
Makes e made = ComesTo (MakesSo e.lines.items) ends.Done e.frames.items made

-- the frames get the replies, or don't
abbrev pub Answers : Example → Bool → Type 0
Answers e answered = ComesTo (ReplayResult e.frames.items) statuses.Done e.replies.items answered

-- the replies are told so, or aren't
abbrev pub Tells : Example → Bool → Type 0
Tells e told = ComesTo (ShowsSo Replies e.replies.items) ends.Done e.told.items told

-- one of the files that a run reads is longer than a run takes
abbrev pub IsTooLong : Example → Type 0
IsTooLong e =
    (16777216 < length e.lines.items) ⊎ (16777216 < length e.frames.items)
    ⊎ (16777216 < length e.replies.items)

-- what an example came to
abbrev pub IsOutcome : Example → Outcome → Type 0
IsOutcome e Agrees = Makes e true × Answers e true × Tells e true
IsOutcome e TooLong = IsTooLong e
IsOutcome e OtherFrames = Makes e false
IsOutcome e OtherReplies = Answers e false
IsOutcome e OtherLines = Tells e false
