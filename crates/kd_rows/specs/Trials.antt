-- When a recorded conversation agrees with what the bus answers.
use Rattle.std.specs.Prelude.{⊤, ◌≡◌, ◌≢◌, ◌⊎◌, ◌<◌, ℕ, Bool, true, false, List, [], ◌∷◌, length}
use Rattle.std.specs.declared.option.Option.TheVariants.{Some}
use Rattle.kd_types.specs.declared.status.Status.{Status}
use Rattle.kd_types.specs.declared.status.Status.TheVariants.{Done, BadFrame}
use Rattle.kd_replay.specs.Transcript.{ReplayResult}
use Rattle.kd_rows.specs.declared.trial.Trial.{Trial}
use Rattle.kd_rows.specs.declared.outcome.Outcome.{Outcome}
use Rattle.kd_rows.specs.declared.outcome.Outcome.TheVariants.{Agrees, Differs, Unfinished}

-- a run that came to the end of its frames
abbrev pub IsWhole : Status → Type 0
IsWhole Done = ⊤
IsWhole (BadFrame at) = ⊤
IsWhole _ = ⊥

-- the replies, and the end, are others than recorded
abbrev pub IsOther : Trial → List ℕ → Status → Type 0
IsOther t written end = (written ≢ t.output.items) ⊎ (end ≢ t.end)

-- beside a run that wrote this and ended so
abbrev pub IsCompared : Trial → List ℕ → Status → Outcome → Type 0
IsCompared t written end Agrees = IsWhole end × (written ≡ t.output.items) × (end ≡ t.end)
IsCompared t written end Differs = IsWhole end × IsOther t written end
IsCompared t written end Unfinished = ¬ IsWhole end

-- the bus answers the trial's frames so, and the run over them ends so
abbrev pub IsAnswered : Trial → List ℕ → Status → Type 0
IsAnswered t written end = ReplayResult t.input.items (Some []) (Some written) end

-- the input is longer than a run takes
abbrev pub IsTooLong : Trial → Type 0
IsTooLong t = 16777216 < length t.input.items

-- a trial agrees where the bus answers as recorded, and differs where it answers otherwise; it is
-- unfinished where memory or room was wanting
abbrev pub IsOutcome : Trial → Outcome → Type 0
IsOutcome t Agrees = IsWhole t.end × IsAnswered t t.output.items t.end
IsOutcome t Differs =
    (written : List ℕ) × (end : Status) × IsWhole end × IsAnswered t written end
    × IsOther t written end
IsOutcome t Unfinished =
    IsTooLong t ⊎ ((written : List ℕ) × (end : Status) × ¬ IsWhole end × IsAnswered t written end)

-- each trial's outcome, in their order
abbrev pub AreOutcomes : List Trial → List Outcome → Type 0
AreOutcomes [] [] = ⊤
AreOutcomes (t ∷ ts) (o ∷ os) = IsOutcome t o × AreOutcomes ts os
AreOutcomes _ _ = ⊥

-- a trial agreed
abbrev pub agrees : Outcome → Bool
agrees Agrees = true
agrees _ = false
