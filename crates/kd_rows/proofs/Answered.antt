-- What a comparison says of the run that it was made with.
use Rattle.std.proofs.Common.{◌≡◌, inr, ℕ, List, [], Option, Some, subst, refl}
use Rattle.kd_types.specs.declared.status.Status.{Status}
use Rattle.kd_types.specs.declared.status.Status.TheVariants.{Done, BadWords, ReadFault, WriteFault, BadFrame, TooMuchInput, OutOfMemory, NoWorker, ListenFault, BadConfig, BadTrace}
use Rattle.kd_replay.specs.Transcript.{ReplayResult}
use Rattle.kd_rows.specs.declared.trial.Trial.{Trial}
use Rattle.kd_rows.specs.declared.outcome.Outcome.{Outcome}
use Rattle.kd_rows.specs.declared.outcome.Outcome.TheVariants.{Agrees, Differs, Unfinished}
use Rattle.kd_rows.specs.Trials.{IsAnswered, IsCompared, IsOutcome, IsWhole}

recorded : (t : Trial) (written : List ℕ) (end : Status) → written ≡ t.output.items → end ≡ t.end → IsWhole end → IsAnswered t written end → IsOutcome t Agrees
recorded t written end w e whole run =
    (subst IsWhole e whole, subst (λ (s : Status). IsAnswered t t.output.items s) e (subst (λ (bytes : List ℕ). IsAnswered t bytes end) w run))

compared_so : (t : Trial) (written : List ℕ) (end : Status) (o : Outcome) → IsAnswered t written end → IsCompared t written end o → IsOutcome t o
compared_so t written end Agrees run x = recorded t written end x.1 x.2 x.0 run
compared_so t written end Differs run x = (written, end, x.0, run, x.1)
compared_so t written end Unfinished run x = inr (written, end, x, run)

-- no end but these two is one of whole frames
pub not_whole : (end : Status) → (end ≡ Done → ⊥) → ((at : ℕ) → end ≡ BadFrame at → ⊥) → ¬ IsWhole end
not_whole Done d b = λ w. d refl
not_whole (BadFrame at) d b = λ w. b at refl
not_whole BadWords d b = λ w. w
not_whole ReadFault d b = λ w. w
not_whole WriteFault d b = λ w. w
not_whole TooMuchInput d b = λ w. w
not_whole OutOfMemory d b = λ w. w
not_whole NoWorker d b = λ w. w
not_whole ListenFault d b = λ w. w
not_whole (BadConfig at) d b = λ w. w
not_whole (BadTrace at) d b = λ w. w

pub answered : (t : Trial) (bytes : List ℕ) (before after : Option (List ℕ)) (written : List ℕ) (end : Status) (o : Outcome) → bytes ≡ t.input.items → before ≡ Some [] → after ≡ Some written → ReplayResult bytes before after end → IsCompared t written end o → IsOutcome t o
answered t bytes before after written end o b s h run x =
    compared_so t written end o
    (subst (λ (held : Option (List ℕ)). ReplayResult t.input.items (Some []) held end) h
    (subst (λ (held : Option (List ℕ)). ReplayResult t.input.items held after end) s
    (subst (λ (frames : List ℕ). ReplayResult frames before after end) b run))) x
