-- One more outcome, behind those of the trials before it.
use Rattle.std.proofs.Common.{◌≡◌, ℕ, List, [], ◌∷◌, ◌++◌, ◌+◌, ◌<◌, length, take, get_or, sym, ap, subst, ◌∙◌}
use Rattle.std.proofs.lemmas.List.{take_more}
use Rattle.kd_rows.specs.declared.trial.Trial.{Trial}
use Rattle.kd_rows.specs.declared.outcome.Outcome.{Outcome}
use Rattle.kd_rows.specs.Trials.{AreOutcomes, IsOutcome}

one_more : (ts : List Trial) (os : List Outcome) (t : Trial) (o : Outcome) → AreOutcomes ts os → IsOutcome t o → AreOutcomes (ts ++ t ∷ []) (os ++ o ∷ [])
one_more [] [] t o all one = (one, tt)
one_more (s ∷ ts) (p ∷ os) t o all one = (all.0, one_more ts os t o all.1 one)
one_more [] (p ∷ os) t o all one = absurd all
one_more (s ∷ ts) [] t o all one = absurd all

pub next_outcome : (ts : List Trial) (i : ℕ) (t : Trial) (os : List Outcome) (o : Outcome) → i < length ts → t ≡ get_or ts i t → AreOutcomes (take i ts) os → IsOutcome t o → AreOutcomes (take (i + 1) ts) (os ++ o ∷ [])
next_outcome ts i t os o lt here all one =
    let more : take (i + 1) ts ≡ take i ts ++ t ∷ [] = take_more ts i t lt ∙ ap (λ (y : Trial). take i ts ++ y ∷ []) (sym here) in
    subst (λ (xs : List Trial). AreOutcomes xs (os ++ o ∷ [])) (sym more) (one_more (take i ts) os t o all one)
