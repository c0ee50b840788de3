-- What a sender owns.
use Rattle.std.proofs.Common.{◌≡◌, ℕ, ◌<◌, not, List, [], ◌∷◌, length, refl, arith, ◌==◌}
use Rattle.std.proofs.lemmas.Bool.{ne_eqb}
use Rattle.kd_model.specs.Words.{same, some_of}
use Rattle.kd_match.specs.Told.{owns}

-- for an empty name any
pub owned_any : (names : List (List ℕ)) (wanted : List ℕ) → length wanted ≡ 0 → not (length names == 0) ≡ owns names wanted
owned_any [] [] e = refl
owned_any (n ∷ names) [] e = rw (ne_eqb (length (n ∷ names)) 0 (λ h. omega arith)) refl
owned_any names (x ∷ xs) e = absurd (omega arith)

-- for another one that name
pub owned_one : (names : List (List ℕ)) (wanted : List ℕ) → 0 < length wanted → some_of (same wanted) names ≡ owns names wanted
owned_one names [] some = absurd (omega arith)
owned_one names (x ∷ xs) some = refl
