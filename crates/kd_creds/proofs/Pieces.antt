-- A text that is cut at its first mark.
use Rattle.std.proofs.Common.{◌≡◌, ℕ, ◌+◌, ◌<◌, Bool, true, false, cond, List, [], ◌∷◌, length, take, drop, Some, None, refl, sym, ◌∙◌, arith}
use Rattle.std.specs.List.{slice_split, onto_first, position, position_from, position_or_len}
use Rattle.std.proofs.lemmas.Iterator.Adapters.{position_from-zero}
use Rattle.std.proofs.lemmas.List.{drop-drop}
use Rattle.std.proofs.lemmas.List.Quantifiers.{position-Some}
use Rattle.std.proofs.lemmas.List.Splits.{slice_split_first}
use Rattle.std.proofs.lemmas.List.Sums.{position_or_len_is}

-- without a mark the text is its one piece
whole_from : (p : ℕ → Bool) (i : ℕ) (xs : List ℕ) → position_from p i xs ≡ None → slice_split p xs ≡ xs ∷ []
whole_from p i [] e = refl
whole_from p i (x ∷ xs) e =
    (elim (p x) as (λ v. cond v (Some i) (position_from p (i + 1) xs) ≡ None → cond v ([] ∷ slice_split p xs) (onto_first x (slice_split p xs)) ≡ (x ∷ xs) ∷ []) [
      | true ↦ λ h. cc
      | false ↦ λ h. rw (whole_from p (i + 1) xs h) refl
    ]) e

pub whole : (p : ℕ → Bool) (xs : List ℕ) → position p xs ≡ None → slice_split p xs ≡ xs ∷ []
whole p xs e = whole_from p 0 xs (sym (position_from-zero p xs) ∙ e)

-- the first piece ends at the first mark
pub cut : (p : ℕ → Bool) (xs : List ℕ) (i : ℕ) → position p xs ≡ Some i → slice_split p xs ≡ take i xs ∷ slice_split p (drop 1 (drop i xs))
cut p xs i e =
    let h = position-Some p xs i 0 e in
    let at : position_or_len p xs ≡ i = position_or_len_is p xs i 0 (omega (arith, h.0)) h.2 (λ _. h.1) in
    let lt : position_or_len p xs < length xs = omega (arith, h.0, at) in
    slice_split_first p xs 0 lt ∙ rw (at, drop-drop 1 i xs) refl
