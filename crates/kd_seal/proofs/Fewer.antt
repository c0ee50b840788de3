-- Taking out what is there leaves fewer.
use Rattle.std.proofs.Common.{◌≡◌, ◌<◌, ◌≤◌, Bool, true, false, not, ◌||◌, cond, List, [], ◌∷◌, length, arith}
use Rattle.std.specs.List.{list_any}
use Rattle.kd_model.specs.Words.{but_those}

pub at_most : {X : Type 0} (test : X → Bool) (xs : List X) → length (but_those test xs) ≤ length xs
at_most test [] = omega arith
at_most test (x ∷ xs) = one (at_most test xs) (not (test x))
  where
    one : length (but_those test xs) ≤ length xs → (t : Bool) → length (cond t (x ∷ but_those test xs) (but_those test xs)) ≤ length (x ∷ xs)
    one rest true = omega arith
    one rest false = omega arith

pub fewer_without : {X : Type 0} (test : X → Bool) (xs : List X) → list_any test xs ≡ true → length (but_those test xs) < length xs
fewer_without test [] h = absurd (cc)
fewer_without test (x ∷ xs) h = one (at_most test xs) (fewer_without test xs) (test x) h
  where
    one : length (but_those test xs) ≤ length xs → (list_any test xs ≡ true → length (but_those test xs) < length xs) → (t : Bool) → (t || list_any test xs) ≡ true → length (cond (not t) (x ∷ but_those test xs) (but_those test xs)) < length (x ∷ xs)
    one most rest true h = omega arith
    one most rest false h = let less = rest h in omega arith
