-- The first of a list that passes a test, by its place.
use Rattle.std.proofs.Common.{◌≡◌, ◌<◌, ℕ, Bool, true, false, List, [], ◌∷◌, Option, Some, None, get_or, length, refl, zero, suc, ap, sym, arith, ◌∙◌}
use Rattle.std.specs.Prelude.{is_some, nat_lt, cond}
use Rattle.std.specs.List.{position, position_or_len, remove, slice_get}
use Rattle.std.proofs.lemmas.List.Folds.{find_at}
use Rattle.std.proofs.lemmas.List.Quantifiers.{position-Some}
use Rattle.std.proofs.lemmas.Bool.Decides.{nat_tests}
use Rattle.kd_model.specs.Words.{first}
use Rattle.kd_world.specs.Callers.{without_first}

-- an element passes, and none before it
record IsFirst {X : Type 0} (test : X → Bool) (xs : List X) (i : ℕ) (x : X) : Type 0 where
  pub inside : i < length xs
  pub passes : test (get_or xs i x) ≡ true
  pub before : (k : ℕ) → k < i → test (get_or xs k x) ≡ false

-- it is found, and it is what is taken out
record IsTaken {X : Type 0} (test : X → Bool) (xs : List X) (i : ℕ) (x : X) : Type 0 where
  pub found : first test xs ≡ Some (get_or xs i x)
  pub others : remove xs i ≡ without_first test xs

taken : {X : Type 0} (test : X → Bool) (xs : List X) (i : ℕ) (x : X) → IsFirst test xs i x → IsTaken test xs i x
taken test [] i x f = let no : i < 0 = f.inside in absurd (omega (arith, no))
taken test (y ∷ ys) zero x f = record { found = rw f.passes refl; others = rw (f.passes, without_first) refl }
taken test (y ∷ ys) (suc i) x f =
    let no : test y ≡ false = f.before 0 (omega arith) in
    let behind = taken test ys i x (record { inside = omega (arith, f.inside); passes = f.passes; before = λ k lt. f.before (suc k) (omega (arith, lt)) }) in
    record { found = rw no behind.found; others = rw (no, without_first) (ap (λ xs. y ∷ xs) behind.others) }

first_there : {X : Type 0} (test : X → Bool) (xs : List X) (i : ℕ) (x : X) → position test xs ≡ Some i → IsTaken test xs i x
first_there test xs i x e = let p = position-Some test xs i x e in taken test xs i x (record { inside = p.0; passes = p.1; before = p.2 })

pub first_at : {X : Type 0} (test : X → Bool) (xs : List X) (i : ℕ) (x : X) → position test xs ≡ Some i → x ≡ get_or xs i x → first test xs ≡ Some x
first_at test xs i x e g = (first_there test xs i x e).found ∙ ap Some (sym g)

pub without_at : {X : Type 0} (test : X → Bool) (xs : List X) (i : ℕ) (x : X) → position test xs ≡ Some i → remove xs i ≡ without_first test xs
without_at test xs i x e = (first_there test xs i x e).others

some_at : {X : Type 0} (xs : List X) (n m : ℕ) → is_some (cond (nat_lt n (length xs)) (Some m) None) ≡ is_some (slice_get xs n)
some_at [] n m = grind (arith, nat_tests)
some_at (x ∷ xs) zero m = grind (arith, nat_tests)
some_at (x ∷ xs) (suc n) m = grind (arith, nat_tests, some_at xs n m)

-- there is one where it has a place
pub is_there : {X : Type 0} (test : X → Bool) (xs : List X) → is_some (position test xs) ≡ is_some (first test xs)
is_there test xs = some_at xs (position_or_len test xs) (position_or_len test xs) ∙ ap is_some (sym (find_at test xs))

pub none_there : {X : Type 0} (test : X → Bool) (xs : List X) → position test xs ≡ None → first test xs ≡ None
none_there test xs e = none (first test xs) (sym (is_there test xs) ∙ ap is_some e)
  where
    none : {X : Type 0} (o : Option X) → is_some o ≡ false → o ≡ None
    none None e = refl
    none (Some x) e = cc
