-- What a test finds in a list after an insert or a filter.
use Rattle.std.proofs.Common.{◌≡◌, Bool, true, false, cond, List, [], ◌∷◌, Some, None, refl, sym, ap, ◌∙◌}
use Rattle.std.specs.Prelude.{◌||◌, filter}
use Rattle.std.specs.List.{AllByRecursion}
use Rattle.std.proofs.lemmas.Bool.{or_from, or_parts}
use Rattle.kd_model.specs.Words.{first, put_in_order, some_of}

-- ---- after an insert

abbrev put : {X : Type 0} → Bool → X → X → List X → List X → List X
put b x y ys more = elim b [ true ↦ x ∷ y ∷ ys | false ↦ y ∷ more ]

swapped : (a b c : Bool) → (b || (a || c)) ≡ (a || (b || c))
swapped true true c = refl
swapped true false c = refl
swapped false true c = refl
swapped false false c = refl

-- a test finds the new one, or what it found before
pub some_of_put : {X : Type 0} (p : X → Bool) (below : X → X → Bool) (x : X) (xs : List X) → some_of p (put_in_order below x xs) ≡ (p x || some_of p xs)
some_of_put p below x [] = refl
some_of_put p below x (y ∷ ys) = go (below x y) (some_of_put p below x ys)
  where
    go : (b : Bool) → some_of p (put_in_order below x ys) ≡ (p x || some_of p ys)
        → some_of p (put b x y ys (put_in_order below x ys)) ≡ (p x || (p y || some_of p ys))
    go true ih = refl
    go false ih = ap (λ b. p y || b) ih ∙ swapped (p x) (p y) (some_of p ys)

-- an insert of what fails a test changes nothing of what is found
pub first_of_put : {X : Type 0} (p : X → Bool) (below : X → X → Bool) (x : X) (xs : List X) → p x ≡ false → first p (put_in_order below x xs) ≡ first p xs
first_of_put p below x [] e = ap (λ b. cond b (Some x) None) e
first_of_put p below x (y ∷ ys) e = go (below x y) (first_of_put p below x ys e)
  where
    go : (b : Bool) → first p (put_in_order below x ys) ≡ first p ys → first p (put b x y ys (put_in_order below x ys)) ≡ first p (y ∷ ys)
    go true ih = ap (λ b. cond b (Some x) (first p (y ∷ ys))) e
    go false ih = ap (λ o. cond (p y) (Some y) o) ih

-- the new one is found where it alone passes
pub first_is_put :
    {X : Type 0} (p : X → Bool) (below : X → X → Bool) (x : X) (xs : List X) → p x ≡ true → AllByRecursion (λ y. p y ≡ false) xs
    → first p (put_in_order below x xs) ≡ Some x
first_is_put p below x [] e a = ap (λ b. cond b (Some x) None) e
first_is_put p below x (y ∷ ys) e a = go (below x y) (first_is_put p below x ys e a.1)
  where
    go : (b : Bool) → first p (put_in_order below x ys) ≡ Some x → first p (put b x y ys (put_in_order below x ys)) ≡ Some x
    go true ih = ap (λ b. cond b (Some x) (first p (y ∷ ys))) e
    go false ih = ap (λ b. cond b (Some y) (first p (put_in_order below x ys))) a.0 ∙ ih

-- ---- after a filter

-- a filter that keeps all that pass a test, or none of them
pub first_of_filter :
    {X : Type 0} (test p : X → Bool) (b : Bool) → ((x : X) → test x ≡ true → p x ≡ b) → (xs : List X) → first test (filter p xs) ≡ cond b (first test xs) None
first_of_filter test p true h [] = refl
first_of_filter test p false h [] = refl
first_of_filter test p b h (x ∷ xs) = go (p x) (test x) refl (h x) (first_of_filter test p b h xs)
  where
    go : (c t : Bool) → test x ≡ t → (test x ≡ true → c ≡ b) → first test (filter p xs) ≡ cond b (first test xs) None
        → first test (cond c (x ∷ filter p xs) (filter p xs)) ≡ cond b (cond t (Some x) (first test xs)) None
    go true true e same ih = ap (λ t. cond t (Some x) (first test (filter p xs))) e ∙ ap (λ k. cond k (Some x) None) (same e)
    go false true e same ih = ih ∙ sym (ap (λ k. cond k (first test xs) None) (same e)) ∙ ap (λ k. cond k (Some x) None) (same e)
    go true false e same ih = ap (λ t. cond t (Some x) (first test (filter p xs))) e ∙ ih
    go false false e same ih = ih

-- two tests that agree on each element choose the same
pub filter_agrees : {X : Type 0} (p q : X → Bool) (xs : List X) → AllByRecursion (λ x. p x ≡ q x) xs → filter p xs ≡ filter q xs
filter_agrees p q [] a = refl
filter_agrees p q (x ∷ xs) a =
    ap (λ b. cond b (x ∷ filter p xs) (filter p xs)) a.0 ∙ ap (λ ys. cond (q x) (x ∷ ys) ys) (filter_agrees p q xs a.1)

-- those that a filter keeps have passed
pub all_that_pass : {X : Type 0} (P : X → Type 0) (p : X → Bool) (xs : List X) → AllByRecursion (λ x. p x ≡ true → P x) xs → AllByRecursion P (filter p xs)
all_that_pass P p [] a = tt
all_that_pass P p (x ∷ xs) a = go (p x) refl (all_that_pass P p xs a.1)
  where
    go : (b : Bool) → p x ≡ b → AllByRecursion P (filter p xs) → AllByRecursion P (cond b (x ∷ filter p xs) (filter p xs))
    go true e ih = (a.0 e, ih)
    go false e ih = ih

-- ---- what holds of each

-- where none is found, each fails the test
pub none_pass : {X : Type 0} (p : X → Bool) (xs : List X) → some_of p xs ≡ false → AllByRecursion (λ x. p x ≡ false) xs
none_pass p [] e = tt
none_pass p (x ∷ xs) e = let both = or_parts (p x) (some_of p xs) e in (both.0, none_pass p xs both.1)

-- and where each fails it, none is found
pub passes_none : {X : Type 0} (p : X → Bool) (xs : List X) → AllByRecursion (λ x. p x ≡ false) xs → some_of p xs ≡ false
passes_none p [] a = refl
passes_none p (x ∷ xs) a = or_from (p x) (some_of p xs) a.0 (passes_none p xs a.1)

pub all_both : {X : Type 0} (P Q : X → Type 0) (xs : List X) → AllByRecursion P xs → AllByRecursion Q xs → AllByRecursion (λ x. P x × Q x) xs
all_both P Q [] a b = tt
all_both P Q (x ∷ xs) a b = ((a.0, b.0), all_both P Q xs a.1 b.1)
