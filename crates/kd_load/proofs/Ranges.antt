-- Lists that have an element for each number of a range.
use Rattle.std.proofs.Common.{◌≡◌, ◌≢◌, ◌<◌, ◌≤◌, ℕ, zero, suc, ◌+◌, Bool, true, false, cond, List, [], ◌∷◌, map, filter, refl, ap, ◌∙◌, arith, ◌⊎◌, inl, inr}
use Rattle.std.specs.Prelude.{◌==◌, ◌&&◌, Some}
use Rattle.std.specs.List.{range_with_len}
use Rattle.std.proofs.lemmas.Bool.{cases_eq}
use Rattle.kd_model.specs.Words.{first, those}

-- it is the same number, or it isn't
pub same_number : (a : ℕ) → (a == a) ≡ true
same_number a = grind arith

pub other_number : (a b : ℕ) → a ≢ b → (a == b) ≡ false
other_number a b ne = grind arith

module _ {X : Type 0} (f : ℕ → X) (test : X → Bool) (i : ℕ) where
  -- the first that passes a test which only the element of one number passes
  pub first_in_range : test (f i) ≡ true → ((j : ℕ) → j ≢ i → 1 ≤ j → test (f j) ≡ false) → (a n : ℕ) → 1 ≤ a → a ≤ i → i < a + n → first test (map f (range_with_len a n)) ≡ Some (f i)
  first_in_range here else a zero some low high = absurd (omega arith)
  first_in_range here else a (suc n) some low high = go (cases_eq a i) (λ ne. first_in_range here else (a + 1) n (omega arith) (omega arith) (omega arith))
    where
      go : (a ≡ i) ⊎ (a ≡ i → ⊥) → ((a ≡ i → ⊥) → first test (map f (range_with_len (a + 1) n)) ≡ Some (f i)) → first test (map f (range_with_len a (suc n))) ≡ Some (f i)
      go (inl is) later = let t : test (f a) ≡ true = ap (λ (k : ℕ). test (f k)) is ∙ here in rw t (ap (λ (k : ℕ). Some (f k)) is)
      go (inr ne) later = let t : test (f a) ≡ false = else a ne some in rw t (later ne)

  -- no element of a range behind its number passes it
  pub none_behind : ((j : ℕ) → j ≢ i → 1 ≤ j → test (f j) ≡ false) → (a n : ℕ) → 1 ≤ a → i < a → those test (map f (range_with_len a n)) ≡ []
  none_behind else a zero some high = refl
  none_behind else a (suc n) some high = let t : test (f a) ≡ false = else a (λ z. omega arith) some in rw t (none_behind else (a + 1) n (omega arith) (omega arith))

  -- nor one of a range before it
  pub none_before : ((j : ℕ) → j ≢ i → 1 ≤ j → test (f j) ≡ false) → (a n : ℕ) → 1 ≤ a → a + n ≤ i → those test (map f (range_with_len a n)) ≡ []
  none_before else a zero some low = refl
  none_before else a (suc n) some low = let t : test (f a) ≡ false = else a (λ z. omega arith) some in rw t (none_before else (a + 1) n (omega arith) (omega arith))

  -- of all that are there, that one alone passes it
  pub those_in_range : test (f i) ≡ true → ((j : ℕ) → j ≢ i → 1 ≤ j → test (f j) ≡ false) → (a n : ℕ) → 1 ≤ a → a ≤ i → i < a + n → those test (map f (range_with_len a n)) ≡ f i ∷ []
  those_in_range here else a zero some low high = absurd (omega arith)
  those_in_range here else a (suc n) some low high = go (cases_eq a i) (λ ne. those_in_range here else (a + 1) n (omega arith) (omega arith) (omega arith))
    where
      go : (a ≡ i) ⊎ (a ≡ i → ⊥) → ((a ≡ i → ⊥) → those test (map f (range_with_len (a + 1) n)) ≡ f i ∷ []) → those test (map f (range_with_len a (suc n))) ≡ f i ∷ []
      go (inl is) later =
          let t : test (f a) ≡ true = ap (λ (k : ℕ). test (f k)) is ∙ here in
          let none = none_behind else (a + 1) n (omega arith) (omega arith) in
          rw t (λ k. f (is k) ∷ none k)
      go (inr ne) later = let t : test (f a) ≡ false = else a ne some in rw t (later ne)

-- none of a range passes a test which no element passes
pub none_in_range : {X : Type 0} (f : ℕ → X) (test : X → Bool) → ((j : ℕ) → 1 ≤ j → test (f j) ≡ false) → (a n : ℕ) → 1 ≤ a → those test (map f (range_with_len a n)) ≡ []
none_in_range f test none a zero some = refl
none_in_range f test none a (suc n) some = rw (none a some) (none_in_range f test none (a + 1) n (omega arith))

-- what passes a test behind a map, of those that pass another before it
pub those_behind : {X Y : Type 0} (f : X → Y) (test : X → Bool) (behind : Y → Bool) (xs : List X) → those behind (map f (those test xs)) ≡ map f (those (λ x. test x && behind (f x)) xs)
those_behind f test behind [] = refl
those_behind f test behind (x ∷ xs) = go (test x) (behind (f x)) (those_behind f test behind xs)
  where
    go : (b c : Bool) → those behind (map f (those test xs)) ≡ map f (those (λ x. test x && behind (f x)) xs)
        → filter behind (map f (cond b (x ∷ filter test xs) (filter test xs))) ≡ map f (cond (b && behind (f x)) (x ∷ filter (λ x. test x && behind (f x)) xs) (filter (λ x. test x && behind (f x)) xs))
    go false c later = later
    go true c later = step (behind (f x)) later
      where
        step : (d : Bool) → filter behind (map f (filter test xs)) ≡ map f (filter (λ x. test x && behind (f x)) xs)
            → cond d (f x ∷ filter behind (map f (filter test xs))) (filter behind (map f (filter test xs))) ≡ map f (cond d (x ∷ filter (λ x. test x && behind (f x)) xs) (filter (λ x. test x && behind (f x)) xs))
        step true later = ap (λ ys. f x ∷ ys) later
        step false later = later
