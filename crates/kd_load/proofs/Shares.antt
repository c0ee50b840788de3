-- Messages in any order are counted thread by thread.
use Rattle.std.proofs.Common.{◌≡◌, ◌<◌, ◌≤◌, ◌==◌, ◌⊎◌, inl, inr, ℕ, zero, suc, ◌+◌, Bool, true, false, cond, filter, List, [], ◌∷◌, ◌++◌, length, refl, ap, sym, ◌∙◌, arith}
use Rattle.std.specs.List.{AllByRecursion, flat_map, range_with_len}
use Rattle.std.proofs.lemmas.Bool.{cases_eq}
use Rattle.kd_model.specs.Words.{those}
use Rattle.kd_load.specs.declared.message.Message.{Message}
use Rattle.kd_load.specs.Load.{load, messages_of}
use Rattle.kd_load.specs.Counts.{count_for, is_for, offered}
use Rattle.kd_load.specs.Bus.{IsMessage}
use Rattle.kd_load.specs.Laws.{AreOfLoad}
use Rattle.kd_load.proofs.Ranges.{other_number, same_number}

-- the sum of so many values, from one number on
total : (ℕ → ℕ) → ℕ → ℕ → ℕ
total f a zero = 0
total f a (suc n) = f a + total f (a + 1) n

same_total : (f g : ℕ → ℕ) (a n : ℕ) → ((i : ℕ) → a ≤ i → i < a + n → f i ≡ g i) → total f a n ≡ total g a n
unfolding total
same_total f g a zero same = refl
same_total f g a (suc n) same =
    let first = same a (omega arith) (omega arith) in
    let rest = same_total f g (a + 1) n (λ i low high. same i (omega arith) (omega arith)) in
    omega (arith, first, rest)

-- one value is more by so much
module _ (f g : ℕ → ℕ) (s k : ℕ) (more : (i : ℕ) → g i ≡ cond (s == i) k 0 + f i) where
  after_it : (a n : ℕ) → s < a → total g a n ≡ total f a n
  unfolding total
  after_it a zero past = refl
  after_it a (suc n) past =
      let first : g a ≡ 0 + f a = more a ∙ (λ t. cond (other_number s a (λ z. omega arith) t) k 0 + f a) in
      let rest = after_it (a + 1) n (omega arith) in
      omega (arith, first, rest)

  with_it : (a n : ℕ) → a ≤ s → s < a + n → total g a n ≡ k + total f a n
  unfolding total
  with_it a zero low high = absurd (omega arith)
  with_it a (suc n) low high = go (cases_eq s a) (λ ne. with_it (a + 1) n (omega arith) (omega arith))
    where
      go : (s ≡ a) ⊎ (s ≡ a → ⊥) → ((s ≡ a → ⊥) → total g (a + 1) n ≡ k + total f (a + 1) n) → g a + total g (a + 1) n ≡ k + (f a + total f (a + 1) n)
      go (inl is) later =
          let first : g a ≡ k + f a = more a ∙ (λ t. cond ((ap (λ (q : ℕ). s == q) (sym is) ∙ same_number s) t) k 0 + f a) in
          let rest = after_it (a + 1) n (omega arith) in
          omega (arith, first, rest)
      go (inr ne) later =
          let first : g a ≡ 0 + f a = more a ∙ (λ t. cond (other_number s a ne t) k 0 + f a) in
          let rest = later ne in
          omega (arith, first, rest)

module _ (id : ℕ) where
  counted_more : (b : Bool) (m : Message) (ms : List Message) → count_for id (cond b (m ∷ ms) ms) ≡ cond b (cond (is_for id m) 1 0) 0 + count_for id ms
  counted_more false m ms = omega arith
  counted_more true m ms = go (is_for id m)
    where
      go : (c : Bool) → length (cond c (m ∷ filter (is_for id) ms) (filter (is_for id) ms)) ≡ cond c 1 0 + length (filter (is_for id) ms)
      go true = omega arith
      go false = omega arith

  counted_both : (xs ys : List Message) → count_for id (xs ++ ys) ≡ count_for id xs + count_for id ys
  counted_both [] ys = omega arith
  counted_both (x ∷ xs) ys = go (is_for id x) (counted_both xs ys)
    where
      go : (c : Bool) → count_for id (xs ++ ys) ≡ count_for id xs + count_for id ys
          → length (cond c (x ∷ filter (is_for id) (xs ++ ys)) (filter (is_for id) (xs ++ ys))) ≡ length (cond c (x ∷ filter (is_for id) xs) (filter (is_for id) xs)) + count_for id ys
      go true later = omega (arith, later)
      go false later = later

  of_all : (f : ℕ → List Message) (a n : ℕ) → count_for id (flat_map f (range_with_len a n)) ≡ total (λ i. count_for id (f i)) a n
  unfolding total
  of_all f a zero = refl
  of_all f a (suc n) = let rest = of_all f (a + 1) n in counted_both (f a) (flat_map f (range_with_len (a + 1) n)) ∙ omega (arith, rest)

  share : List Message → ℕ → ℕ
  share ms i = count_for id (those (λ (m : Message). m.sender == i) ms)

  none_shared : (a n : ℕ) → 0 ≡ total (share []) a n
  unfolding total share
  none_shared a zero = refl
  none_shared a (suc n) = let rest = none_shared (a + 1) n in omega (arith, rest)

  by_shares : (n : ℕ) (ms : List Message) → AllByRecursion (IsMessage n) ms → count_for id ms ≡ total (share ms) 1 n
  unfolding share
  by_shares n [] all = none_shared 1 n
  by_shares n (m ∷ ms) all =
      let rest = by_shares n ms all.1 in
      let here = with_it (share ms) (share (m ∷ ms)) m.sender (cond (is_for id m) 1 0) (λ i. counted_more (m.sender == i) m _) 1 n all.0.some (let low = all.0.low in omega (arith, low)) in
      let one = counted_more true m ms in
      omega (arith, rest, here, one)

  pub counted_as_loaded : (seed n sends : ℕ) (ms : List Message) → AreOfLoad seed n sends ms → count_for id ms ≡ offered seed n sends id
  unfolding offered load share
  counted_as_loaded seed n sends ms of_load =
      by_shares n ms of_load.each
      ∙ (same_total (share ms) (λ i. count_for id (messages_of seed n sends i)) 1 n (λ i low high. ap (λ (xs : List Message). count_for id xs) (of_load.shares i low (omega arith)))
      ∙ sym (of_all (messages_of seed n sends) 1 n))
