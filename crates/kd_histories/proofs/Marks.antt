-- The numbers that a sweep found marked.
use Rattle.std.specs.Prelude.{◌≡◌, ◌≢◌, ◌<◌, ◌≤◌, ◌/◌, ℕ, zero, suc, ◌==◌, ◌&&◌, ◌||◌, Bool, true, false, cond, List, [], ◌∷◌, ◌++◌, nat_lt, refl}
use Rattle.std.proofs.Common.{sym, ap, ◌∙◌, ne_eqb, arith}
use Rattle.std.proofs.lemmas.Bool.{false≢true, true≢false}
use Rattle.std.proofs.lemmas.Bool.Decides.{nat_tests}
use Rattle.std.proofs.lemmas.List.Folds.{list_any-append}
use Rattle.std.proofs.lemmas.List.{append-nil}
use mathlib.Core.Logic.{dite}
use native.Mathlib.Decide.{ℕ_discrete}
use Rattle.kd_model.specs.Words.{contains}
use Rattle.kd_acts.specs.State.{Hold, free}
use Rattle.kd_acts.specs.Steps.{after}
use Rattle.kd_hands.specs.Lists.{has_mark, is_marked, is_word_of, was_swept}
use Rattle.kd_histories.specs.Pools.{AreRising, SweepsTell, four_words, hold_freed, marked_below, marked_numbers}

freed_more : (ns ms : List ℕ) (h : Hold) → hold_freed (ns ++ ms) h ≡ hold_freed ms (hold_freed ns h)
unfolding hold_freed
freed_more [] ms h = refl
freed_more (n ∷ ns) ms h = freed_more ns ms (after h (free n))

-- the pool after one number more
pub freed_next : (n : ℕ) (words : ℕ → ℕ) (h : Hold) (b : Bool) → is_marked n words ≡ b
    → hold_freed (marked_below (suc n) words) h ≡ cond b (after (hold_freed (marked_below n words) h) (free n)) (hold_freed (marked_below n words) h)
unfolding marked_below hold_freed
freed_next n words h b e = freed_more (marked_below n words) (elim (is_marked n words) [ true ↦ n ∷ [] | false ↦ [] ]) h ∙ go (is_marked n words) b e
  where
    go : (a b : Bool) → a ≡ b → hold_freed (elim a [ true ↦ n ∷ [] | false ↦ [] ]) (hold_freed (marked_below n words) h) ≡ cond b (after (hold_freed (marked_below n words) h) (free n)) (hold_freed (marked_below n words) h)
    go true true e = refl
    go false false e = refl
    go true false e = absurd (true≢false e)
    go false true e = absurd (false≢true e)

-- a number is among them where it is marked
pub marked_below_has : (k n : ℕ) (words : ℕ → ℕ) → contains n (marked_below k words) ≡ (nat_lt n k && is_marked n words)
unfolding marked_below
marked_below_has zero n words = grind (arith, nat_tests)
marked_below_has (suc k) n words =
    list_any-append (λ x. n == x) (marked_below k words) (elim (is_marked k words) [ true ↦ k ∷ [] | false ↦ [] ])
    ∙ (ap (λ b. b || contains n (elim (is_marked k words) [ true ↦ k ∷ [] | false ↦ [] ])) (marked_below_has k n words) ∙ dite (ℕ_discrete n k)
    (λ z. here z (is_marked k words) refl)
    (λ ne. there ne (is_marked k words)))
  where
    here : n ≡ k → (b : Bool) → is_marked k words ≡ b → ((nat_lt n k && is_marked n words) || contains n (elim b [ true ↦ k ∷ [] | false ↦ [] ])) ≡ (nat_lt n (suc k) && is_marked n words)
    here z true q = let m : is_marked n words ≡ true = ap (λ (i : ℕ). is_marked i words) z ∙ q in grind (arith, nat_tests, m, z)
    here z false q = let m : is_marked n words ≡ false = ap (λ (i : ℕ). is_marked i words) z ∙ q in grind (arith, nat_tests, m, z)

    there : n ≢ k → (b : Bool) → ((nat_lt n k && is_marked n words) || contains n (elim b [ true ↦ k ∷ [] | false ↦ [] ])) ≡ (nat_lt n (suc k) && is_marked n words)
    there ne true = let lt : nat_lt n (suc k) ≡ nat_lt n k = grind (arith, nat_tests, ne) in grind (arith, nat_tests, lt, ne_eqb n k ne)
    there ne false = let lt : nat_lt n (suc k) ≡ nat_lt n k = grind (arith, nat_tests, ne) in grind (arith, nat_tests, lt)

-- they rise
rising_with : (xs : List ℕ) (from m : ℕ) → from ≤ m → AreRising from xs m → AreRising from (xs ++ m ∷ []) (suc m)
rising_with [] from m le r = (le, omega arith, tt)
rising_with (x ∷ xs) from m le r = let low = r.1 in (r.0, omega (arith, low), rising_with xs (suc x) m (omega (arith, low)) r.2)

rising_wider : (xs : List ℕ) (from m : ℕ) → AreRising from xs m → AreRising from xs (suc m)
rising_wider [] from m r = tt
rising_wider (x ∷ xs) from m r = let low = r.1 in (r.0, omega (arith, low), rising_wider xs (suc x) m r.2)

marked_below_rise : (k : ℕ) (words : ℕ → ℕ) → AreRising 0 (marked_below k words) k
unfolding marked_below
marked_below_rise zero words = tt
marked_below_rise (suc k) words = go (is_marked k words) (marked_below_rise k words)
  where
    go : (b : Bool) → AreRising 0 (marked_below k words) k → AreRising 0 (marked_below k words ++ elim b [ true ↦ k ∷ [] | false ↦ [] ]) (suc k)
    go true r = rising_with (marked_below k words) 0 k (omega arith) r
    go false r = rw (append-nil (marked_below k words)) (rising_wider (marked_below k words) 0 k r)

pub marked_numbers_rise : (words : ℕ → ℕ) → AreRising 0 (marked_numbers words) 256
marked_numbers_rise words = marked_below_rise 256 words

-- the four words that were swept have them
module _ (words : ℕ → ℕ) (n : ℕ) where
  word_is : (q : ℕ) → n / 64 ≡ q → has_mark n (words (n / 64)) ≡ has_mark n (words q)
  word_is q e = ap (λ (k : ℕ). has_mark n (words k)) e

  swept_has : was_swept n (four_words words) ≡ (nat_lt n 256 && has_mark n (words (n / 64)))
  swept_has = dite (ℕ_discrete (n / 64) 0) (λ e. let w = word_is 0 e in grind (arith, nat_tests, e, w))
      (λ n0. dite (ℕ_discrete (n / 64) 1) (λ e. let w = word_is 1 e in grind (arith, nat_tests, e, w))
      (λ n1. dite (ℕ_discrete (n / 64) 2) (λ e. let w = word_is 2 e in grind (arith, nat_tests, e, w))
      (λ n2. dite (ℕ_discrete (n / 64) 3) (λ e. let w = word_is 3 e in grind (arith, nat_tests, e, w))
      (λ n3. grind (arith, nat_tests, n0, n1, n2, n3)))))

  word_swept : n < 256 → is_word_of n (four_words words) ≡ true
  word_swept low = grind (arith, nat_tests, low)

and_twice : (a b : Bool) → (a && (a && b)) ≡ (a && b)
and_twice true b = refl
and_twice false b = refl

pub sweeps_tell : SweepsTell
sweeps_tell words = (
  marked_numbers_rise words,
  λ n. marked_below_has 256 n words ∙ (and_twice (nat_lt n 256) (has_mark n (words (n / 64))) ∙ sym (swept_has words n)),
  λ n low. word_swept words n low,
)
