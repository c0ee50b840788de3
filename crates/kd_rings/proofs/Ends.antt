-- The number before another, the last of a ring, and what stands behind them.
use Rattle.std.specs.Prelude.{◌≡◌, ◌≢◌, ◌≤◌, ℕ, Bool, true, false, List, [], ◌∷◌, ◌++◌, length, nat_eq, refl}
use Rattle.std.proofs.Common.{ap, arith, sym, ◌∙◌, subst}
use Rattle.std.proofs.lemmas.Bool.{true≢false}
use Rattle.std.proofs.lemmas.Bool.Decides.{nat_tests}
use Rattle.kd_model.specs.Words.{contains}
use Rattle.kd_rings.specs.Rings.{AllBut, Apart, before, behind, put_behind}
use Rattle.kd_rings.proofs.Linked.{equal, itself, tested}
use Rattle.kd_rings.proofs.Rings.{behind_first, holds_in, later_in}

-- the number before another is the first one or one of those before it
pub before_among : (n e : ℕ) (xs : List ℕ) → contains n xs ≡ true → contains (before n e xs) (e ∷ xs) ≡ true
before_among n e [] h = absurd (true≢false (sym h))
before_among n e (x ∷ xs) h = go (before_among n x xs) (nat_eq x n) refl
  where
    go : (contains n xs ≡ true → contains (before n x xs) (x ∷ xs) ≡ true) → (t : Bool) → nat_eq x n ≡ t → contains (elim t [ true ↦ e | false ↦ before n x xs ]) (e ∷ x ∷ xs) ≡ true
    go more true q = rw (itself e) refl
    go more false q = let other : nat_eq n x ≡ false = grind (arith, nat_tests) in later_in (before n x xs) e (x ∷ xs) (more (rw other at h))

-- the number before any other is the first one or one of those behind it
pub before_end : (h e : ℕ) (xs : List ℕ) → contains (before h e xs) (e ∷ xs) ≡ true
before_end h e [] = rw (itself e) refl
before_end h e (x ∷ xs) = go (before_end h x xs) (nat_eq x h)
  where
    go : contains (before h x xs) (x ∷ xs) ≡ true → (t : Bool) → contains (elim t [ true ↦ e | false ↦ before h x xs ]) (e ∷ x ∷ xs) ≡ true
    go more true = rw (itself e) refl
    go more false = later_in (before h x xs) e (x ∷ xs) more

-- nothing stands behind the last
pub end_behind : (h from : ℕ) (xs : List ℕ) → Apart (from ∷ xs) → AllBut h xs → behind (before h from xs) from xs ≡ []
end_behind h from [] d a = refl
end_behind h from (x ∷ xs) d a =
    let step : nat_eq x h ≡ false = tested x h a.0 in
    let apart : from ≢ before h x xs = λ s. holds_in (λ k. k ≢ from) (before h x xs) (x ∷ xs) d.0 (before_end h x xs) (sym s) in
    let test : nat_eq from (before h x xs) ≡ false = tested from (before h x xs) apart in
    rw (before, step) (rw (behind, test) (end_behind h x xs d.1 a.1))

-- what is put behind the last stands at the end
pub put_end : (h n from : ℕ) (xs : List ℕ) → Apart (from ∷ xs) → AllBut h xs → put_behind (before h from xs) n from xs ≡ xs ++ n ∷ []
put_end h n from [] d a = rw (put_behind, itself from) refl
put_end h n from (x ∷ xs) d a =
    let step : nat_eq x h ≡ false = tested x h a.0 in
    let apart : from ≢ before h x xs = λ s. holds_in (λ k. k ≢ from) (before h x xs) (x ∷ xs) d.0 (before_end h x xs) (sym s) in
    let test : nat_eq from (before h x xs) ≡ false = tested from (before h x xs) apart in
    rw (before, step) (rw (put_behind, test) (ap (x ∷◌) (put_end h n x xs d.1 a.1)))

-- a step back: what is left stands before what stood behind it
pub back_behind : (at from : ℕ) (xs : List ℕ) → Apart (from ∷ xs) → contains at xs ≡ true → behind (before at from xs) from xs ≡ at ∷ behind at from xs
back_behind at from [] d i = absurd (true≢false (sym i))
back_behind at from (x ∷ xs) d i = go (back_behind at x xs d.1) (nat_eq x at) refl
  where
    not_first : nat_eq from at ≡ false
    not_first = tested from at (λ s. holds_in (λ k. k ≢ from) at (x ∷ xs) d.0 i (sym s))

    left : behind at from (x ∷ xs) ≡ behind at x xs
    left = rw (behind, not_first) refl

    go : (contains at xs ≡ true → behind (before at x xs) x xs ≡ at ∷ behind at x xs) → (t : Bool) → nat_eq x at ≡ t → behind (before at from (x ∷ xs)) from (x ∷ xs) ≡ at ∷ behind at from (x ∷ xs)
    go more true q =
        let same = equal x at q in
        let first : before at from (x ∷ xs) ≡ from = rw (before, q) refl in
        let all : behind from from (x ∷ xs) ≡ x ∷ xs = behind_first from (x ∷ xs) in
        let rest : behind at x xs ≡ xs = subst (λ k. behind k x xs ≡ xs) same (behind_first x xs) in
        ap (λ k. behind k from (x ∷ xs)) first ∙ all ∙ ap (λ k. k ∷ xs) same ∙ ap (at ∷◌) (sym (left ∙ rest))
    go more false q =
        let other : nat_eq at x ≡ false = grind (arith, nat_tests) in
        let among : contains at xs ≡ true = rw other at i in
        let step : before at from (x ∷ xs) ≡ before at x xs = rw (before, q) refl in
        let apart : from ≢ before at x xs = λ s. holds_in (λ k. k ≢ from) (before at x xs) (x ∷ xs) d.0 (before_among at x xs among) (sym s) in
        let test : nat_eq from (before at x xs) ≡ false = tested from (before at x xs) apart in
        let right : behind (before at x xs) from (x ∷ xs) ≡ behind (before at x xs) x xs = rw (behind, test) refl in
        ap (λ k. behind k from (x ∷ xs)) step ∙ right ∙ more among ∙ ap (at ∷◌) (sym left)

-- what stands behind a number is no longer than all
pub behind_short : (p from : ℕ) (xs : List ℕ) → length (behind p from xs) ≤ length xs
behind_short p from [] = omega arith
behind_short p from (x ∷ xs) = go (behind_short p x xs) (nat_eq from p)
  where
    go : length (behind p x xs) ≤ length xs → (t : Bool) → length {A = ℕ} (elim t [ true ↦ x ∷ xs | false ↦ behind p x xs ]) ≤ length (x ∷ xs)
    go more true = omega arith
    go more false = omega arith
