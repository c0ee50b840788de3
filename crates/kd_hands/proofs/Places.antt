-- Functions that differ at one place, and who is at a place.
use Rattle.std.proofs.Common.{◌≡◌, ℕ, ◌==◌, ◌≢◌, Bool, true, false, cond, eq-eqb, ne_eqb, subst, sym, refl, ap, ◌∙◌, arith}
use Rattle.std.specs.Prelude.{Option, Some, None}
use mathlib.Core.Logic.{dite}
use mathlib.Core.Path.{Path}
use native.Mathlib.Decide.{ℕ_discrete}
use Rattle.kd_hands.specs.Lists.{at_place, is_at}

pub not_both : (b : Bool) → b ≡ true → b ≡ false → ⊥
not_both b t f = let no : true ≡ false = sym t ∙ f in cc

module _ {A : Type 0} where
  pub place_here : (f : ℕ → A) (l k : ℕ) (a : A) → k ≡ l → at_place f l a k ≡ a
  place_here f l k a e = ap (λ b. cond b a (f k)) (eq-eqb k l e)

  pub place_else : (f : ℕ → A) (l k : ℕ) (a : A) → k ≢ l → at_place f l a k ≡ f k
  place_else f l k a n = ap (λ b. cond b a (f k)) (ne_eqb k l n)

  -- what holds of the new value, and of all others as they were, holds of each
  pub every : (P : ℕ → A → Type 0) (f : ℕ → A) (l : ℕ) (a : A) → P l a → ((k : ℕ) → k ≢ l → P k (f k)) → (k : ℕ) → P k (at_place f l a k)
  every P f l a here else k = dite (ℕ_discrete k l)
      (λ e. subst (P k) (sym (place_here f l k a e)) (subst (λ i. P i a) (sym e) here))
      (λ n. subst (P k) (sym (place_else f l k a n)) (else k n))

  pub place_same : (f : ℕ → A) (l : ℕ) → Path (ℕ → A) f (at_place f l (f l))
  place_same f l = λ i k. every (λ k a. f k ≡ a) f l (f l) refl (λ _ _. refl) k i

module _ {A B : Type 0} (g : A → B) where
  -- what a change at one place leaves
  pub same_at : (f : ℕ → A) (l : ℕ) (a : A) → g a ≡ g (f l) → (k : ℕ) → g (f k) ≡ g (at_place f l a k)
  same_at f l a e = every (λ k x. g (f k) ≡ g x) f l a (sym e) (λ _ _. refl)

  -- what is read of the values
  pub place_map : (f : ℕ → A) (l : ℕ) (a : A) → Path (ℕ → B) (at_place (λ k. g (f k)) l (g a)) (λ k. g (at_place f l a k))
  place_map f l a = λ i k. every (λ k x. at_place (λ k. g (f k)) l (g a) k ≡ g x) f l a (place_here (λ k. g (f k)) l l (g a) refl)
      (λ k n. place_else (λ k. g (f k)) l k (g a) n) k i

  -- the value at 0, which may be the new one
  pub place_zero : (f : ℕ → A) (l : ℕ) (a : A) → cond (l == 0) (g a) (g (f 0)) ≡ g (at_place f l a 0)
  place_zero f l a = every (λ k x. 0 ≡ k → cond (l == 0) (g a) (g (f 0)) ≡ g x) f l a (λ e. ap (λ b. cond b (g a) (g (f 0))) (eq-eqb l 0 (sym e)))
      (λ k n e. ap (λ b. cond b (g a) (g (f 0))) (ne_eqb l 0 (λ z. n (sym e ∙ sym z))) ∙ ap (λ (i : ℕ). g (f i)) e) 0 refl

pub zero_same : {A : Type 0} (f : ℕ → A) (l : ℕ) → f 0 ≡ cond (l == 0) (f l) (f 0)
zero_same f l = grind arith

pub zero_or_not : {A : Type 0} (l : ℕ) (a b c d : A) → (l ≡ 0 → a ≡ c) → (l ≢ 0 → b ≡ d) → cond (l == 0) a b ≡ cond (l == 0) c d
zero_or_not l a b c d here else = grind (arith, here, else)

-- a row and a place in a table of two numbers
module _ {A : Type 0} (f : ℕ → ℕ → A) (l : ℕ) (g : ℕ → A) where
  pub row_here : (k : ℕ) → at_place f l g l k ≡ g k
  row_here k = ap (λ (h : ℕ → A). h k) (place_here f l l g refl)

  pub row_else : (j k : ℕ) → j ≢ l → at_place f l g j k ≡ f j k
  row_else j k n = ap (λ (h : ℕ → A). h k) (place_else f l j g n)

module _ {A : Type 0} (f : ℕ → ℕ → A) (l q : ℕ) (a : A) where
  pub both_here : at_place f l (at_place (f l) q a) l q ≡ a
  both_here = row_here f l (at_place (f l) q a) q ∙ place_here (f l) q q a refl

  pub both_else : (k i : ℕ) → (k ≡ l → i ≡ q → ⊥) → at_place f l (at_place (f l) q a) k i ≡ f k i
  both_else k i = every (λ k g. (k ≡ l → i ≡ q → ⊥) → g i ≡ f k i) f l (at_place (f l) q a) (λ ne. place_else (f l) q i a (ne refl)) (λ _ _ _. refl) k

pub both_same : {A : Type 0} (f : ℕ → ℕ → A) (l q : ℕ) → Path (ℕ → ℕ → A) f (at_place f l (at_place (f l) q (f l q)))
both_same f l q = place_same f l ∙ ap (at_place f l) (place_same (f l) q)

pub some_same : {A : Type 0} (a b : A) → Path (Option A) (Some a) (Some b) → Path A a b
some_same a b e = cc

pub is_at_some : (k : ℕ) (o : Option ℕ) → o ≡ Some k → is_at k o ≡ true
is_at_some k o e = ap (is_at k) e ∙ eq-eqb k k refl

pub is_at_not : (k : ℕ) (o : Option ℕ) → o ≢ Some k → is_at k o ≡ false
is_at_not k o n = grind arith

pub some_if_at : (k : ℕ) (o : Option ℕ) → is_at k o ≡ true → o ≡ Some k
some_if_at k o e = grind arith

-- who is there is the only one, and where nobody is there it is none
pub nobody_at : (o : Option ℕ) → ((k : ℕ) → is_at k o ≡ true → ⊥) → o ≡ None
nobody_at None h = refl
nobody_at (Some i) h = absurd (h i (eq-eqb i i refl))

pub is_some_or_not : (t : Option ℕ) (n : ℕ) → Dec (t ≡ Some n)
is_some_or_not t n = grind arith
