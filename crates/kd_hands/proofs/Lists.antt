-- What stands at a place of a list.
use Rattle.std.proofs.Common.{◌≡◌, ℕ, zero, suc, ◌+◌, ◌<◌, ◌≤◌, ◌≢◌, ◌⊎◌, List, [], ◌∷◌, ◌++◌, map, length, get_or, set, replicate, subst, sym, refl, ◌∙◌, inl, inr, ⊎_elim, arith, get_or-set_other, get_or-set_same}
use Rattle.std.proofs.lemmas.Grind.{common_steps}
use Rattle.std.proofs.lemmas.List.{get_or_past}
use Rattle.std.proofs.lemmas.List.FromFn.{get_or-map-range_with_len, length-map-range_with_len}
use Rattle.std.specs.List.{sum_by}
use Rattle.std.proofs.lemmas.List.Sums.{sum_by-set}
use mathlib.Core.Option.{some, some-injective, some-ne-none}
use mathlib.Core.Logic.{dite}
use native.Mathlib.Decide.{dec_le, ℕ_discrete}
use lib.ListN.{get_elem?}
use Rattle.kd_hands.specs.Lists.{tabled}

-- an element that stands in a list is read there
pub read : {A : Type 0} (l : List A) (i : ℕ) (a d : A) → get_elem? l i ≡ some a → (i < length l) × (get_or l i d ≡ a)
read [] i a d e = absurd (some-ne-none a (sym e))
read (x ∷ xs) zero a d e = (omega arith, some-injective x a e)
read (x ∷ xs) (suc i) a d e = let r = read xs i a d e in (omega arith, r.1)

pub snoc_at : {A : Type 0} (l : List A) (a b : A) (j : ℕ) → get_elem? (l ++ a ∷ []) j ≡ some b → (get_elem? l j ≡ some b) ⊎ ((j ≡ length l) × (a ≡ b))
snoc_at [] a b zero e = inr (refl, some-injective a b e)
snoc_at [] a b (suc j) e = absurd (some-ne-none b (sym e))
snoc_at (x ∷ xs) a b zero e = inl e
snoc_at (x ∷ xs) a b (suc j) e = ⊎_elim (λ h. inl h) (λ h. inr (let t = h.0 in omega arith, h.1)) (snoc_at xs a b j e)

-- a list of one value alone has it everywhere
pub all_alike : {A : Type 0} (n k : ℕ) (a : A) → get_or (replicate n a) k a ≡ a
all_alike n k a = grind (arith, common_steps)

pub some_at : {A : Type 0} (l : List A) (i : ℕ) → i < length l → (a : A) × (get_elem? l i ≡ some a)
some_at [] i h = absurd (omega arith)
some_at (x ∷ xs) zero h = (x, refl)
some_at (x ∷ xs) (suc i) h = some_at xs i (omega arith)

snoc_here : {A : Type 0} (xs : List A) (a d : A) (j : ℕ) → j ≡ length xs → get_or (xs ++ a ∷ []) j d ≡ a
snoc_here xs a d j e = grind (arith, common_steps)

snoc_else : {A : Type 0} (xs : List A) (a d : A) (j : ℕ) → j ≢ length xs → get_or (xs ++ a ∷ []) j d ≡ get_or xs j d
snoc_else xs a d j n = grind (arith, common_steps)

-- an element of a mapped list comes from one of the list
pub map_at : {A B : Type 0} (f : A → B) (xs : List A) (k : ℕ) (b : B) → get_elem? (map f xs) k ≡ some b → (a : A) × (get_elem? xs k ≡ some a) × (f a ≡ b)
map_at f [] k b e = absurd (some-ne-none b (sym e))
map_at f (x ∷ xs) zero b e = (x, refl, some-injective (f x) b e)
map_at f (x ∷ xs) (suc k) b e = map_at f xs k b e

pub sum_set : {A : Type 0} (f : A → ℕ) (xs : List A) (i : ℕ) (x y : A) → get_elem? xs i ≡ some x → sum_by f (set xs i y) + f x ≡ sum_by f xs + f y
sum_set f xs i x y e = let r = read xs i x x e in subst (λ z. sum_by f (set xs i y) + f z ≡ sum_by f xs + f y) r.1 (sum_by-set f xs i y x r.0)

-- what holds of the element that was set, and of all others as they were, holds of each
pub each_set : {A : Type 0} (xs : List A) (l : ℕ) (a : A) (d : ℕ → A) → l < length xs → (P : ℕ → A → Type 0) → P l a
    → ((k : ℕ) → k ≢ l → P k (get_or xs k (d k))) → (k : ℕ) → P k (get_or (set xs l a) k (d k))
each_set xs l a d lt P here else k = dite (ℕ_discrete k l)
    (λ z. subst (λ i. P i (get_or (set xs l a) i (d i))) (sym z) (subst (P l) (sym (get_or-set_same xs l a (d l) lt)) here))
    (λ n. subst (P k) (sym (get_or-set_other xs l k a (d k) n)) (else k n))

-- the same of one more element at the end
pub each_snoc : {A : Type 0} (xs : List A) (n : ℕ) (a : A) (d : ℕ → A) → length xs ≡ n → (P : ℕ → A → Type 0) → P n a
    → ((k : ℕ) → k ≢ n → P k (get_or xs k (d k))) → (k : ℕ) → P k (get_or (xs ++ a ∷ []) k (d k))
each_snoc xs n a d long P here else k = dite (ℕ_discrete k n)
    (λ z. subst (λ i. P i (get_or (xs ++ a ∷ []) i (d i))) (sym z) (subst (P n) (sym (snoc_here xs a (d n) n (sym long))) here))
    (λ z. subst (P k) (sym (snoc_else xs a (d k) k (λ e. z (e ∙ long)))) (else k z))

-- a table of a function that is empty from n on
pub tabled_at : (n : ℕ) (f : ℕ → List ℕ) → ((k : ℕ) → n ≤ k → f k ≡ []) → (k : ℕ) → get_or (tabled n f) k [] ≡ f k
tabled_at n f beyond k = dite (dec_le n k)
    (λ le. let long = length-map-range_with_len f 0 n in get_or_past (tabled n f) k [] (omega arith) ∙ sym (beyond k le))
    (λ lt. get_or-map-range_with_len f 0 n k k [] (omega arith) (omega arith))
