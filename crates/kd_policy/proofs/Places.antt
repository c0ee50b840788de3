-- The first that passes a test, and where it stands.
use Rattle.std.proofs.Common.{◌≡◌, ℕ, ◌+◌, ◌<◌, zero, suc, Bool, true, false, cond, List, [], ◌∷◌, length, get_or, Option, Some, None, refl, sym, ap, ◌∙◌, arith}
use Rattle.std.specs.List.{find, position, position_from}
use Rattle.kd_policy.specs.declared.owner.Owner.{Owner}
use Rattle.kd_policy.specs.Policy.{Held, Policy, is_held_by, place_of, entries_of}
use Rattle.std.proofs.lemmas.Iterator.Adapters.{position_from-zero}
use Rattle.std.proofs.lemmas.List.Quantifiers.{position-Some}

first_from : {X : Type 0} (p : X → Bool) (xs : List X) (i : ℕ) (d : X) → i < length xs → p (get_or xs i d) ≡ true → ((k : ℕ) → k < i → p (get_or xs k d) ≡ false) → find p xs ≡ Some (get_or xs i d)
first_from p [] i d lt here before = absurd (omega (arith, lt))
first_from p (x ∷ xs) zero d lt here before = rw (here, find) refl
first_from p (x ∷ xs) (suc i) d lt here before =
    rw (before 0 (omega arith), find) (first_from p xs i d (omega (arith, lt)) here (λ k l. before (suc k) (omega (arith, l))))

-- the first stands at its position
pub first_at : {X : Type 0} (p : X → Bool) (xs : List X) (i : ℕ) (d : X) → position p xs ≡ Some i → find p xs ≡ Some (get_or xs i d)
first_at p xs i d is = let h = position-Some p xs i d is in first_from p xs i d h.0 h.1 h.2

no_first : {X : Type 0} (p : X → Bool) (i : ℕ) (xs : List X) → position_from p i xs ≡ None → find p xs ≡ None
no_first p i [] is = refl
no_first p i (x ∷ xs) is =
    (elim (p x) as (λ b. cond b (Some i) (position_from p (i + 1) xs) ≡ None → cond b (Some x) (find p xs) ≡ None) [
      | true ↦ λ e. cc
      | false ↦ λ e. no_first p (i + 1) xs e
    ]) is

-- where none has a position there is none
pub none_first : {X : Type 0} (p : X → Bool) (xs : List X) → position p xs ≡ None → find p xs ≡ None
none_first p xs is = no_first p 0 xs (sym (position_from-zero p xs) ∙ is)

-- the entries of an owner that stands at a place
pub entries_at : (p : Policy) (o : Owner) (i : ℕ) (h : Held) → place_of p o ≡ Some i → h ≡ get_or p i h → entries_of p o ≡ h.entries
entries_at p o i h is here =
    let it : find (is_held_by o) p ≡ Some h = first_at (is_held_by o) p i h is ∙ ap Some (sym here) in
    ap (λ (x : Option Held). elim x [ Some k ↦ k.entries | None ↦ [] ]) it

-- an owner that stands nowhere has none
pub no_entries : (p : Policy) (o : Owner) → place_of p o ≡ None → entries_of p o ≡ []
no_entries p o is = ap (λ (x : Option Held). elim x [ Some k ↦ k.entries | None ↦ [] ]) (none_first (is_held_by o) p is)
