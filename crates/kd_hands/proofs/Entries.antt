-- What one more entry makes of the lists, the hands and the sweeps, and what is open after it.
use Rattle.std.proofs.Common.{◌≡◌, ℕ, ◌≢◌, Bool, true, false, cond, List, [], ◌∷◌, ◌++◌, eq-eqb, sym, refl, ap, ◌∙◌, arith, append_assoc}
use Rattle.std.proofs.lemmas.Grind.{common_steps}
use mathlib.Core.List.{IsPrefix}
use Rattle.std.specs.Prelude.{Option}
use Rattle.kd_hands.specs.Lists.{at_place, made_by}
use Rattle.kd_hands.specs.Locks.{Locks, entered, hands_after, opened_after}
use Rattle.kd_hands.proofs.Places.{every, place_here, place_else, row_else, both_else}

pub prefix_more : {A : Type 0} (xs ys zs : List A) → IsPrefix xs ys → IsPrefix xs (ys ++ zs)
prefix_more xs ys zs p = (p.0 ++ zs, sym (append_assoc xs p.0 zs) ∙ ap (λ w. w ++ zs) p.1)

module _ {E : Type 0} (j i : ℕ) (e : E) (list : List (ℕ × E)) where
  pub made_other : j ≢ i → made_by j (list ++ (i, e) ∷ []) ≡ made_by j list
  made_other n = grind (arith, common_steps)

  pub made_mine : j ≡ i → made_by j (list ++ (i, e) ∷ []) ≡ made_by j list ++ (i, e) ∷ []
  made_mine z = grind (arith, common_steps)

-- the pass j put the entry e on the lock l
module _ {E : Type 0} (after : ℕ → E → (ℕ → List ℕ) → ℕ → List ℕ) (l j : ℕ) (e : E) (w : Locks E) where
  abbrev w' : Locks E
  w' = entered after l j e w

  abbrev list' : List (ℕ × E)
  list' = w.told.lists l ++ (j, e) ∷ []

  pub lists_here : w'.told.lists l ≡ list'
  lists_here = place_here w.told.lists l l list' refl

  pub lists_else : (k : ℕ) → k ≢ l → w'.told.lists k ≡ w.told.lists k
  lists_else k ne = place_else w.told.lists l k list' ne

  pub others : (i k : ℕ) → i ≢ j → w'.hands i k ≡ w.hands i k
  others = row_else w.hands j (after l e (w.hands j))

  pub swept_else : (i k : ℕ) → k ≢ l → w'.swept i k ≡ w.swept i k
  swept_else i k ne = both_else w.swept j l [] i k (λ _ z. ne z)

  -- nothing of the lock is swept any more, where no other pass had swept any
  pub unswept : ((i : ℕ) → i ≢ j → w.swept i l ≡ []) → (i : ℕ) → w'.swept i l ≡ []
  unswept sole = every (λ i f. f l ≡ []) w.swept j (at_place (w.swept j) l []) (place_here (w.swept j) l l [] refl) sole

module _ {E : Type 0} (after : ℕ → E → List ℕ → List ℕ) (empties : E → Option ℕ) where
  pub mine_here : (l j : ℕ) (e : E) (w : Locks E) → (entered (hands_after after empties) l j e w).hands j l ≡ after l e (w.hands j l)
  mine_here l j e w = grind arith

  -- an entry puts nothing into a hand of another lock
  pub own_hand : (l : ℕ) (e : E) (hands : ℕ → List ℕ) (k : ℕ) → k ≢ l → hands k ≡ [] → hands_after after empties l e hands k ≡ []
  own_hand l e hands k ne bare = grind arith

module _ {E : Type 0} (l : ℕ) (x : ℕ × E) (h : Bool) (xs : List (ℕ × ℕ × E)) where
  pub opened_zero : l ≡ 0 → opened_after l x h xs ≡ []
  opened_zero z = ap (λ (b : Bool). cond b [] (cond h (xs ++ (l, x.0, x.1) ∷ []) xs)) (eq-eqb l 0 z)

  pub opened_on : l ≢ 0 → h ≡ true → opened_after l x h xs ≡ xs ++ (l, x.0, x.1) ∷ []
  opened_on n t = grind arith

  pub opened_off : l ≢ 0 → h ≡ false → opened_after l x h xs ≡ xs
  opened_off n t = grind arith
