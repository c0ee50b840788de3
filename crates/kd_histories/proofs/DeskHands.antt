-- The point on hands, for an entry on lock 0 that leaves or empties hands. It speaks of no bus.
use Rattle.std.specs.Prelude.{◌≡◌, ◌≢◌, ◌⊎◌, ℕ, zero, suc, ◌==◌, ◌&&◌, true, false, cond, List, [], ◌∷◌, ◌++◌, Option, Some, None, refl}
use Rattle.std.proofs.Common.{sym, ap, ◌∙◌, subst, eq-eqb, ne_eqb, inl, inr, ⊎_elim, arith}
use mathlib.Core.Logic.{dite}
use native.Mathlib.Decide.{ℕ_discrete}
use Rattle.kd_hands.specs.Lists.{hand_has, is_marked, was_swept, is_at}
use Rattle.kd_hands.specs.Locks.{Locks, Handed, entered, hands_after}
use Rattle.kd_hands.proofs.Places.{not_both, place_here}
use Rattle.kd_hands.proofs.Entries.{lists_here, lists_else, mine_here, others, swept_else}

-- the entry leaves the hands of the lock k, and its keeper
abbrev pub Leaves : {E : Type 0} → (ℕ → List (ℕ × E) → Option ℕ) → (E → Option ℕ) → E → ℕ → Locks E → ℕ → Type 0
Leaves keeper empties e j w k = (is_at k (empties e) ≡ false) × ((i : ℕ) → keeper k (w.told.lists 0) ≡ Some i → keeper k (w.told.lists 0 ++ (j, e) ∷ []) ≡ Some i)

-- it empties the hand of the lock k: its pass alone may have numbers of it, and none is out
abbrev pub Empties : {E : Type 0} → (ℕ → List (ℕ × E) → ℕ → Type 0) → (ℕ → List (ℕ × E) → Option ℕ) → (E → Option ℕ) → E → ℕ → Locks E → ℕ → Type 0
Empties out keeper empties e j w k = (is_at k (empties e) ≡ true) × (keeper k (w.told.lists 0) ≡ Some j) × ((n : ℕ) → out k (w.told.lists k) n → ⊥)

module _ {E : Type 0} (lends out : ℕ → List (ℕ × E) → ℕ → Type 0) (keeper : ℕ → List (ℕ × E) → Option ℕ) (after : ℕ → E → List ℕ → List ℕ) (empties : E → Option ℕ)
    (no_lent : (list : List (ℕ × E)) (n : ℕ) → lends 0 list n → ⊥) (no_out : (list : List (ℕ × E)) (n : ℕ) → out 0 list n → ⊥)
    (e : E) (j : ℕ) (w : Locks E) (h : Handed lends out keeper w) (same : (hand : List ℕ) → after 0 e hand ≡ hand)
    (each : (c : ℕ) → Leaves keeper empties e j w (suc c) ⊎ Empties out keeper empties e j w (suc c)) where
  abbrev hs : ℕ → E → (ℕ → List ℕ) → ℕ → List ℕ
  hs = hands_after after empties

  abbrev w' : Locks E
  w' = entered hs 0 j e w

  mine_at : (k : ℕ) → w'.hands j k ≡ hs 0 e (w.hands j) k
  mine_at k = ap (λ (f : ℕ → List ℕ). f k) (place_here w.hands j j (hs 0 e (w.hands j)) refl)

  other : (i k : ℕ) → i ≢ j → w'.hands i k ≡ w.hands i k
  other i k ne = others hs 0 j e w i k ne

  by : (P : ℕ → Type 0) → P j → ((i : ℕ) → i ≢ j → P i) → (i : ℕ) → P i
  by P here else i = dite (ℕ_discrete i j) (λ z. subst P (sym z) here) (λ ne. else i ne)

  mine_pool : (c : ℕ) → w'.hands j (suc c) ≡ cond (is_at (suc c) (empties e)) [] (w.hands j (suc c))
  mine_pool c = mine_at (suc c)
      ∙ (ap (λ b. cond b (after 0 e (w.hands j 0)) (cond ((0 == 0) && is_at (suc c) (empties e)) [] (w.hands j (suc c)))) (ne_eqb (suc c) 0 (λ z. omega arith))
      ∙ ap (λ b. cond (b && is_at (suc c) (empties e)) [] (w.hands j (suc c))) (eq-eqb 0 0 refl))

  zero_same : (i : ℕ) → w'.hands i 0 ≡ w.hands i 0
  zero_same = by (λ i. w'.hands i 0 ≡ w.hands i 0) (mine_here after empties 0 j e w ∙ same (w.hands j 0)) (λ i ne. other i 0 ne)

  -- a hand stays where the entry leaves its lock
  stays_at : (c : ℕ) → is_at (suc c) (empties e) ≡ false → (i : ℕ) → w'.hands i (suc c) ≡ w.hands i (suc c)
  stays_at c off = by (λ i. w'.hands i (suc c) ≡ w.hands i (suc c)) (mine_pool c ∙ ap (λ b. cond b [] (w.hands j (suc c))) off) (λ i ne. other i (suc c) ne)

  bare_at : (c : ℕ) → is_at (suc c) (empties e) ≡ true → w'.hands j (suc c) ≡ []
  bare_at c on = mine_pool c ∙ ap (λ b. cond b [] (w.hands j (suc c))) on

  hands_at : (i k : ℕ) → (w'.hands i k ≡ w.hands i k) ⊎ (w'.hands i k ≡ [])
  hands_at i zero = inl (zero_same i)
  hands_at i (suc c) = ⊎_elim (λ l. inl (stays_at c l.0 i))
      (λ m. by (λ i. (w'.hands i (suc c) ≡ w.hands i (suc c)) ⊎ (w'.hands i (suc c) ≡ [])) (inr (bare_at c m.0)) (λ i ne. inl (other i (suc c) ne)) i) (each c)

  was : (i k n : ℕ) → hand_has n (w'.hands i k) ≡ true → hand_has n (w.hands i k) ≡ true
  was i k n q = ⊎_elim (λ s. ap (hand_has n) (sym s) ∙ q) (λ none. absurd (not_both (hand_has n (w'.hands i k)) q (ap (hand_has n) none))) (hands_at i k)

  still_not : (i k n : ℕ) → hand_has n (w.hands i k) ≡ false → hand_has n (w'.hands i k) ≡ false
  still_not i k n q = ⊎_elim (λ s. ap (hand_has n) s ∙ q) (λ none. ap (hand_has n) none) (hands_at i k)

  lists_same : (k : ℕ) → w'.told.lists (suc k) ≡ w.told.lists (suc k)
  lists_same k = lists_else hs 0 j e w (suc k) (λ z. omega arith)

  swept_same : (i k : ℕ) → w'.swept i (suc k) ≡ w.swept i (suc k)
  swept_same i k = swept_else hs 0 j e w i (suc k) (λ z. omega arith)

  lent_same : (k n : ℕ) → lends k (w.told.lists k) n → lends k (w'.told.lists k) n
  lent_same zero n x = absurd (no_lent (w.told.lists 0) n x)
  lent_same (suc k) n x = subst (λ g. lends (suc k) g n) (sym (lists_same k)) x

  kept : (i k n : ℕ) → hand_has n (w'.hands i k) ≡ true → keeper k (w'.told.lists 0) ≡ Some i
  kept i zero n q = absurd (no_lent (w.told.lists 0) n (h.lent i 0 n (was i 0 n q)))
  kept i (suc c) n q = ⊎_elim
      (λ l. ap (keeper (suc c)) (lists_here hs 0 j e w) ∙ l.1 i (h.kept i (suc c) n (was i (suc c) n q)))
      (λ m.
      let me : j ≡ i = let f = sym m.1 ∙ h.kept i (suc c) n (was i (suc c) n q) in cc in
      absurd (not_both (hand_has n (w'.hands i (suc c))) q (ap (λ (z : ℕ). hand_has n (w'.hands z (suc c))) (sym me) ∙ ap (hand_has n) (bare_at c m.0))))
      (each c)

  out_was : (k n : ℕ) → out (suc k) (w'.told.lists (suc k)) n → out (suc k) (w.told.lists (suc k)) n
  out_was k n o = subst (λ g. out (suc k) g n) (lists_same k) o

  found : (k n : ℕ) → out k (w'.told.lists k) n → ((i : ℕ) × (hand_has n (w'.hands i k) ≡ true)) ⊎ ((is_marked n (w.marks k) ≡ true) ⊎ ((i : ℕ) × (was_swept n (w'.swept i k) ≡ true)))
  found zero n o = absurd (no_out (w'.told.lists 0) n o)
  found (suc c) n o = ⊎_elim
      (λ l. ⊎_elim (λ f. inl (f.0, ap (hand_has n) (stays_at c l.0 f.0) ∙ f.1))
      (λ g. inr (⊎_elim (λ m. inl m) (λ q. inr (q.0, ap (was_swept n) (swept_same q.0 c) ∙ q.1)) g)) (h.found (suc c) n (out_was c n o)))
      (λ m. absurd (m.2 n (out_was c n o))) (each c)

  once : (i k n : ℕ) → out k (w'.told.lists k) n → is_marked n (w.marks k) ≡ true → hand_has n (w'.hands i k) ≡ false
  once i zero n o m = absurd (no_out (w'.told.lists 0) n o)
  once i (suc k) n o m = still_not i (suc k) n (h.once i (suc k) n (out_was k n o) m)

  gone : (i k n : ℕ) → out k (w'.told.lists k) n → was_swept n (w'.swept i k) ≡ true → (is_marked n (w.marks k) ≡ false) × ((z : ℕ) → hand_has n (w'.hands z k) ≡ false)
  gone i zero n o q = absurd (no_out (w'.told.lists 0) n o)
  gone i (suc k) n o q = let g = h.gone i (suc k) n (out_was k n o) (ap (was_swept n) (sym (swept_same i k)) ∙ q) in (g.0, (λ z. still_not z (suc k) n (g.1 z)))

  pub desk_keeps : Handed lends out keeper w'
  desk_keeps = record {
    lent = λ i k n q. lent_same k n (h.lent i k n (was i k n q));
    lent_mark = λ k n m. lent_same k n (h.lent_mark k n m);
    kept = kept;
    found = found;
    once = once;
    gone = gone;
    clear = λ i k n holds. let no : None ≡ Some i = holds in absurd cc;
  }
