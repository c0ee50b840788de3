-- The point on hands, for an entry on the desk that gives a seat back and empties its hand.
use Rattle.std.proofs.Common.{◌≡◌, ℕ, zero, suc, ◌≢◌, ◌⊎◌, ◌==◌, ◌&&◌, true, false, cond, List, [], ◌∷◌, ◌++◌, eqb-true, eq-eqb, ne_eqb, subst, sym, refl, ap, ◌∙◌, inl, inr, ⊎_elim, arith}
use Rattle.std.specs.Prelude.{Some, None}
use mathlib.Core.Logic.{dite}
use native.Mathlib.Decide.{ℕ_discrete}
use Rattle.kd_hands.specs.declared.views.View.{View}
use Rattle.kd_hands.specs.Views.{part}
use Rattle.kd_hands.specs.Lists.{hand_has, is_marked, was_swept, is_at}
use Rattle.kd_hands.specs.Locks.{Locks, Handed, entered, hands_after}
use Rattle.kd_hands.specs.Fits.{Fits}
use Rattle.kd_hands.proofs.Places.{not_both, place_here, some_same}
use Rattle.kd_hands.proofs.Entries.{lists_here, lists_else, mine_here, others, swept_else}
use Rattle.kd_toy_bus.specs.declared.act.Slip.{Slip}
use Rattle.kd_toy_bus.specs.declared.act.Act.TheVariants.{Leave}
use Rattle.kd_toy_bus.specs.declared.locked.Pool.TheVariants.{Closed}
use Rattle.kd_toy_bus.specs.Bus.{slip_act, pool_of, pool_out, keeper_after, kept_from, IsFair, is_seated, closed, errands, errand_at, opened_at, lends, out, keeper, hand_with, slip_hand, emptied_by, empties}
use Rattle.kd_toy_bus.proofs.Laws.{kept_snoc, shut_is}
use Rattle.kd_toy_bus.proofs.Ties.{leaves}
use Rattle.kd_toy_bus.proofs.Desks.{OwesPut, keeper_mine}

-- the hand of another lock, after an entry on the desk
after_desk : (e : Slip) (hands : ℕ → List ℕ) (c : ℕ) → hands_after slip_hand empties 0 e hands (suc c) ≡ cond (is_at (suc c) (empties e)) [] (hands (suc c))
after_desk e hands c = ap (λ b. cond b (slip_hand 0 e (hands 0)) (cond ((0 == 0) && is_at (suc c) (empties e)) [] (hands (suc c)))) (ne_eqb (suc c) 0 (λ z. omega arith)) ∙ ap (λ b. cond (b && is_at (suc c) (empties e)) [] (hands (suc c))) (eq-eqb 0 0 refl)

pub emptied_at : (s l : ℕ) → suc s ≡ l → (e : Slip) → slip_act e ≡ Leave s → (hands : ℕ → List ℕ) → hands_after slip_hand empties 0 e hands l ≡ []
emptied_at s l eq e is hands = subst (λ k. hands_after slip_hand empties 0 e hands k ≡ []) eq
    (after_desk e hands s ∙ (ap (λ a. cond (is_at (suc s) (emptied_by a)) [] (hands (suc s))) is ∙ ap (λ b. cond b [] (hands (suc s))) (eq-eqb (suc s) (suc s) refl)))

module _ (s : ℕ) (e : Slip) (v : View Slip) (w : Locks Slip) (fits : Fits v w) (held : (part v 0).holds ≡ true) (h : Handed lends out keeper w) (is : slip_act e ≡ Leave s)
    (mine : keeper (suc s) (w.told.lists 0) ≡ Some v.name) (shut : pool_of (w.told.lists (suc s)) ≡ Closed) where
  abbrev w' : Locks Slip
  w' = entered (hands_after slip_hand empties) 0 v.name e w

  mine_at : (k : ℕ) → w'.hands v.name k ≡ hands_after slip_hand empties 0 e (w.hands v.name) k
  mine_at k = ap (λ (f : ℕ → List ℕ). f k) (place_here w.hands v.name v.name (hands_after slip_hand empties 0 e (w.hands v.name)) refl)

  by : (P : ℕ → Type 0) → P v.name → ((i : ℕ) → i ≢ v.name → P i) → (i : ℕ) → P i
  by P here else i = dite (ℕ_discrete i v.name) (λ z. subst P (sym z) here) (λ ne. else i ne)

  other : (i k : ℕ) → i ≢ v.name → w'.hands i k ≡ w.hands i k
  other i k ne = others (hands_after slip_hand empties) 0 v.name e w i k ne

  hands_zero : (i : ℕ) → w'.hands i 0 ≡ w.hands i 0
  hands_zero i = by (λ i. w'.hands i 0 ≡ w.hands i 0)
      (mine_here slip_hand empties 0 v.name e w ∙ ap (λ a. hand_with a (w.hands v.name 0)) is)
      (λ i ne. other i 0 ne) i

  hands_else : (i c : ℕ) → c ≢ s → w'.hands i (suc c) ≡ w.hands i (suc c)
  hands_else i c far = by (λ i. w'.hands i (suc c) ≡ w.hands i (suc c))
      (mine_at (suc c) ∙ (after_desk e (w.hands v.name) c ∙ (ap (λ a. cond (is_at (suc c) (emptied_by a)) [] (w.hands v.name (suc c))) is ∙ ap (λ b. cond b [] (w.hands v.name (suc c))) (ne_eqb (suc s) (suc c) (λ z. far (omega arith))))))
      (λ i ne. other i (suc c) ne) i

  emptied : w'.hands v.name (suc s) ≡ []
  emptied = mine_at (suc s) ∙ emptied_at s (suc s) refl e is (w.hands v.name)

  -- a hand is as it was, or empty
  hands_at : (i k : ℕ) → (w'.hands i k ≡ w.hands i k) ⊎ (w'.hands i k ≡ [])
  hands_at i zero = inl (hands_zero i)
  hands_at i (suc c) = dite (ℕ_discrete c s)
      (λ z. by (λ i. (w'.hands i (suc c) ≡ w.hands i (suc c)) ⊎ (w'.hands i (suc c) ≡ [])) (inr (ap (λ (k : ℕ). w'.hands v.name (suc k)) z ∙ emptied)) (λ i ne. inl (other i (suc c) ne)) i)
      (λ far. inl (hands_else i c far))

  was : (i k n : ℕ) → hand_has n (w'.hands i k) ≡ true → hand_has n (w.hands i k) ≡ true
  was i k n q = ⊎_elim (λ same. ap (hand_has n) (sym same) ∙ q) (λ none. absurd (not_both (hand_has n (w'.hands i k)) q (ap (hand_has n) none))) (hands_at i k)

  still_not : (i k n : ℕ) → hand_has n (w.hands i k) ≡ false → hand_has n (w'.hands i k) ≡ false
  still_not i k n q = ⊎_elim (λ same. ap (hand_has n) same ∙ q) (λ none. ap (hand_has n) none) (hands_at i k)

  lists_same : (k : ℕ) → w'.told.lists (suc k) ≡ w.told.lists (suc k)
  lists_same k = lists_else (hands_after slip_hand empties) 0 v.name e w (suc k) (λ z. omega arith)

  swept_same : (i k : ℕ) → w'.swept i (suc k) ≡ w.swept i (suc k)
  swept_same i k = swept_else (hands_after slip_hand empties) 0 v.name e w i (suc k) (λ z. omega arith)

  lent : (i k n : ℕ) → hand_has n (w.hands i k) ≡ true → lends k (w'.told.lists k) n
  lent i zero n q = h.lent i 0 n q
  lent i (suc k) n q = subst (λ g. lends (suc k) g n) (sym (lists_same k)) (h.lent i (suc k) n q)

  lent_mark : (k n : ℕ) → is_marked n (w.marks k) ≡ true → lends k (w'.told.lists k) n
  lent_mark zero n q = h.lent_mark 0 n q
  lent_mark (suc k) n q = subst (λ g. lends (suc k) g n) (sym (lists_same k)) (h.lent_mark (suc k) n q)

  keeper_now : (c : ℕ) → keeper (suc c) (w'.told.lists 0) ≡ cond (s == c) None (keeper (suc c) (w.told.lists 0))
  keeper_now c = ap (kept_from c None) (lists_here (hands_after slip_hand empties) 0 v.name e w) ∙ (kept_snoc c None (w.told.lists 0) (v.name, e) ∙ ap (λ a. keeper_after c v.name a (kept_from c None (w.told.lists 0))) is)

  kept : (i k n : ℕ) → hand_has n (w'.hands i k) ≡ true → keeper k (w'.told.lists 0) ≡ Some i
  kept i zero n q = h.kept i 0 n (was i 0 n q)
  kept i (suc c) n q = dite (ℕ_discrete c s)
      (λ z.
      let q' : hand_has n (w'.hands i (suc s)) ≡ true = ap (λ (k : ℕ). hand_has n (w'.hands i (suc k))) (sym z) ∙ q in
      let me : v.name ≡ i = some_same v.name i (sym mine ∙ h.kept i (suc s) n (was i (suc s) n q')) in
      absurd (not_both (hand_has n (w'.hands i (suc s))) q' (ap (λ (j : ℕ). hand_has n (w'.hands j (suc s))) (sym me) ∙ ap (hand_has n) emptied)))
      (λ far. keeper_now c ∙ (ap (λ b. cond b None (keeper (suc c) (w.told.lists 0))) (ne_eqb s c (λ z. far (sym z))) ∙ h.kept i (suc c) n (was i (suc c) n q)))

  out_was : (k n : ℕ) → out (suc k) (w'.told.lists (suc k)) n → out (suc k) (w.told.lists (suc k)) n
  out_was k n o = subst (λ g. out (suc k) g n) (lists_same k) o

  found : (k n : ℕ) → out k (w'.told.lists k) n → ((i : ℕ) × (hand_has n (w'.hands i k) ≡ true)) ⊎ ((is_marked n (w.marks k) ≡ true) ⊎ ((i : ℕ) × (was_swept n (w'.swept i k) ≡ true)))
  found zero n o = absurd o
  found (suc c) n o = dite (ℕ_discrete c s)
      (λ z. absurd (subst (λ p. pool_out p n) (ap (λ (k : ℕ). pool_of (w.told.lists (suc k))) z ∙ shut) (out_was c n o)))
      (λ far. ⊎_elim
      (λ f. inl (f.0, ap (hand_has n) (hands_else f.0 c far) ∙ f.1))
      (λ g. inr (⊎_elim (λ m. inl m) (λ q. inr (q.0, ap (was_swept n) (swept_same q.0 c) ∙ q.1)) g))
      (h.found (suc c) n (out_was c n o)))

  once : (i k n : ℕ) → out k (w'.told.lists k) n → is_marked n (w.marks k) ≡ true → hand_has n (w'.hands i k) ≡ false
  once i zero n o m = absurd o
  once i (suc k) n o m = still_not i (suc k) n (h.once i (suc k) n (out_was k n o) m)

  gone : (i k n : ℕ) → out k (w'.told.lists k) n → was_swept n (w'.swept i k) ≡ true → (is_marked n (w.marks k) ≡ false) × ((j : ℕ) → hand_has n (w'.hands j k) ≡ false)
  gone i zero n o q = absurd o
  gone i (suc k) n o q = let g = h.gone i (suc k) n (out_was k n o) (ap (was_swept n) (sym (swept_same i k)) ∙ q) in (g.0, (λ j. still_not j (suc k) n (g.1 j)))

  pub seat_left : Handed lends out keeper w'
  seat_left = record {
    lent = λ i k n q. lent i k n (was i k n q);
    lent_mark = lent_mark;
    kept = kept;
    found = found;
    once = once;
    gone = gone;
    clear = λ i k n holds. let no : None ≡ Some i = holds in absurd cc;
  }

-- the desk is left with an entry that gives a seat back, whose pool the pass has closed
pub leave_leaves : (s : ℕ) (e : Slip) (v : View Slip) → (part v 0).holds ≡ true → slip_act e ≡ Leave s → ((c : ℕ) → opened_at (suc c) v.opened ≡ errand_at c (Leave s)) → is_seated s (part v 0).own ≡ true → OwesPut v 0 e
leave_leaves s e v held is addressed seated w fits f =
    let mine = keeper_mine s v w fits f.0 seated in
    let open_at : (c : ℕ) → opened_at (suc c) w.told.opened ≡ errand_at c (Leave s) = λ c. ap (opened_at (suc c)) (sym (fits.opened held).0) ∙ addressed c in
    let last : opened_at (suc s) w.told.opened ≡ closed ∷ [] = open_at s ∙ ap (λ b. cond b (closed ∷ []) []) (eq-eqb s s refl) in
    let shut : pool_of (w.told.lists (suc s)) ≡ Closed = shut_is (w.told.lists (suc s)) (errands s (w.told.lists 0)) (f.0.addressed s ∙ ap (λ ps. errands s (w.told.lists 0) ++ ps) last) in (
      leaves (hands_after slip_hand empties) v.name e w f.0 (λ c. open_at c ∙ sym (ap (errand_at c) is))
          (λ c. subst (λ a. IsFair c v.name a (kept_from c None (w.told.lists 0))) (sym is) (λ t. ap (λ k. kept_from k None (w.told.lists 0)) (sym (eqb-true s c t)) ∙ mine)),
      seat_left s e v w fits held f.1 is mine shut,
    )
