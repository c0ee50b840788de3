-- The point on hands, for an entry on a pool.
use Rattle.std.specs.Prelude.{◌≡◌, ◌≢◌, ◌⊎◌, ℕ, suc, ◌==◌, ◌&&◌, ◌||◌, Bool, true, false, not, List, [], ◌∷◌, ◌++◌, Some, refl}
use Rattle.std.proofs.Common.{sym, ap, ◌∙◌, eqb-true, inl, inr, ⊎_elim}
use Rattle.std.proofs.lemmas.Bool.{false≢true, true≢false}
use mathlib.Core.Logic.{dite}
use native.Mathlib.Decide.{ℕ_discrete}
use Rattle.kd_model.proofs.Truth.{not_true}
use Rattle.kd_acts.specs.State.{Hold}
use Rattle.kd_acts.specs.Lasting.{is_open, is_handed_in}
use Rattle.kd_hands.specs.declared.views.View.{View}
use Rattle.kd_hands.specs.Views.{part}
use Rattle.kd_hands.specs.Lists.{hand_has, is_marked, was_swept}
use Rattle.kd_hands.specs.Locks.{Locks, Handed}
use Rattle.kd_hands.specs.Fits.{Fits}
use Rattle.kd_hands.specs.Settles.{Settles}
use Rattle.kd_hands.proofs.Places.{not_both}
use Rattle.kd_histories.specs.Turns.{Turn}
use Rattle.kd_histories.specs.Seats.{keeper}
use Rattle.kd_histories.specs.Pools.{hold_after, hold_of}
use Rattle.kd_histories.specs.Lent.{IsLent, lends, out, hand_by, hand_after}
use Rattle.kd_histories.proofs.Snocs.{hold_snoc}
use Rattle.kd_histories.proofs.Holds.{closed_none}

module _ (s : ℕ) (e : Turn) (v : View Turn) (w : Locks Turn) (fits : Fits v w) (held : (part v (suc s)).holds ≡ true) (h : Handed lends out keeper w) where
  abbrev l : ℕ
  l = suc s

  abbrev pub H : Hold
  H = hold_of (w.told.lists l)

  abbrev pub H' : Hold
  H' = hold_of (w.told.lists l ++ (v.name, e) ∷ [])

  pub next_is : H' ≡ hold_after e H
  next_is = hold_snoc _ (w.told.lists l) (v.name, e)

  -- the entry leaves the hand as it is
  pub same_hand : ((hand : List ℕ) → hand_by e hand ≡ hand)
      → ((i n : ℕ) → hand_has n (w.hands i l) ≡ true → IsLent H' n)
      → ((n : ℕ) → is_marked n (w.marks l) ≡ true → IsLent H' n)
      → ((n : ℕ) → is_handed_in n H' ≡ true → ((i : ℕ) × (hand_has n (w.hands i l) ≡ true)) ⊎ (is_marked n (w.marks l) ≡ true))
      → ((i n : ℕ) → is_handed_in n H' ≡ true → is_marked n (w.marks l) ≡ true → hand_has n (w.hands i l) ≡ false)
      → Settles lends out keeper hand_after l e v.name w
  unfolding lends out
  same_hand same in_hand in_marks found once =
      let back : (n : ℕ) → hand_has n (hand_by e (w.hands v.name l)) ≡ true → hand_has n (w.hands v.name l) ≡ true = λ n q. ap (hand_has n) (sym (same (w.hands v.name l))) ∙ q in
      record {
        lent = λ n q. in_hand v.name n (back n q);
        lent_others = λ i n ne q. in_hand i n q;
        lent_mark = in_marks;
        kept = λ n q. h.kept v.name l n (back n q);
        found = λ n o. ⊎_elim
            (λ f. dite (ℕ_discrete f.0 v.name)
            (λ z. inl (ap (hand_has n) (same (w.hands v.name l)) ∙ (ap (λ (i : ℕ). hand_has n (w.hands i l)) (sym z) ∙ f.1)))
            (λ ne. inr (inl (f.0, ne, f.1))))
            (λ m. inr (inr m)) (found n o);
        once = λ n o m. (ap (hand_has n) (same (w.hands v.name l)) ∙ once v.name n o m, (λ i ne. once i n o m));
      }

  -- only this pass has swept
  pub swept_mine : (i n : ℕ) → was_swept n (w.swept i l) ≡ true → was_swept n (part v l).swept ≡ true
  swept_mine i n q = dite (ℕ_discrete i v.name)
      (λ z. ap (was_swept n) (fits.swept l ∙ ap (λ (j : ℕ). w.swept j l) (sym z)) ∙ q)
      (λ ne. absurd (not_both (was_swept n (w.swept i l)) q (ap (was_swept n) (fits.sole l held i ne))))

  -- what was swept goes, and nothing else changes
  pub quiet : ((hand : List ℕ) → hand_by e hand ≡ hand) → is_open H' ≡ is_open H
      → ((n : ℕ) → is_handed_in n H' ≡ (not (was_swept n (part v l).swept) && is_handed_in n H)) → Settles lends out keeper hand_after l e v.name w
  unfolding lends out
  quiet same opens handed = same_hand same in_hand in_marks found once
    where
      swept : ℕ → Bool
      swept n = was_swept n (part v l).swept

      gone : (n : ℕ) → is_handed_in n H ≡ true → swept n ≡ true → (is_marked n (w.marks l) ≡ false) × ((j : ℕ) → hand_has n (w.hands j l) ≡ false)
      gone n o q = h.gone v.name l n o (ap (was_swept n) (sym (fits.swept l)) ∙ q)

      still : (n : ℕ) → is_handed_in n H ≡ true → swept n ≡ false → is_handed_in n H' ≡ true
      still n o q = handed n ∙ (ap (λ b. not b && is_handed_in n H) q ∙ o)

      was : (n : ℕ) → is_handed_in n H' ≡ true → (is_handed_in n H ≡ true) × (swept n ≡ false)
      was n o = go (swept n) (is_handed_in n H) refl refl (sym (handed n) ∙ o)
        where
          go : (a b : Bool) → swept n ≡ a → is_handed_in n H ≡ b → (not a && b) ≡ true → (is_handed_in n H ≡ true) × (swept n ≡ false)
          go false true x y z = (y, x)
          go false false x y z = absurd (false≢true z)
          go true b x y z = absurd (false≢true z)

      in_hand : (i n : ℕ) → hand_has n (w.hands i l) ≡ true → IsLent H' n
      in_hand i n q up =
          let o = h.lent i l n q (sym opens ∙ up) in
          still n o (not_true (swept n) (λ t. not_both (hand_has n (w.hands i l)) q ((gone n o t).1 i)))

      in_marks : (n : ℕ) → is_marked n (w.marks l) ≡ true → IsLent H' n
      in_marks n m up =
          let o = h.lent_mark l n m (sym opens ∙ up) in
          still n o (not_true (swept n) (λ t. not_both (is_marked n (w.marks l)) m (gone n o t).0))

      found : (n : ℕ) → is_handed_in n H' ≡ true → ((i : ℕ) × (hand_has n (w.hands i l) ≡ true)) ⊎ (is_marked n (w.marks l) ≡ true)
      found n o = let x = was n o in ⊎_elim (λ f. inl f) (λ g. ⊎_elim (λ m. inr m) (λ q. absurd (not_both (swept n) (swept_mine q.0 n q.1) x.1)) g) (h.found l n x.0)

      once : (i n : ℕ) → is_handed_in n H' ≡ true → is_marked n (w.marks l) ≡ true → hand_has n (w.hands i l) ≡ false
      once i n o m = h.once i l n (was n o).0 m

  -- the pool is closed: it lends every number, and has none out
  pub closes : ((hand : List ℕ) → hand_by e hand ≡ hand) → is_open H' ≡ false → Settles lends out keeper hand_after l e v.name w
  closes same shut = same_hand same
      (λ i n q up. absurd (true≢false (sym up ∙ shut)))
      (λ n m up. absurd (true≢false (sym up ∙ shut)))
      (λ n o. absurd (true≢false (sym o ∙ closed_none H' n shut)))
      (λ i n o m. absurd (true≢false (sym o ∙ closed_none H' n shut)))

  -- the pool comes to a state that has nothing handed, where nothing was in a hand or marked
  pub comes_free : ((hand : List ℕ) → hand_by e hand ≡ hand) → ((n : ℕ) → is_handed_in n H' ≡ false) → ((i n : ℕ) → hand_has n (w.hands i l) ≡ true → ⊥)
      → ((n : ℕ) → is_marked n (w.marks l) ≡ true → ⊥) → Settles lends out keeper hand_after l e v.name w
  comes_free same none no_hand no_mark = same_hand same
      (λ i n q up. absurd (no_hand i n q))
      (λ n m up. absurd (no_mark n m))
      (λ n o. absurd (true≢false (sym o ∙ none n)))
      (λ i n o m. absurd (no_mark n m))

  -- a receive takes one more into the hand
  pub takes : (m : ℕ) → ((hand : List ℕ) → hand_by e hand ≡ m ∷ hand) → (part v l).swept ≡ [] → is_open H' ≡ is_open H → is_handed_in m H ≡ false → is_open H ≡ true
      → ((n : ℕ) → is_handed_in n H' ≡ ((m == n) || is_handed_in n H)) → keeper l (w.told.lists 0) ≡ Some v.name → Settles lends out keeper hand_after l e v.name w
  unfolding lends out
  takes m now bare opens new up handed mine = record {
    lent = λ n q up'. ⊎_elim (λ z. now_handed n z) (λ q. handed n ∙ (ap (λ b. (m == n) || b) (h.lent v.name l n q (sym opens ∙ up')) ∙ or_true (m == n))) (in_new n q);
    lent_others = λ i n ne q up'. handed n ∙ (ap (λ b. (m == n) || b) (h.lent i l n q (sym opens ∙ up')) ∙ or_true (m == n));
    lent_mark = λ n k up'. handed n ∙ (ap (λ b. (m == n) || b) (h.lent_mark l n k (sym opens ∙ up')) ∙ or_true (m == n));
    kept = λ n q. mine;
    found = λ n o. go n (m == n) refl (sym (handed n) ∙ o);
    once = λ n o k. (unmarked n o k v.name, (λ i ne. unmarked_other n o k i));
  }
    where
      or_true : (b : Bool) → (b || true) ≡ true
      or_true true = refl
      or_true false = refl

      in_new : (n : ℕ) → hand_has n (hand_by e (w.hands v.name l)) ≡ true → ((m == n) ≡ true) ⊎ (hand_has n (w.hands v.name l) ≡ true)
      in_new n q = split (m == n) (hand_has n (w.hands v.name l)) (ap (hand_has n) (sym (now (w.hands v.name l))) ∙ q)
        where
          split : (a b : Bool) → (a || b) ≡ true → (a ≡ true) ⊎ (b ≡ true)
          split true b z = inl refl
          split false b z = inr z

      now_handed : (n : ℕ) → (m == n) ≡ true → is_handed_in n H' ≡ true
      now_handed n z = handed n ∙ ap (λ b. b || is_handed_in n H) z

      has_now : (n : ℕ) → (m == n) ≡ true → hand_has n (hand_by e (w.hands v.name l)) ≡ true
      has_now n z = ap (hand_has n) (now (w.hands v.name l)) ∙ ap (λ b. b || hand_has n (w.hands v.name l)) z

      has_still : (n : ℕ) → hand_has n (w.hands v.name l) ≡ true → hand_has n (hand_by e (w.hands v.name l)) ≡ true
      has_still n q = ap (hand_has n) (now (w.hands v.name l)) ∙ (ap (λ b. (m == n) || b) q ∙ or_true (m == n))

      none_swept : (i n : ℕ) → was_swept n (w.swept i l) ≡ true → ⊥
      none_swept i n q = not_both (was_swept n (part v l).swept) (swept_mine i n q) (ap (was_swept n) bare)

      go : (n : ℕ) (b : Bool) → (m == n) ≡ b → (b || is_handed_in n H) ≡ true → (hand_has n (hand_by e (w.hands v.name l)) ≡ true) ⊎ (((i : ℕ) × (i ≢ v.name) × (hand_has n (w.hands i l) ≡ true)) ⊎ (is_marked n (w.marks l) ≡ true))
      go n true z o = inl (has_now n z)
      go n false z o = ⊎_elim (λ f. dite (ℕ_discrete f.0 v.name) (λ y. inl (has_still n (ap (λ (i : ℕ). hand_has n (w.hands i l)) (sym y) ∙ f.1))) (λ ne. inr (inl (f.0, ne, f.1))))
          (λ g. ⊎_elim (λ k. inr (inr k)) (λ q. absurd (none_swept q.0 n q.1)) g) (h.found l n o)

      -- what is new wasn't marked
      fresh : (n : ℕ) → is_marked n (w.marks l) ≡ true → (m == n) ≡ false
      fresh n k = not_true (m == n) (λ z. not_both (is_handed_in m H) (ap (λ (i : ℕ). is_handed_in i H) (eqb-true m n z) ∙ h.lent_mark l n k up) new)

      before : (n : ℕ) → is_handed_in n H' ≡ true → is_marked n (w.marks l) ≡ true → is_handed_in n H ≡ true
      before n o k = ap (λ b. b || is_handed_in n H) (sym (fresh n k)) ∙ (sym (handed n) ∙ o)

      unmarked_other : (n : ℕ) → is_handed_in n H' ≡ true → is_marked n (w.marks l) ≡ true → (i : ℕ) → hand_has n (w.hands i l) ≡ false
      unmarked_other n o k i = h.once i l n (before n o k) k

      unmarked : (n : ℕ) → is_handed_in n H' ≡ true → is_marked n (w.marks l) ≡ true → (i : ℕ) → hand_has n (hand_by e (w.hands v.name l)) ≡ false
      unmarked n o k i = ap (hand_has n) (now (w.hands v.name l)) ∙ (ap (λ b. b || hand_has n (w.hands v.name l)) (fresh n k) ∙ unmarked_other n o k v.name)
