-- The point on hands, for an entry on the desk that empties no hand; and what a put owes on a pool
-- and on the desk.
use Rattle.std.proofs.Common.{◌≡◌, ℕ, zero, suc, ◌⊎◌, ◌==◌, ◌&&◌, true, false, cond, List, [], eq-eqb, ne_eqb, subst, sym, refl, ap, ◌∙◌, inl, inr, ⊎_elim, arith}
use Rattle.std.specs.Prelude.{Some, None}
use mathlib.Core.Logic.{dite}
use native.Mathlib.Decide.{ℕ_discrete}
use Rattle.kd_hands.specs.declared.views.View.{View}
use Rattle.kd_hands.specs.Views.{part}
use Rattle.kd_hands.specs.Lists.{hand_has, is_marked, was_swept, is_at}
use Rattle.kd_hands.specs.Locks.{Locks, Handed, Fact, entered, hands_after}
use Rattle.kd_hands.specs.Fits.{Fits, Owes}
use Rattle.kd_hands.proofs.Places.{place_here, is_at_some, is_at_not, some_if_at}
use Rattle.kd_hands.specs.Settles.{Settles}
use Rattle.kd_hands.proofs.Hands.{settled}
use Rattle.kd_hands.proofs.Entries.{lists_here, lists_else, mine_here, others, swept_else}
use Rattle.kd_toy_bus.specs.declared.act.Slip.{Slip}
use Rattle.kd_toy_bus.specs.Bus.{slip_act, keeper_after, kept_from, IsFair, is_seated, errand_at, made_by_one, opened_at, lends, out, keeper, hand_with, slip_hand, emptied_by, empties, Tie}
use Rattle.kd_toy_bus.proofs.Laws.{kept_snoc, seated_is}
use Rattle.kd_toy_bus.proofs.Ties.{visits, between, leaves}

module _ (e : Slip) (v : View Slip) (w : Locks Slip) (fits : Fits v w) (held : (part v 0).holds ≡ true) (h : Handed lends out keeper w) (same : (hand : List ℕ) → hand_with (slip_act e) hand ≡ hand) (bare : emptied_by (slip_act e) ≡ None) where
  abbrev w' : Locks Slip
  w' = entered (hands_after slip_hand empties) 0 v.name e w

  hands_same : (i k : ℕ) → w'.hands i k ≡ w.hands i k
  hands_same i k = dite (ℕ_discrete i v.name)
      (λ z. ap (λ (j : ℕ). w'.hands j k) z ∙ (mine k ∙ ap (λ (j : ℕ). w.hands j k) (sym z)))
      (λ ne. others (hands_after slip_hand empties) 0 v.name e w i k ne)
    where
      mine : (k : ℕ) → w'.hands v.name k ≡ w.hands v.name k
      mine zero = mine_here slip_hand empties 0 v.name e w ∙ same (w.hands v.name 0)
      mine (suc k) = ap (λ (f : ℕ → List ℕ). f (suc k)) (place_here w.hands v.name v.name (hands_after slip_hand empties 0 e (w.hands v.name)) refl) ∙ (ap (λ b. cond b (slip_hand 0 e (w.hands v.name 0)) (cond ((0 == 0) && is_at (suc k) (empties e)) [] (w.hands v.name (suc k)))) (ne_eqb (suc k) 0 (λ z. omega arith)) ∙ (ap (λ b. cond (b && is_at (suc k) (empties e)) [] (w.hands v.name (suc k))) (eq-eqb 0 0 refl) ∙ ap (λ o. cond (is_at (suc k) o) [] (w.hands v.name (suc k))) bare))

  -- the keepers of all seats stay
  pub desk_keeps : ((c i : ℕ) → kept_from c None (w.told.lists 0) ≡ Some i → keeper_after c v.name (slip_act e) (kept_from c None (w.told.lists 0)) ≡ Some i) → Handed lends out keeper w'
  desk_keeps keep = record {
    lent = λ i k n q. lent i k n (ap (hand_has n) (sym (hands_same i k)) ∙ q);
    lent_mark = lent_mark;
    kept = λ i k n q. kept k i (h.kept i k n (ap (hand_has n) (sym (hands_same i k)) ∙ q));
    found = found;
    once = λ i k n o m. ap (hand_has n) (hands_same i k) ∙ once i k n o m;
    gone = gone;
    clear = λ i k n is. let no : None ≡ Some i = is in absurd cc;
  }
    where
      lists_same : (k : ℕ) → w'.told.lists (suc k) ≡ w.told.lists (suc k)
      lists_same k = lists_else (hands_after slip_hand empties) 0 v.name e w (suc k) (λ z. omega arith)

      swept_same : (i k : ℕ) → w'.swept i (suc k) ≡ w.swept i (suc k)
      swept_same i k = swept_else (hands_after slip_hand empties) 0 v.name e w i (suc k) (λ z. omega arith)

      lent : (i k n : ℕ) → hand_has n (w.hands i k) ≡ true → lends k (w'.told.lists k) n
      lent i zero n q = h.lent i 0 n q
      lent i (suc k) n q = subst (λ g. lends (suc k) g n) (sym (lists_same k)) (h.lent i (suc k) n q)

      lent_mark : (k n : ℕ) → is_marked n (w.marks k) ≡ true → lends k (w'.told.lists k) n
      lent_mark zero n q = h.lent_mark 0 n q
      lent_mark (suc k) n q = subst (λ g. lends (suc k) g n) (sym (lists_same k)) (h.lent_mark (suc k) n q)

      kept : (k i : ℕ) → keeper k (w.told.lists 0) ≡ Some i → keeper k (w'.told.lists 0) ≡ Some i
      kept zero i q = q
      kept (suc c) i q = ap (kept_from c None) (lists_here (hands_after slip_hand empties) 0 v.name e w) ∙ (kept_snoc c None (w.told.lists 0) (v.name, e) ∙ keep c i q)

      found : (k n : ℕ) → out k (w'.told.lists k) n → ((i : ℕ) × (hand_has n (w'.hands i k) ≡ true)) ⊎ ((is_marked n (w.marks k) ≡ true) ⊎ ((i : ℕ) × (was_swept n (w'.swept i k) ≡ true)))
      found zero n o = absurd o
      found (suc k) n o = ⊎_elim
          (λ f. inl (f.0, ap (hand_has n) (hands_same f.0 (suc k)) ∙ f.1))
          (λ g. inr (⊎_elim (λ m. inl m) (λ q. inr (q.0, ap (was_swept n) (swept_same q.0 k) ∙ q.1)) g))
          (h.found (suc k) n (subst (λ g. out (suc k) g n) (lists_same k) o))

      once : (i k n : ℕ) → out k (w'.told.lists k) n → is_marked n (w.marks k) ≡ true → hand_has n (w.hands i k) ≡ false
      once i zero n o m = absurd o
      once i (suc k) n o m = h.once i (suc k) n (subst (λ g. out (suc k) g n) (lists_same k) o) m

      gone : (i k n : ℕ) → out k (w'.told.lists k) n → was_swept n (w'.swept i k) ≡ true → (is_marked n (w.marks k) ≡ false) × ((j : ℕ) → hand_has n (w'.hands j k) ≡ false)
      gone i zero n o q = absurd o
      gone i (suc k) n o q = let g = h.gone i (suc k) n (subst (λ g. out (suc k) g n) (lists_same k) o) (ap (was_swept n) (sym (swept_same i k)) ∙ q) in (g.0, (λ j. ap (hand_has n) (hands_same j (suc k)) ∙ g.1 j))

abbrev pub OwesPut : View Slip → ℕ → Slip → Type 0
OwesPut v l e = Owes (Fact Tie lends out keeper) (hands_after slip_hand empties) v l e

-- a pass has the seat, in each world in keeping with what it knows
pub keeper_mine : (s : ℕ) (v : View Slip) (w : Locks Slip) → Fits v w → Tie w.told → is_seated s (part v 0).own ≡ true → keeper (suc s) (w.told.lists 0) ≡ Some v.name
keeper_mine s v w fits tie mine = some_if_at v.name (kept_from s None (w.told.lists 0)) (seated_is s v.name None (w.told.lists 0) (tie.fair s) ∙ (ap (is_seated s) (fits.mine 0) ∙ mine))

-- an entry on a pool by a pass that holds the desk, and by one that doesn't
pub owes_visit : (s : ℕ) (e : Slip) (v : View Slip) → (part v 0).holds ≡ true → (part v (suc s)).holds ≡ true → ((w : Locks Slip) → Fits v w → Handed lends out keeper w → Settles lends out keeper slip_hand (suc s) e v.name w) → OwesPut v (suc s) e
owes_visit s e v desk held settles w fits f = (
  visits (hands_after slip_hand empties) v.name e w f.0 s (is_at_some v.name w.holder (fits.opened desk).1),
  settled lends out keeper slip_hand empties (suc s) e v.name w f.1 (fits.sole (suc s) held) (λ z. omega arith) (settles w fits f.1),
)

pub owes_alone : (s : ℕ) (e : Slip) (v : View Slip) → (part v 0).holds ≡ false → (part v (suc s)).holds ≡ true → made_by_one (slip_act e) ≡ [] → ((w : Locks Slip) → Fits v w → Tie w.told → Handed lends out keeper w → Settles lends out keeper slip_hand (suc s) e v.name w) → OwesPut v (suc s) e
owes_alone s e v desk held none settles w fits f = (
  between (hands_after slip_hand empties) v.name e w f.0 s (is_at_not v.name w.holder (fits.closed desk)) none,
  settled lends out keeper slip_hand empties (suc s) e v.name w f.1 (fits.sole (suc s) held) (λ z. omega arith) (settles w fits f.0 f.1),
)

-- the desk is left with an entry that addresses what was visited, and takes no seat away
pub owes_leave : (e : Slip) (v : View Slip) → (part v 0).holds ≡ true → ((hand : List ℕ) → hand_with (slip_act e) hand ≡ hand) → emptied_by (slip_act e) ≡ None → ((c : ℕ) → opened_at (suc c) v.opened ≡ errand_at c (slip_act e))
    → ((w : Locks Slip) → Fits v w → (c : ℕ) → IsFair c v.name (slip_act e) (kept_from c None (w.told.lists 0)))
    → ((w : Locks Slip) → Fits v w → (c i : ℕ) → kept_from c None (w.told.lists 0) ≡ Some i → keeper_after c v.name (slip_act e) (kept_from c None (w.told.lists 0)) ≡ Some i) → OwesPut v 0 e
owes_leave e v held same bare addressed fair keep w fits f = (
  leaves (hands_after slip_hand empties) v.name e w f.0 (λ c. ap (opened_at (suc c)) (sym (fits.opened held).0) ∙ addressed c) (fair w fits),
  desk_keeps e v w fits held f.1 same bare (keep w fits),
)
