-- The point on hands, for each entry on a pool.
use Rattle.std.proofs.Common.{◌≡◌, ℕ, suc, ◌⊎◌, ◌||◌, Bool, true, false, cond, List, [], ◌∷◌, ◌++◌, eq-eqb, ne_eqb, subst, sym, refl, ap, ◌∙◌, inl, inr, ⊎_elim}
use Rattle.std.specs.Prelude.{Some}
use mathlib.Core.Logic.{dite}
use native.Mathlib.Decide.{ℕ_discrete}
use Rattle.kd_hands.specs.declared.views.View.{View}
use Rattle.kd_hands.specs.Views.{part}
use Rattle.kd_hands.specs.Lists.{hand_has, is_marked, was_swept}
use Rattle.kd_hands.specs.Locks.{Locks, Handed}
use Rattle.kd_hands.specs.Fits.{Fits}
use Rattle.kd_hands.proofs.Places.{not_both}
use Rattle.kd_hands.specs.Settles.{Settles}
use Rattle.kd_toy_bus.specs.declared.act.Slip.{Slip}
use Rattle.kd_toy_bus.specs.declared.act.Act.TheVariants.{Close, Offer, Receive}
use Rattle.kd_toy_bus.specs.declared.locked.Pool.{Pool}
use Rattle.kd_toy_bus.specs.declared.locked.Pool.TheVariants.{Closed, Free, Placed, Handed as IsOut}
use Rattle.kd_toy_bus.specs.Bus.{slip_act, offered, received, pool_after, pool_of, pool_lends, pool_out, lends, out, keeper, hand_with, slip_hand}
use Rattle.kd_toy_bus.proofs.Laws.{pool_snoc}

-- what the rule says of the pool of the seat s, whose lock the pass holds
module _ (s : ℕ) (e : Slip) (v : View Slip) (w : Locks Slip) (fits : Fits v w) (held : (part v (suc s)).holds ≡ true) (h : Handed lends out keeper w) where
  abbrev p : Pool
  p = pool_of (w.told.lists (suc s))

  abbrev p' : Pool
  p' = pool_of (w.told.lists (suc s) ++ (v.name, e) ∷ [])

  pub next_is : p' ≡ pool_after (slip_act e) p
  next_is = pool_snoc Closed (w.told.lists (suc s)) (v.name, e)

  -- the entry leaves the hand as it is
  pub same_hand : ((hand : List ℕ) → hand_with (slip_act e) hand ≡ hand)
      → ((i n : ℕ) → hand_has n (w.hands i (suc s)) ≡ true → pool_lends p' n)
      → ((n : ℕ) → is_marked n (w.marks (suc s)) ≡ true → pool_lends p' n)
      → ((n : ℕ) → pool_out p' n → ((i : ℕ) × (hand_has n (w.hands i (suc s)) ≡ true)) ⊎ (is_marked n (w.marks (suc s)) ≡ true))
      → ((i n : ℕ) → pool_out p' n → is_marked n (w.marks (suc s)) ≡ true → hand_has n (w.hands i (suc s)) ≡ false)
      → Settles lends out keeper slip_hand (suc s) e v.name w
  same_hand same in_hand in_marks found once =
      let back : (n : ℕ) → hand_has n (hand_with (slip_act e) (w.hands v.name (suc s))) ≡ true → hand_has n (w.hands v.name (suc s)) ≡ true = λ n q. ap (hand_has n) (sym (same (w.hands v.name (suc s)))) ∙ q in
      record {
        lent = λ n q. in_hand v.name n (back n q);
        lent_others = λ i n ne q. in_hand i n q;
        lent_mark = in_marks;
        kept = λ n q. h.kept v.name (suc s) n (back n q);
        found = λ n o. ⊎_elim
            (λ f. dite (ℕ_discrete f.0 v.name)
            (λ z. inl (ap (hand_has n) (same (w.hands v.name (suc s))) ∙ (ap (λ (i : ℕ). hand_has n (w.hands i (suc s))) (sym z) ∙ f.1)))
            (λ ne. inr (inl (f.0, ne, f.1))))
            (λ m. inr (inr m)) (found n o);
        once = λ n o m. (ap (hand_has n) (same (w.hands v.name (suc s))) ∙ once v.name n o m, (λ i ne. once i n o m));
      }

  -- where the pass swept nothing, nobody did
  pub none_swept : (part v (suc s)).swept ≡ [] → (i n : ℕ) → was_swept n (w.swept i (suc s)) ≡ true → ⊥
  none_swept bare i n q = dite (ℕ_discrete i v.name)
      (λ z. not_both (was_swept n (w.swept i (suc s))) q (ap (was_swept n) (ap (λ (j : ℕ). w.swept j (suc s)) z ∙ (sym (fits.swept (suc s)) ∙ bare))))
      (λ ne. not_both (was_swept n (w.swept i (suc s))) q (ap (was_swept n) (fits.sole (suc s) held i ne)))

  -- the pool stays as it is
  pub stays : ((hand : List ℕ) → hand_with (slip_act e) hand ≡ hand) → p' ≡ p → ((i n : ℕ) → pool_out p n → was_swept n (w.swept i (suc s)) ≡ true → ⊥) → Settles lends out keeper slip_hand (suc s) e v.name w
  stays same is unswept = same_hand same
      (λ i n q. subst (λ x. pool_lends x n) (sym is) (h.lent i (suc s) n q))
      (λ n m. subst (λ x. pool_lends x n) (sym is) (h.lent_mark (suc s) n m))
      (λ n o. let o' = subst (λ x. pool_out x n) is o in ⊎_elim (λ f. inl f) (λ g. ⊎_elim (λ m. inr m) (λ q. absurd (unswept q.0 n o' q.1)) g) (h.found (suc s) n o'))
      (λ i n o m. h.once i (suc s) n (subst (λ x. pool_out x n) is o) m)

  -- the pool comes to a state that lends nothing, where nothing was in a hand or marked
  pub comes_free : ((hand : List ℕ) → hand_with (slip_act e) hand ≡ hand) → ((n : ℕ) → pool_out p' n → ⊥) → ((i n : ℕ) → hand_has n (w.hands i (suc s)) ≡ true → ⊥) → ((n : ℕ) → is_marked n (w.marks (suc s)) ≡ true → ⊥) → Settles lends out keeper slip_hand (suc s) e v.name w
  comes_free same none_out no_hand no_mark = same_hand same (λ i n q. absurd (no_hand i n q)) (λ n m. absurd (no_mark n m)) (λ n o. absurd (none_out n o)) (λ i n o _. absurd (none_out n o))

  -- the pool is closed: it lends every number, and has none out
  pub closes : slip_act e ≡ Close → Settles lends out keeper slip_hand (suc s) e v.name w
  closes is =
      let now : p' ≡ Closed = next_is ∙ ap (λ a. pool_after a p) is in
      same_hand (λ hand. ap (λ a. hand_with a hand) is)
      (λ i n q. subst (λ x. pool_lends x n) (sym now) tt)
      (λ n m. subst (λ x. pool_lends x n) (sym now) tt)
      (λ n o. absurd (subst (λ x. pool_out x n) now o))
      (λ i n o m. absurd (subst (λ x. pool_out x n) now o))

  -- a receive takes the slice into the hand
  pub receives : slip_act e ≡ Receive → p ≡ Placed → keeper (suc s) (w.told.lists 0) ≡ Some v.name → Settles lends out keeper slip_hand (suc s) e v.name w
  receives is was mine =
      let now : p' ≡ IsOut = next_is ∙ (ap (λ a. pool_after a p) is ∙ ap received was) in
      let hand_is : hand_with (slip_act e) (w.hands v.name (suc s)) ≡ 200 ∷ w.hands v.name (suc s) = ap (λ a. hand_with a (w.hands v.name (suc s))) is in
      let no_hand : (i n : ℕ) → hand_has n (w.hands i (suc s)) ≡ true → ⊥ = λ i n q. subst (λ x. pool_lends x n) was (h.lent i (suc s) n q) in
      let no_mark : (n : ℕ) → is_marked n (w.marks (suc s)) ≡ true → ⊥ = λ n m. subst (λ x. pool_lends x n) was (h.lent_mark (suc s) n m) in
      record {
        lent = λ n q. subst (λ x. pool_lends x n) (sym now) (it n (w.hands v.name (suc s)) (no_hand v.name n) (ap (hand_has n) (sym hand_is) ∙ q));
        lent_others = λ i n _ q. absurd (no_hand i n q);
        lent_mark = λ n m. absurd (no_mark n m);
        kept = λ n _. mine;
        found = λ n o. inl (ap (hand_has n) hand_is ∙ has_it n (w.hands v.name (suc s)) (subst (λ x. pool_out x n) now o));
        once = λ n o m. absurd (no_mark n m);
      }
    where
      it : (n : ℕ) (hand : List ℕ) → (hand_has n hand ≡ true → ⊥) → hand_has n (200 ∷ hand) ≡ true → n ≡ 200
      it n hand none q = dite (ℕ_discrete n 200) (λ z. z) (λ ne. absurd (none (ap (λ b. b || hand_has n hand) (sym (ne_eqb 200 n (λ z. ne (sym z)))) ∙ q)))

      has_it : (n : ℕ) (hand : List ℕ) → n ≡ 200 → hand_has n (200 ∷ hand) ≡ true
      has_it n hand z = ap (λ b. b || hand_has n hand) (eq-eqb 200 n (sym z))

-- what an offer does to the pool, whose sweep told of the slice
pub offers : (s : ℕ) (e : Slip) (swept : Bool) (v : View Slip) (w : Locks Slip) (fits : Fits v w) (held : (part v (suc s)).holds ≡ true) (h : Handed lends out keeper w) → slip_act e ≡ Offer swept → was_swept 200 (part v (suc s)).swept ≡ swept → Settles lends out keeper slip_hand (suc s) e v.name w
offers s e swept v w fits held h is told = cases (pool_of (w.told.lists (suc s))) refl swept refl
  where
    same : (hand : List ℕ) → hand_with (slip_act e) hand ≡ hand
    same hand = ap (λ a. hand_with a hand) is

    now : (q : Pool) → pool_of (w.told.lists (suc s)) ≡ q → pool_of (w.told.lists (suc s) ++ (v.name, e) ∷ []) ≡ offered swept q
    now q at = next_is s e v w fits held h ∙ (ap (λ a. pool_after a (pool_of (w.told.lists (suc s)))) is ∙ ap (offered swept) at)

    mine : (i : ℕ) → was_swept 200 (w.swept i (suc s)) ≡ true → swept ≡ true
    mine i q = dite (ℕ_discrete i v.name)
        (λ z. sym told ∙ (ap (was_swept 200) (fits.swept (suc s) ∙ ap (λ (j : ℕ). w.swept j (suc s)) (sym z)) ∙ q))
        (λ ne. absurd (not_both (was_swept 200 (w.swept i (suc s))) q (ap (was_swept 200) (fits.sole (suc s) held i ne))))

    none : (q : Pool) → ((n : ℕ) → pool_lends q n → ⊥) → pool_of (w.told.lists (suc s)) ≡ q → ((n : ℕ) → pool_out (offered swept q) n → ⊥) → Settles lends out keeper slip_hand (suc s) e v.name w
    none q bare at ends = comes_free s e v w fits held h same (λ n o. ends n (subst (λ x. pool_out x n) (now q at) o))
        (λ i n t. bare n (subst (λ x. pool_lends x n) at (h.lent i (suc s) n t)))
        (λ n t. bare n (subst (λ x. pool_lends x n) at (h.lent_mark (suc s) n t)))

    cases : (q : Pool) → pool_of (w.told.lists (suc s)) ≡ q → (b : Bool) → swept ≡ b → Settles lends out keeper slip_hand (suc s) e v.name w
    cases Closed at b eq = stays s e v w fits held h same (now Closed at ∙ sym at) (λ i n o _. subst (λ x. pool_out x n) at o)
    cases Free at b eq = none Free (λ n z. z) at (λ n o. o)
    cases Placed at b eq = none Placed (λ n z. z) at (λ n o. o)
    cases IsOut at false eq = stays s e v w fits held h same (now IsOut at ∙ (ap (λ t. cond t Placed IsOut) eq ∙ sym at))
        (λ i n o q. let n_is : n ≡ 200 = subst (λ x. pool_out x n) at o in not_both swept (mine i (ap (λ (k : ℕ). was_swept k (w.swept i (suc s))) (sym n_is) ∙ q)) eq)
    cases IsOut at true eq =
        let out_now : out (suc s) (w.told.lists (suc s)) 200 = subst (λ x. pool_out x 200) (sym at) refl in
        let gone = h.gone v.name (suc s) 200 out_now (ap (was_swept 200) (sym (fits.swept (suc s))) ∙ (told ∙ eq)) in
        comes_free s e v w fits held h same
        (λ n o. subst (λ x. pool_out x n) (now IsOut at ∙ ap (λ t. cond t Placed IsOut) eq) o)
        (λ i n t. let n_is : n ≡ 200 = subst (λ x. pool_lends x n) at (h.lent i (suc s) n t) in not_both (hand_has n (w.hands i (suc s))) t (ap (λ (k : ℕ). hand_has k (w.hands i (suc s))) n_is ∙ gone.1 i))
        (λ n t. let n_is : n ≡ 200 = subst (λ x. pool_lends x n) at (h.lent_mark (suc s) n t) in not_both (is_marked n (w.marks (suc s))) t (ap (λ (k : ℕ). is_marked k (w.marks (suc s))) n_is ∙ gone.0))
