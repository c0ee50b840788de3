-- What each put of the calls owes: on the lock l of the seat s, and on the desk.
use Rattle.std.proofs.Common.{◌≡◌, ℕ, suc, ◌/◌, ◌<◌, ◌==◌, ◌&&◌, Bool, true, false, cond, List, [], ◌∷◌, ◌++◌, get_or, set, length, eqb-true, eq-eqb, ne_eqb, subst, sym, refl, ap, ◌∙◌, arith, length-set, get_or-set_other, get_or-set_same}
use Rattle.std.specs.Prelude.{Option, Some, None, is_some, nat_lt}
use Rattle.std.proofs.lemmas.Bool.{ltb-true}
use Rattle.std.proofs.lemmas.List.{append-nil}
use mathlib.Core.Logic.{dite}
use native.Mathlib.Decide.{ℕ_discrete}
use Rattle.kd_hands.specs.declared.views.View.{View}
use Rattle.kd_hands.specs.Views.{part}
use Rattle.kd_hands.specs.Lists.{is_marked, has_mark, was_swept, is_word_of}
use Rattle.kd_hands.specs.Locks.{Locks}
use Rattle.kd_hands.specs.Fits.{Fits}
use Rattle.kd_hands.proofs.Places.{not_both}
use Rattle.kd_toy_bus.specs.declared.act.Slip.{Slip}
use Rattle.kd_toy_bus.specs.declared.act.Act.TheVariants.{Join, Leave, Send, Raise, Close, Offer, Receive, Idle}
use Rattle.kd_toy_bus.specs.declared.locked.Desk.{Desk}
use Rattle.kd_toy_bus.specs.declared.locked.Locked.TheVariants as locked
use Rattle.kd_toy_bus.specs.declared.locked.Pool.{Pool}
use Rattle.kd_toy_bus.specs.declared.locked.Pool.TheVariants.{Closed, Free, Placed}
use Rattle.kd_toy_bus.specs.Bus.{slip_act, pool_after, pool_of, pool_out, keeper, hand_with, emptied_by, keeper_after, kept_from, IsFair, is_seated, Errand, errand_at, made_by_one, opened_at, stands, KnowsSeats}
use Rattle.kd_toy_bus.proofs.Laws.{pool_snoc, kept_snoc, cond_same}
use Rattle.kd_toy_bus.proofs.Pools.{next_is, stays, comes_free, closes, receives, offers, none_swept}
use Rattle.kd_toy_bus.proofs.Desks.{OwesPut, keeper_mine, owes_visit, owes_alone, owes_leave}

-- values, and the lists that they stand for
same_pool : (p q : Pool) → locked.Pool p ≡ locked.Pool q → p ≡ q
same_pool p q e = cc

same_desk : (d f : Desk) → locked.Desk d ≡ locked.Desk f → d ≡ f
same_desk d f e = cc

pub pool_is : (s l : ℕ) → suc s ≡ l → (list : List (ℕ × Slip)) (p : Pool) → stands l list (locked.Pool p) → pool_of list ≡ p
pool_is s l eq list p h = sym (same_pool p (pool_of list) (subst (λ k. stands k list (locked.Pool p)) (sym eq) h))

pub stands_as : (s l : ℕ) → suc s ≡ l → (list : List (ℕ × Slip)) (x : ℕ × Slip) (p : Pool) → pool_after (slip_act x.1) (pool_of list) ≡ p → stands l (list ++ x ∷ []) (locked.Pool p)
stands_as s l eq list x p e = subst (λ k. stands k (list ++ x ∷ []) (locked.Pool p)) eq (ap (λ q. locked.Pool q) (sym (pool_snoc Closed list x ∙ e)))

pub knows : (list : List (ℕ × Slip)) (d : Desk) → stands 0 list (locked.Desk d) → KnowsSeats list d
knows list d h = subst (KnowsSeats list) (sym (same_desk d h.0 h.1)) h.2

pub knows_still : (list : List (ℕ × Slip)) (d : Desk) (x : ℕ × Slip) → KnowsSeats list d → ((c : ℕ) → keeper_after c x.0 (slip_act x.1) (kept_from c None list) ≡ kept_from c None list) → stands 0 (list ++ x ∷ []) (locked.Desk d)
knows_still list d x k same = (d, refl, (k.0, λ c lt. k.1 c lt ∙ ap is_some (sym (kept_snoc c None list x ∙ same c))))

pub knows_join : (list : List (ℕ × Slip)) (d : Desk) (j s : ℕ) (e : Slip) → KnowsSeats list d → slip_act e ≡ Join s → s < 3 → stands 0 (list ++ (j, e) ∷ []) (locked.Desk (record { taken = set d.taken s true }))
knows_join list d j s e k is lt' =
    let long = k.0 in
    let near : s < length d.taken = omega arith in
    let seats : (c : ℕ) → c < 3 → get_or (set d.taken s true) c false ≡ is_some (kept_from c None (list ++ (j, e) ∷ [])) = λ c lt.
    let now : kept_from c None (list ++ (j, e) ∷ []) ≡ cond (s == c) (Some j) (kept_from c None list) = kept_snoc c None list (j, e) ∙ ap (λ a. keeper_after c j a (kept_from c None list)) is in
    dite (ℕ_discrete c s)
    (λ z. ap (λ (i : ℕ). get_or (set d.taken s true) i false) z ∙ (get_or-set_same d.taken s true false near ∙ sym (ap is_some (now ∙ ap (λ b. cond b (Some j) (kept_from c None list)) (eq-eqb s c (sym z))))))
    (λ ne. get_or-set_other d.taken s c true false ne ∙ (k.1 c lt ∙ sym (ap is_some (now ∙ ap (λ b. cond b (Some j) (kept_from c None list)) (ne_eqb s c (λ y. ne (sym y))))))) in
    (record { taken = set d.taken s true }, refl, (length-set d.taken s true ∙ k.0, seats))

pub knows_leave : (list : List (ℕ × Slip)) (d : Desk) (j s : ℕ) (e : Slip) → KnowsSeats list d → slip_act e ≡ Leave s → s < 3 → stands 0 (list ++ (j, e) ∷ []) (locked.Desk (record { taken = set d.taken s false }))
knows_leave list d j s e k is lt' =
    let long = k.0 in
    let near : s < length d.taken = omega arith in
    let seats : (c : ℕ) → c < 3 → get_or (set d.taken s false) c false ≡ is_some (kept_from c None (list ++ (j, e) ∷ [])) = λ c lt.
    let now : kept_from c None (list ++ (j, e) ∷ []) ≡ cond (s == c) None (kept_from c None list) = kept_snoc c None list (j, e) ∙ ap (λ a. keeper_after c j a (kept_from c None list)) is in
    dite (ℕ_discrete c s)
    (λ z. ap (λ (i : ℕ). get_or (set d.taken s false) i false) z ∙ (get_or-set_same d.taken s false false near ∙ sym (ap is_some (now ∙ ap (λ b. cond b None (kept_from c None list)) (eq-eqb s c (sym z))))))
    (λ ne. get_or-set_other d.taken s c false false ne ∙ (k.1 c lt ∙ sym (ap is_some (now ∙ ap (λ b. cond b None (kept_from c None list)) (ne_eqb s c (λ y. ne (sym y))))))) in
    (record { taken = set d.taken s false }, refl, (length-set d.taken s false ∙ k.0, seats))

-- what the desk knew of a seat is so when it was put
pub kept_still : (list : List (ℕ × Slip)) (d : Desk) (s : ℕ) (x : ℕ × Slip) (now : List (ℕ × Slip)) → KnowsSeats list d → s < 3 → keeper_after s x.0 (slip_act x.1) (kept_from s None list) ≡ kept_from s None list → now ≡ list ++ x ∷ [] → get_or d.taken s false ≡ is_some (kept_from s None now)
kept_still list d s x now k lt same eq = k.1 s lt ∙ ap is_some (sym (ap (kept_from s None) eq ∙ (kept_snoc s None list x ∙ same)))

pub kept_joined : (list : List (ℕ × Slip)) (j s : ℕ) (e : Slip) (now : List (ℕ × Slip)) → slip_act e ≡ Join s → now ≡ list ++ (j, e) ∷ [] → is_some (kept_from s None now) ≡ true
kept_joined list j s e now is eq = ap is_some (ap (kept_from s None) eq ∙ (kept_snoc s None list (j, e) ∙ (ap (λ a. keeper_after s j a (kept_from s None list)) is ∙ ap (λ b. cond b (Some j) (kept_from s None list)) (eq-eqb s s refl))))

pub pool_still : (list : List (ℕ × Slip)) (x : ℕ × Slip) (now : List (ℕ × Slip)) → pool_after (slip_act x.1) (pool_of list) ≡ pool_of list → now ≡ list ++ x ∷ [] → pool_of now ≡ pool_of list
pool_still list x now same eq = ap pool_of eq ∙ (pool_snoc Closed list x ∙ same)

-- a seat that the desk doesn't know as taken has no keeper
pub nobody_at : (list : List (ℕ × Slip)) (d : Desk) (s : ℕ) → KnowsSeats list d → s < 3 → get_or d.taken s false ≡ false → kept_from s None list ≡ None
nobody_at list d s k lt free = none (kept_from s None list) (sym (k.1 s lt) ∙ free)
  where
    none : (o : Option ℕ) → is_some o ≡ false → o ≡ None
    none None e = refl
    none (Some i) e = absurd cc

-- entries on the lock l
module _ (s l : ℕ) (eq : suc s ≡ l) (e : Slip) (v : View Slip) (held : (part v l).holds ≡ true) where
  holds : (part v (suc s)).holds ≡ true
  holds = subst (λ k. (part v k).holds ≡ true) (sym eq) held

  pub idle_owes : (part v 0).holds ≡ false → slip_act e ≡ Idle → (part v l).swept ≡ [] → OwesPut v l e
  idle_owes desk is bare = subst (λ k. OwesPut v k e) eq (owes_alone s e v desk holds (ap made_by_one is) (λ w fits tie h.
      stays s e v w fits holds h (λ hand. ap (λ a. hand_with a hand) is) (next_is s e v w fits holds h ∙ ap (λ a. pool_after a (pool_of (w.told.lists (suc s)))) is)
      (λ i n _ q. none_swept s e v w fits holds h (ap (λ k. (part v k).swept) eq ∙ bare) i n q)))

  pub receive_owes : (part v 0).holds ≡ false → slip_act e ≡ Receive → pool_of (part v l).seen ≡ Placed → is_seated s (part v 0).own ≡ true → OwesPut v l e
  receive_owes desk is placed mine = subst (λ k. OwesPut v k e) eq (owes_alone s e v desk holds (ap made_by_one is) (λ w fits tie h.
      receives s e v w fits holds h is (ap pool_of (sym (fits.whole (suc s) holds)) ∙ (ap (λ k. pool_of (part v k).seen) eq ∙ placed)) (keeper_mine s v w fits tie mine)))

  pub offer_owes : (swept : Bool) → (part v 0).holds ≡ true → slip_act e ≡ Offer swept → was_swept 200 (part v l).swept ≡ swept → OwesPut v l e
  offer_owes swept desk is told = subst (λ k. OwesPut v k e) eq (owes_visit s e v desk holds (λ w fits h. offers s e swept v w fits holds h is (ap (λ k. was_swept 200 (part v k).swept) eq ∙ told)))

  pub close_owes : (part v 0).holds ≡ true → slip_act e ≡ Close → OwesPut v l e
  close_owes desk is = subst (λ k. OwesPut v k e) eq (owes_visit s e v desk holds (λ w fits h. closes s e v w fits holds h is))

  -- the pool of a free seat is opened after a sweep
  pub raise_owes : (part v 0).holds ≡ true → slip_act e ≡ Raise → kept_from s None (part v 0).seen ≡ None → ((n : ℕ) → n < 256 → is_word_of n (part v l).swept ≡ true) → OwesPut v l e
  raise_owes desk is free words = subst (λ k. OwesPut v k e) eq (owes_visit s e v desk holds (λ w fits h.
      let none : keeper (suc s) (w.told.lists 0) ≡ None = ap (kept_from s None) (sym (fits.whole 0 desk)) ∙ free in
      let now : pool_of (w.told.lists (suc s) ++ (v.name, e) ∷ []) ≡ Free = next_is s e v w fits holds h ∙ ap (λ a. pool_after a (pool_of (w.told.lists (suc s)))) is in
      comes_free s e v w fits holds h (λ hand. ap (λ a. hand_with a hand) is)
      (λ n o. subst (λ p. pool_out p n) now o)
      (λ i n q. let no : None ≡ Some i = sym none ∙ h.kept i (suc s) n q in absurd cc)
      (λ n m. not_both (is_marked n (w.marks (suc s))) m (h.clear v.name (suc s) n (fits.opened desk).1 none
      (ap (is_word_of n) (sym (fits.swept (suc s))) ∙ (ap (λ k. is_word_of n (part v k).swept) eq ∙ words n (small n (w.marks (suc s)) m)))))))
    where
      small : (n : ℕ) (ws : ℕ → ℕ) → is_marked n ws ≡ true → n < 256
      small n ws m = ltb-true n 256 (first (nat_lt n 256) (has_mark n (ws (n / 64))) m)
        where
          first : (a b : Bool) → (a && b) ≡ true → a ≡ true
          first true b q = refl
          first false b q = q

-- the desk is left idle, before anything was visited
pub idle_leaves : (e : Slip) (v : View Slip) → (part v 0).holds ≡ true → slip_act e ≡ Idle → v.opened ≡ [] → OwesPut v 0 e
idle_leaves e v held is shut = owes_leave e v held (λ hand. ap (λ a. hand_with a hand) is) (ap emptied_by is)
    (λ c. ap (opened_at (suc c)) shut ∙ sym (ap (errand_at c) is))
    (λ w fits c. subst (λ a. IsFair c v.name a (kept_from c None (w.told.lists 0))) (sym is) tt)
    (λ w fits c i q. ap (λ a. keeper_after c v.name a (kept_from c None (w.told.lists 0))) is ∙ q)

-- what is open after one visit of the lock l is what the desk's entry addresses
pub one_part : (s l j : ℕ) (x : Slip) (part : Errand) (op : List (ℕ × ℕ × Slip)) → suc s ≡ l → made_by_one (slip_act x) ≡ part ∷ [] → op ≡ (l, j, x) ∷ [] → (c : ℕ) → opened_at (suc c) op ≡ cond (s == c) (part ∷ []) []
one_part s l j x part op eq is are c =
    ap (opened_at (suc c)) are ∙ (append-nil (cond (l == suc c) (made_by_one (slip_act x)) []) ∙ (ap (λ m. cond (l == suc c) m []) is ∙ dite (ℕ_discrete s c)
    (λ z. ap (λ b. cond b (part ∷ []) []) (eq-eqb l (suc c) (sym eq ∙ ap suc z)) ∙ sym (ap (λ b. cond b (part ∷ []) []) (eq-eqb s c z)))
    (λ ne. ap (λ b. cond b (part ∷ []) []) (ne_eqb l (suc c) (λ y. ne (omega arith))) ∙ sym (ap (λ b. cond b (part ∷ []) []) (ne_eqb s c ne)))))

pub send_leaves : (s : ℕ) (e : Slip) (v : View Slip) → (part v 0).holds ≡ true → slip_act e ≡ Send s → ((c : ℕ) → opened_at (suc c) v.opened ≡ errand_at c (Send s)) → OwesPut v 0 e
send_leaves s e v held is addressed = owes_leave e v held (λ hand. ap (λ a. hand_with a hand) is) (ap emptied_by is)
    (λ c. addressed c ∙ sym (ap (errand_at c) is))
    (λ w fits c. subst (λ a. IsFair c v.name a (kept_from c None (w.told.lists 0))) (sym is) tt)
    (λ w fits c i q. ap (λ a. keeper_after c v.name a (kept_from c None (w.told.lists 0))) is ∙ q)

pub join_leaves : (s : ℕ) (e : Slip) (v : View Slip) → (part v 0).holds ≡ true → slip_act e ≡ Join s → ((c : ℕ) → opened_at (suc c) v.opened ≡ errand_at c (Join s)) → kept_from s None (part v 0).seen ≡ None → OwesPut v 0 e
join_leaves s e v held is addressed free = owes_leave e v held (λ hand. ap (λ a. hand_with a hand) is) (ap emptied_by is)
    (λ c. addressed c ∙ sym (ap (errand_at c) is))
    (λ w fits c. subst (λ a. IsFair c v.name a (kept_from c None (w.told.lists 0))) (sym is) (nobody w fits c))
    (λ w fits c i q. ap (λ a. keeper_after c v.name a (kept_from c None (w.told.lists 0))) is ∙ (cond_same (s == c) (Some v.name) (kept_from c None (w.told.lists 0)) (λ t. let no : None ≡ Some i = sym (nobody w fits c t) ∙ q in absurd cc) ∙ q))
  where
    nobody : (w : Locks Slip) → Fits v w → (c : ℕ) → (s == c) ≡ true → kept_from c None (w.told.lists 0) ≡ None
    nobody w fits c t = ap (λ k. kept_from k None (w.told.lists 0)) (sym (eqb-true s c t)) ∙ (ap (kept_from s None) (sym (fits.whole 0 held)) ∙ free)
