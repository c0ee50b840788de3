-- What a pass has yet to publish by its own entries is reserved and due in the pool, while the pool
-- has that generation.
use Rattle.std.specs.Prelude.{◌≡◌, ◌⊎◌, ◌≤◌, ◌+◌, ℕ, ◌==◌, ◌&&◌, Bool, true, false, not, cond, List, [], ◌∷◌, Option, Some, None, refl}
use Rattle.std.proofs.Common.{sym, ap, ◌∙◌, subst, eqb-true, eq-eqb, ne_eqb, inl, inr, ⊎_elim, arith}
use Rattle.std.proofs.lemmas.Bool.{false≢true, true≢false, and_parts}
use mathlib.Core.Logic.{dite}
use native.Mathlib.Decide.{ℕ_discrete}
use Rattle.kd_types.specs.declared.refusal.Refusal.TheVariants.{MessagesQueued}
use Rattle.kd_acts.specs.State.{Act, Answer, Content, Hold, Pool, Visit, by_desk, close, drain, offer, post, raise, settle, publish, receive, read, free, idle as idle_act, done, drained, freed, gone, got, placed, refused, slice, bytes_of}
use Rattle.kd_acts.specs.Steps.{after, answer, pool_step, open_step, closed_answer, is_awaited, is_reserved_for, filled}
use Rattle.kd_acts.specs.Lasting.{AreNumbered}
use Rattle.kd_acts.proofs.Lasting.{numbers_stay}
use Rattle.kd_acts.proofs.Reserved.{IsOwed, generation_stays, owed_begins, owed_stays, takes}
use Rattle.kd_hands.specs.Lists.{made_by}
use Rattle.kd_world.specs.State.{closed_pool}
use Rattle.kd_histories.specs.Turns.{Did, Turn, left, started, removed, did, idle}
use Rattle.kd_histories.specs.Pools.{hold_freed, hold_met, hold_after, hold_from, hold_of, IsDone, IsDoneTurn, AreDone, IsAnswered}
use Rattle.kd_histories.specs.Pairs.{Due, OwedIsDue, due, due_by, due_by_act, due_by_publish, due_from, IsPaired, IsPairedAct, ArePaired, owed, owed_by, owed_by_act, owed_from}
use Rattle.kd_histories.proofs.Holds.{freed_numbered, numbered_after}

-- a generation never falls
rises : (h : Hold) (a : Act) → h.generation ≤ (after h a).generation
unfolding pool_step
rises h (by_desk (raise size)) = omega arith
rises h (by_desk (close force)) = go (not force && is_awaited h)
  where
    go : (b : Bool) → h.generation ≤ (elim b as (λ b. Hold × Answer) [ true ↦ (h, refused MessagesQueued) | false ↦ (record { generation = h.generation + 1; pool = None }, done) ]).0.generation
    go true = omega arith
    go false = omega arith
rises h (by_desk (offer user len source must content)) = let e = generation_stays h (by_desk (offer user len source must content)) refl in omega (arith, e)
rises h (by_desk (post image)) = let e = generation_stays h (by_desk (post image)) refl in omega (arith, e)
rises h (by_desk drain) = let e = generation_stays h (by_desk drain) refl in omega (arith, e)
rises h (by_desk (settle images)) = let e = generation_stays h (by_desk (settle images)) refl in omega (arith, e)
rises h (publish generation n c) = let e = generation_stays h (publish generation n c) refl in omega (arith, e)
rises h (receive mode) = let e = generation_stays h (receive mode) refl in omega (arith, e)
rises h (read n wants) = let e = generation_stays h (read n wants) refl in omega (arith, e)
rises h (free n) = let e = generation_stays h (free n) refl in omega (arith, e)
rises h idle_act = let e = generation_stays h idle_act refl in omega (arith, e)

freed_generation : (ns : List ℕ) (h : Hold) → (hold_freed ns h).generation ≡ h.generation
unfolding hold_freed
freed_generation [] h = refl
freed_generation (n ∷ ns) h = freed_generation ns (after h (free n)) ∙ generation_stays h (free n) refl

freed_owed : (ns : List ℕ) (h : Hold) (g n len : ℕ) → AreNumbered h.pool → IsOwed g n len h → IsOwed g n len (hold_freed ns h)
unfolding hold_freed
freed_owed [] h g n len d w = w
freed_owed (m ∷ ns) h g n len d w = freed_owed ns (after h (free m)) g n len (numbers_stay h (free m) d) (owed_stays h (free m) g n len d refl w)

-- a publishing that is gone changes nothing, and one that is placed is of the pool's generation
gone_same : (h : Hold) (g m : ℕ) (c : Content) → answer h (publish g m c) ≡ gone → after h (publish g m c) ≡ h
unfolding pool_step open_step closed_answer
gone_same h g m c e = go h.pool e
  where
    go : (o : Option Pool) → answer (record { generation = h.generation; pool = o }) (publish g m c) ≡ gone → after (record { generation = h.generation; pool = o }) (publish g m c) ≡ record { generation = h.generation; pool = o }
    go None e = refl
    go (Some p) e = by (g == h.generation && is_reserved_for m c p) e
      where
        by : (b : Bool) → (elim b as (λ b. Pool × Answer) [ false ↦ (p, gone) | true ↦ (filled m c p, placed) ]).1 ≡ gone
            → ◌≡◌ {A = Hold} (record { generation = h.generation; pool = Some (elim b as (λ b. Pool × Answer) [ false ↦ (p, gone) | true ↦ (filled m c p, placed) ]).0 }) (record { generation = h.generation; pool = Some p })
        by false e = refl
        by true e = absurd cc

pub placed_now : (h : Hold) (g m : ℕ) (c : Content) → answer h (publish g m c) ≡ placed → g ≡ h.generation
unfolding pool_step open_step closed_answer
placed_now h g m c e = go h.pool e
  where
    go : (o : Option Pool) → answer (record { generation = h.generation; pool = o }) (publish g m c) ≡ placed → g ≡ h.generation
    go None e = absurd cc
    go (Some p) e = by (g == h.generation) refl e
      where
        by : (b : Bool) → (g == h.generation) ≡ b → (elim (b && is_reserved_for m c p) as (λ b. Pool × Answer) [ false ↦ (p, gone) | true ↦ (filled m c p, placed) ]).1 ≡ placed → g ≡ h.generation
        by true q e = eqb-true g h.generation q
        by false q e = absurd cc

-- what the pass j owes of the number n at the generation g: its slice is reserved while the pool has that generation, and it is due
pub record Stands (j g n : ℕ) (k : Option Due) (h : Hold) (c : Content) : Type 0 where
  pub size : ℕ
  pub there : IsOwed g n size h
  pub is_due : g ≡ h.generation → k ≡ Some (record { pass = j; generation = g; content = c })

abbrev pub StandsIf : ℕ → ℕ → ℕ → Option Content → Option Due → Hold → Type 0
StandsIf j g n o k h = (c : Content) → o ≡ Some c → Stands j g n k h c

-- through an act that changes neither what is due nor what is owed
stays_so : (j g n : ℕ) (o : Option Content) (k : Option Due) (h : Hold) (a : Act) → AreNumbered h.pool → takes g n a ≡ false → StandsIf j g n o k h → StandsIf j g n o k (after h a)
stays_so j g n o k h a d off w c e =
    let s = w c e in
    let past = s.there.past in let up = rises h a in
    record { size = s.size; there = owed_stays h a g n s.size d off s.there; is_due = λ z. s.is_due (omega (arith, z, past, up)) }

met_so : (j g n : ℕ) (o : Option Content) (k : Option Due) (d : Did) (h : Hold) → AreNumbered h.pool → StandsIf j g n o k h → StandsIf j g n o k (hold_met d h)
met_so j g n o k d h num w c e = let s = w c e in record { size = s.size; there = freed_owed d.freed h g n s.size num s.there; is_due = λ z. s.is_due (z ∙ freed_generation d.freed h) }

-- an offer of the pass i that reserved the number m
offers_so : (i j g n m at : ℕ) (o : Option Content) (k : Option Due) (h : Hold) (user len source : ℕ) (must : Bool) (x : Content) → AreNumbered h.pool → at ≡ h.generation
    → answer h (by_desk (offer user len source must x)) ≡ slice m → StandsIf j g n o k h
    → StandsIf j g n (cond (i == j) (cond (m == n && at == g) (Some x) o) o) (cond (m == n) (Some (record { pass = i; generation = at; content = x })) k) (after h (by_desk (offer user len source must x)))
offers_so i j g n m at o k h user len source must x d now told w = dite (ℕ_discrete m n)
    (λ same. dite (ℕ_discrete at g)
    (λ here.
    let begins = owed_begins h user len source m must x told in
    let gen : g ≡ h.generation = sym here ∙ now in
    dite (ℕ_discrete i j)
    (λ me. λ c e.
    let e' : Some x ≡ Some c = sym (ap (λ b. cond b (cond (m == n && at == g) (Some x) o) o) (eq-eqb i j me) ∙ (ap (λ b. cond (b && at == g) (Some x) o) (eq-eqb m n same) ∙ ap (λ b. cond b (Some x) o) (eq-eqb at g here))) ∙ e in
    let cx : x ≡ c = cc in
    record {
      size = len;
      there = subst (λ y. IsOwed y n len a') (sym gen) (subst (λ y. IsOwed h.generation y len a') same begins.0);
      is_due = λ z. ap (λ b. cond b (Some (record { pass = i; generation = at; content = x })) k) (eq-eqb m n same) ∙ (ap (λ (y : ℕ). Some (record { pass = y; generation = at; content = x })) me ∙ (ap (λ (y : ℕ). Some (record { pass = j; generation = y; content = x })) here ∙ ap (λ (y : Content). Some (record { pass = j; generation = g; content = y })) cx));
    })
    (λ other. λ c e.
    let s = w c (sym (ap (λ b. cond b (cond (m == n && at == g) (Some x) o) o) (ne_eqb i j other)) ∙ e) in
    absurd (begins.1 s.size (subst (λ y. IsOwed y m s.size h) gen (subst (λ y. IsOwed g y s.size h) (sym same) s.there)))))
    (λ else. λ c e.
    let e' : o ≡ Some c = sym (own_same (i == j) (ap (λ b. cond (m == n && b) (Some x) o) (ne_eqb at g else) ∙ none (m == n))) ∙ e in
    let s = stays_so j g n o k h act d refl w c e' in
    let up = generation_stays h act refl in
    record { size = s.size; there = s.there; is_due = λ z. absurd (else (now ∙ (sym up ∙ sym z))) }))
    (λ apart. λ c e.
    let e' : o ≡ Some c = sym (own_same (i == j) (ap (λ b. cond (b && at == g) (Some x) o) (ne_eqb m n apart))) ∙ e in
    let s = stays_so j g n o k h act d refl w c e' in
    record { size = s.size; there = s.there; is_due = λ z. ap (λ b. cond b (Some (record { pass = i; generation = at; content = x })) k) (ne_eqb m n apart) ∙ s.is_due z })
  where
    act : Act
    act = by_desk (offer user len source must x)

    a' : Hold
    a' = after h act

    none : (b : Bool) → cond (b && false) (Some x) o ≡ o
    none true = refl
    none false = refl

    own_same : (b : Bool) → cond (m == n && at == g) (Some x) o ≡ o → cond b (cond (m == n && at == g) (Some x) o) o ≡ o
    own_same true q = q
    own_same false q = refl

publish_is : (h : Hold) (g m : ℕ) (c : Content) → (answer h (publish g m c) ≡ placed) ⊎ (answer h (publish g m c) ≡ gone)
unfolding pool_step open_step closed_answer
publish_is h g m c = go h.pool
  where
    go : (o : Option Pool) → (answer (record { generation = h.generation; pool = o }) (publish g m c) ≡ placed) ⊎ (answer (record { generation = h.generation; pool = o }) (publish g m c) ≡ gone)
    go None = inr refl
    go (Some p) = by (g == h.generation && is_reserved_for m c p)
      where
        by : (b : Bool) → ((elim b as (λ b. Pool × Answer) [ false ↦ (p, gone) | true ↦ (filled m c p, placed) ]).1 ≡ placed) ⊎ ((elim b as (λ b. Pool × Answer) [ false ↦ (p, gone) | true ↦ (filled m c p, placed) ]).1 ≡ gone)
        by false = inr refl
        by true = inl refl

due_same : (a b : Due) → Some a ≡ Some b → (a.pass ≡ b.pass) × (a.generation ≡ b.generation)
due_same a b e = let f : a ≡ b = cc in (ap (λ (x : Due). x.pass) f, ap (λ (x : Due). x.generation) f)

-- a publishing by the pass i of the number m at the generation p
publishes_so : (i j g n p m : ℕ) (o : Option Content) (k : Option Due) (h : Hold) (x : Content) (ans : Answer) → AreNumbered h.pool → answer h (publish p m x) ≡ ans
    → IsPairedAct n i (publish p m x) ans k → StandsIf j g n o k h
    → StandsIf j g n (cond (i == j) (cond (p == g && m == n) None o) o) (due_by_publish n m ans k) (after h (publish p m x))
publishes_so i j g n p m o k h x ans d told pairs w = go (p == g && m == n) refl
  where
    act : Act
    act = publish p m x

    up : (after h act).generation ≡ h.generation
    up = generation_stays h act refl

    -- of another number or generation
    other : (p == g && m == n) ≡ false → (c : Content) → cond (i == j) (cond (p == g && m == n) None o) o ≡ Some c → o ≡ Some c
    other off c e = sym (own (i == j) off) ∙ e
      where
        own : (b : Bool) → (p == g && m == n) ≡ false → cond b (cond (p == g && m == n) None o) o ≡ o
        own true q = ap (λ t. cond t None o) q
        own false q = refl

    by_placed : (c : Content) → (p == g && m == n) ≡ false → IsPairedAct n i (publish p m x) placed k → Stands j g n k (after h act) c → Stands j g n (due_by_publish n m placed k) (after h act) c
    by_placed c off pair s = record {
      size = s.size;
      there = s.there;
      is_due = λ z. dite (ℕ_discrete m n)
          (λ same. let q = due_same (record { pass = i; generation = p; content = x }) (record { pass = j; generation = g; content = c }) (sym (pair (eq-eqb m n same)) ∙ s.is_due z) in
          absurd (false≢true (sym off ∙ (ap (λ b. b && m == n) (eq-eqb p g q.1) ∙ eq-eqb m n same))))
          (λ apart. ap (λ b. cond b None k) (ne_eqb m n apart) ∙ s.is_due z);
    }

    go : (b : Bool) → (p == g && m == n) ≡ b → StandsIf j g n (cond (i == j) (cond (p == g && m == n) None o) o) (due_by_publish n m ans k) (after h (publish p m x))
    go false off c e =
        let s = stays_so j g n o k h act d off w c (other off c e) in
        ⊎_elim (λ placed_is. subst (λ a. Stands j g n (due_by_publish n m a k) (after h act) c) (sym placed_is ∙ told) (by_placed c off (subst (λ a. IsPairedAct n i (publish p m x) a k) (sym told ∙ placed_is) pairs) s))
        (λ gone_is. subst (λ a. Stands j g n (due_by_publish n m a k) (after h act) c) (sym gone_is ∙ told) s) (publish_is h p m x)
    go true on c e =
        let both = and_parts (p == g) (m == n) on in
        let pg : p ≡ g = eqb-true p g both.0 in
        dite (ℕ_discrete i j)
        (λ me. let no : None ≡ Some c = sym (ap (λ b. cond b (cond (p == g && m == n) None o) o) (eq-eqb i j me) ∙ ap (λ t. cond t None o) on) ∙ e in absurd cc)
        (λ ne.
        let s = w c (sym (ap (λ b. cond b (cond (p == g && m == n) None o) o) (ne_eqb i j ne)) ∙ e) in
        ⊎_elim
        (λ placed_is.
        let pair : (m == n) ≡ true → k ≡ Some (record { pass = i; generation = p; content = x }) = subst (λ a. IsPairedAct n i (publish p m x) a k) (sym told ∙ placed_is) pairs in
        let q = due_same (record { pass = i; generation = p; content = x }) (record { pass = j; generation = g; content = c }) (sym (pair both.1) ∙ s.is_due (sym pg ∙ placed_now h p m x placed_is)) in
        absurd (ne q.0))
        (λ gone_is. subst (λ a. Stands j g n (due_by_publish n m a k) (after h act) c) (sym gone_is ∙ told) (subst (λ y. Stands j g n k y c) (sym (gone_same h p m x gone_is)) s))
        (publish_is h p m x))

cond_alike : {A : Type 0} (b : Bool) (x : A) → cond b x x ≡ x
cond_alike true x = refl
cond_alike false x = refl

-- an act, after what was swept
module _ (i j g n : ℕ) (o : Option Content) (k : Option Due) (h : Hold) (d : Did) (num : AreNumbered h.pool) (is : IsDone h d) (pairs : IsPairedAct n i d.act d.answer k) (w : StandsIf j g n o k h) where
  abbrev met : Hold
  met = hold_met d h

  num_met : AreNumbered met.pool
  num_met = freed_numbered d.freed h num

  w_met : StandsIf j g n o k met
  w_met = met_so j g n o k d h num w

  abbrev Then : Act → Answer → Type 0
  Then a x = StandsIf j g n (cond (i == j) (owed_by_act g n d.generation a x o) o) (due_by_act n i d.generation a x k) (after met a)

  same_so : (a : Act) → takes g n a ≡ false → StandsIf j g n (cond (i == j) o o) k (after met a)
  same_so a off = subst (λ z. StandsIf j g n z k (after met a)) (sym (cond_alike (i == j) o)) (stays_so j g n o k met a num_met off w_met)

  by_visit : (v : Visit) (x : Answer) → answer met (by_desk v) ≡ x → Then (by_desk v) x
  by_visit (offer user len source must c) (slice m) e = offers_so i j g n m d.generation o k met user len source must c num_met (is.generation ∙ sym (freed_generation d.freed h)) e w_met
  by_visit (offer user len source must c) done e = same_so (by_desk (offer user len source must c)) refl
  by_visit (offer user len source must c) placed e = same_so (by_desk (offer user len source must c)) refl
  by_visit (offer user len source must c) gone e = same_so (by_desk (offer user len source must c)) refl
  by_visit (offer user len source must c) freed e = same_so (by_desk (offer user len source must c)) refl
  by_visit (offer user len source must c) (refused why) e = same_so (by_desk (offer user len source must c)) refl
  by_visit (offer user len source must c) (drained images) e = same_so (by_desk (offer user len source must c)) refl
  by_visit (offer user len source must c) (got m offset bytes dropped) e = same_so (by_desk (offer user len source must c)) refl
  by_visit (offer user len source must c) (bytes_of bytes) e = same_so (by_desk (offer user len source must c)) refl
  by_visit (raise size) x e = same_so (by_desk (raise size)) refl
  by_visit (close force) x e = same_so (by_desk (close force)) refl
  by_visit (post image) x e = same_so (by_desk (post image)) refl
  by_visit drain x e = same_so (by_desk drain) refl
  by_visit (settle images) x e = same_so (by_desk (settle images)) refl

  by_act : (a : Act) (x : Answer) → IsAnswered met a x → IsPairedAct n i a x k → Then a x
  by_act (by_desk v) x e p = by_visit v x (sym e)
  by_act (publish q m c) x e p = publishes_so i j g n q m o k met c x num_met (sym e) p w_met
  by_act (receive mode) x e p = same_so (receive mode) refl
  by_act (read m wants) x e p = same_so (read m wants) refl
  by_act (free m) x e p = same_so (free m) refl
  by_act idle_act x e p = same_so idle_act refl

  pub did_so : Then d.act d.answer
  did_so = by_act d.act d.answer is.answer pairs

one_so : (i j g n : ℕ) (t : Turn) (o : Option Content) (k : Option Due) (h : Hold) → AreNumbered h.pool → IsDoneTurn h t → IsPaired n i t k → StandsIf j g n o k h
    → StandsIf j g n (cond (i == j) (owed_by g n t o) o) (due_by n i t k) (hold_after t h)
unfolding IsDoneTurn IsPaired owed_by due_by hold_after
one_so i j g n (did d) o k h num is pairs w = did_so i j g n o k h d num is pairs w
one_so i j g n (left l) o k h num is pairs w = subst (λ z. StandsIf j g n z k h) (sym (cond_alike (i == j) o)) w
one_so i j g n (started b) o k h num is pairs w = subst (λ z. StandsIf j g n z k h) (sym (cond_alike (i == j) o)) w
one_so i j g n (removed m) o k h num is pairs w = subst (λ z. StandsIf j g n z k h) (sym (cond_alike (i == j) o)) w
one_so i j g n idle o k h num is pairs w = subst (λ z. StandsIf j g n z k h) (sym (cond_alike (i == j) o)) w

owed_more : (g n i j : ℕ) (o : Option Content) (t : Turn) (x : ℕ × Turn) (own : List (ℕ × Turn)) → t ≡ x.1 → i ≡ x.0
    → owed_from g n (cond (i == j) (owed_by g n t o) o) own ≡ owed_from g n o (cond (x.0 == j) (x ∷ own) own)
unfolding owed_from
owed_more g n i j o t x own et ei = go (i == j) (x.0 == j) (ap (λ z. z == j) ei)
  where
    go : (a b : Bool) → a ≡ b → owed_from g n (cond a (owed_by g n t o) o) own ≡ owed_from g n o (cond b (x ∷ own) own)
    go true true e = ap (λ s. owed_from g n (owed_by g n s o) own) et
    go false false e = refl
    go true false e = absurd (true≢false e)
    go false true e = absurd (false≢true e)

-- along a true and paired list
pub stands_along : (j g n : ℕ) (o : Option Content) (k : Option Due) (h : Hold) (xs : List (ℕ × Turn)) → AreNumbered h.pool → AreDone h xs → ArePaired n k xs → StandsIf j g n o k h
    → StandsIf j g n (owed_from g n o (made_by j xs)) (due_from n k xs) (hold_from h xs)
unfolding AreDone ArePaired owed_from due_from hold_from
stands_along j g n o k h [] num all pairs w = w
stands_along j g n o k h (x ∷ xs) num all pairs w =
    let t : Turn = x.1 in
    subst (λ z. StandsIf j g n z (due_from n (due_by n x.0 t k) xs) (hold_from (hold_after t h) xs)) (owed_more g n x.0 j o t x (made_by j xs) refl refl)
    (stands_along j g n (cond (x.0 == j) (owed_by g n t o) o) (due_by n x.0 t k) (hold_after t h) xs (numbered_after t h num) all.1 pairs.1 (one_so x.0 j g n t o k h num all.0 pairs.0 w))

-- what a pass owes by its own entries stands in the pool while it has that generation, and is due
pub owed_stands : (j g n : ℕ) (c : Content) (list own : List (ℕ × Turn)) → AreDone closed_pool list → ArePaired n None list → made_by j list ≡ own → owed g n own ≡ Some c → Stands j g n (due n list) (hold_of list) c
owed_stands j g n c list own all pairs are mine =
    stands_along j g n None None closed_pool list tt all pairs (λ x e. absurd (let f : None ≡ Some x = e in cc)) c (ap (owed_from g n None) are ∙ mine)

-- so where its publishing is placed, it is due
pub owed_is_due : (j g n : ℕ) (c : Content) (list own : List (ℕ × Turn)) → AreDone closed_pool list → ArePaired n None list → made_by j list ≡ own → owed g n own ≡ Some c
    → answer (hold_of list) (publish g n c) ≡ placed → due n list ≡ Some (record { pass = j; generation = g; content = c })
owed_is_due j g n c list own all pairs are mine told = (owed_stands j g n c list own all pairs are mine).is_due (placed_now (hold_of list) g n c told)

pub owed_is_due_there : OwedIsDue
owed_is_due_there j g n c list all pairs mine now = (owed_stands j g n c list (made_by j list) all pairs refl mine).is_due now
