-- What callers owe is due of them, act by act.
use Rattle.std.specs.Prelude.{◌≡◌, ◌≢◌, ◌≤◌, ◌+◌, ◌==◌, ◌&&◌, ℕ, Bool, true, false, cond, List, [], ◌∷◌, ◌++◌, length, get_or, set, refl, Option, Some, None}
use Rattle.std.specs.List.{AllByRecursion}
use Rattle.std.proofs.Common.{ap, sym, subst, ◌∙◌, arith, eq-eqb, eqb-true}
use Rattle.std.proofs.lemmas.Bool.{false≢true}
use Rattle.std.proofs.lemmas.List.Sums.{sum_by-cons}
use mathlib.Core.Logic.{dite}
use native.Mathlib.Decide.{dec_le}
use Rattle.kd_model.proofs.Lists.{all_both, all_of_append}
use Rattle.kd_acts.specs.State.{Act, Answer, Content, Hold, by_desk, gone, offer, placed, publish, slice}
use Rattle.kd_acts.specs.Steps.{after, answer}
use Rattle.kd_acts.specs.Lasting.{AreNumbered, is_open}
use Rattle.kd_acts.proofs.Reserved.{IsOwed, owed_arrives, owed_begins}
use Rattle.kd_counts.proofs.Steps.{generations_go_on}
use Rattle.kd_world.specs.State.{Pending, closed_pool}
use Rattle.kd_world.proofs.Acts.{set_nowhere, set_pool}
use Rattle.kd_world.proofs.Agreeing.{but_at, each}
use Rattle.kd_world.proofs.Owing.{IsDue, IsLess, Owes, is_like, like}
use Rattle.kd_histories.specs.Pairs.{Due, due_by_act}

-- by seat and number
abbrev pub Dues : Type 0
Dues = ℕ → ℕ → Option Due

-- as a due
abbrev pub due_of : ℕ → Pending → Due
due_of i e = record { pass = i + 1; generation = e.generation; content = e.content }

-- while the pool has its generation, it is due
abbrev pub IsDueOf : (ℕ → Hold) → Dues → ℕ → Pending → Type 0
IsDueOf pool k i e = e.generation ≡ (pool e.seat).generation → k e.seat e.number ≡ Some (due_of i e)

abbrev pub AreDueOf : (ℕ → Hold) → (ℕ → List Pending) → Dues → Type 0
AreDueOf pool owing k = (i : ℕ) → AllByRecursion (IsDueOf pool k i) (owing i)

-- what is due after an act at the pool of a seat
abbrev pub dues_after : ℕ → ℕ → ℕ → Act → Answer → Dues → Dues
dues_after n s g a o k = λ c m. elim (s == c) [ true ↦ due_by_act m n g a o (k c m) | false ↦ k c m ]

pub with_dues : (pool : ℕ → Hold) (owing : ℕ → List Pending) (k l : Dues) → ((c m : ℕ) → k c m ≡ l c m) → AreDueOf pool owing k → AreDueOf pool owing l
with_dues pool owing k l same = subst (AreDueOf pool owing) (λ t c m. same c m t)

pub with_owed : (pool : ℕ → Hold) (owing owing' : ℕ → List Pending) (k : Dues) → ((i : ℕ) → owing i ≡ owing' i) → AreDueOf pool owing k → AreDueOf pool owing' k
with_owed pool owing owing' k same = subst (λ xs. AreDueOf pool xs k) (λ t i. same i t)

-- an act that offers and publishes nothing
pub dues_same : (n s g : ℕ) (a : Act) (o : Answer) (k : Dues) → ((m : ℕ) (d : Option Due) → due_by_act m n g a o d ≡ d) → (c m : ℕ) → k c m ≡ dues_after n s g a o k c m
dues_same n s g a o k none c m = go (s == c)
  where
    go : (b : Bool) → k c m ≡ elim b [ true ↦ due_by_act m n g a o (k c m) | false ↦ k c m ]
    go true = sym (none m (k c m))
    go false = refl

-- ---- counts

abbrev one_if : Bool → ℕ
one_if b = cond b 1 0

counted_none : (e : Pending) (xs : List Pending) → like e xs ≡ 0 → AllByRecursion (λ x. is_like e x ≡ false) xs
counted_none e [] n = tt
counted_none e (x ∷ xs) n = go (is_like e x) refl (sym (sum_by-cons (λ x. one_if (is_like e x)) x xs) ∙ n) (counted_none e xs)
  where
    go : (b : Bool) → is_like e x ≡ b → one_if b + like e xs ≡ 0 → (like e xs ≡ 0 → AllByRecursion (λ x. is_like e x ≡ false) xs)
        → (is_like e x ≡ false) × AllByRecursion (λ x. is_like e x ≡ false) xs
    go false f m later = (f, later (omega (arith, m)))
    go true f m later = absurd (omega (arith, m))

like_itself : (p : Pending) → is_like p p ≡ true
like_itself p = ap (λ b. b && (p.generation == p.generation && p.number == p.number)) (eq-eqb p.seat p.seat refl)
    ∙ ap (λ b. b && p.number == p.number) (eq-eqb p.generation p.generation refl) ∙ eq-eqb p.number p.number refl

-- ---- an act at a pool of a list

module _ (pools : List Hold) (numbered : (s : ℕ) → AreNumbered (get_or pools s closed_pool).pool) (s : ℕ) (a : Act) where
  abbrev pool : ℕ → Hold
  pool = λ k. get_or pools k closed_pool

  abbrev now : Hold
  now = after (pool s) a

  abbrev pool' : ℕ → Hold
  pool' = λ k. get_or (set pools s now) k closed_pool

  -- generations don't fall
  rises : (k : ℕ) → (pool k).generation ≤ (pool' k).generation
  rises k = dite (dec_le (length pools) s)
      (λ le. let same : (pool' k).generation ≡ (pool k).generation = ap (λ (h : Hold). h.generation) (set_nowhere pools s now le k) in omega (arith, same))
      (λ gt. subst (λ (h : Hold). (pool k).generation ≤ h.generation) (sym (set_pool pools s now (omega (arith, gt)) k))
      (each (λ k (h : Hold). (pool k).generation ≤ h.generation) pool s now ((generations_go_on (pool s) a).0) (λ k ne. omega arith) k))

  was_now : (e : Pending) → IsDue pool e → e.generation ≡ (pool' e.seat).generation → e.generation ≡ (pool e.seat).generation
  was_now e w is = let up = rises e.seat in let past : e.generation ≤ (pool e.seat).generation = w.past in omega (arith, up, past, is)

  module _ (owing : ℕ → List Pending) (r : Owes pool owing) (k : Dues) (w : AreDueOf pool owing k) (n g : ℕ) where
    -- what was due and still is, is due in the pools after it
    all_stay : (l : Dues) (j : ℕ) → ((e : Pending) → IsDue pool e → e.generation ≡ (pool e.seat).generation → l e.seat e.number ≡ k e.seat e.number) → AllByRecursion (IsDueOf pool' l j) (owing j)
    all_stay l j same = all_both (IsDue pool) (IsDueOf pool k j) (IsDueOf pool' l j) (owing j)
        (λ e here due is. let before = was_now e here is in same e here before ∙ due before) (r.due j) (w j)

    -- one that offers and publishes nothing
    pub due_still : (o : Answer) → ((m : ℕ) (d : Option Due) → due_by_act m n g a o d ≡ d) → AreDueOf pool' owing (dues_after n s g a o k)
    due_still o none j = all_stay (dues_after n s g a o k) j (λ e here before. sym (dues_same n s g a o k none e.seat e.number))

    -- one is published
    module _ (i : ℕ) (p : Pending) (xs : List Pending) (less : IsLess p (owing i) xs) (at : p.seat ≡ s) (is : a ≡ publish p.generation p.number p.content)
        (there : IsDue pool p) (mine : IsDueOf pool k i p) (me : i + 1 ≡ n) where
      abbrev fewer : ℕ → List Pending
      fewer = but_at owing i xs

      abbrev put : Act
      put = publish p.generation p.number p.content

      none : (j : ℕ) → like p (fewer j) ≡ 0
      none = each (λ j ys. like p ys ≡ 0) owing i xs
          (let once = r.once p i (i + 1) (λ z. omega (arith, z)) in let one = less.less p in let self : one_if (is_like p p) ≡ 1 = ap one_if (like_itself p) in omega (arith, once, one, self))
          (λ j ne. let once = r.once p j i ne in let one = less.less p in let self : one_if (is_like p p) ≡ 1 = ap one_if (like_itself p) in omega (arith, once, one, self))

      rest : (P : ℕ → Pending → Type 0) → ((j : ℕ) → AllByRecursion (P j) (owing j)) → (j : ℕ) → AllByRecursion (P j) (fewer j)
      rest P all = each (λ j ys. AllByRecursion (P j) ys) owing i xs (less.kept (P i) (all i)) (λ j ne. all j)

      placed_in : (e : Pending) → p.generation ≡ (pool s).generation → is_like p e ≡ false → e.generation ≡ (pool e.seat).generation
          → dues_after n s g put placed k e.seat e.number ≡ k e.seat e.number
      placed_in e here unlike before = go (s == e.seat) refl (p.number == e.number) refl
        where
          go : (x : Bool) → (s == e.seat) ≡ x → (y : Bool) → (p.number == e.number) ≡ y → elim x [ true ↦ cond y None (k e.seat e.number) | false ↦ k e.seat e.number ] ≡ k e.seat e.number
          go false f y z = refl
          go true f false z = refl
          go true f true z =
              let seat : s ≡ e.seat = eqb-true s e.seat f in
              let generation : p.generation ≡ e.generation = here ∙ ap (λ t. (pool t).generation) seat ∙ sym before in
              let alike : is_like p e ≡ true = ap (λ b. b && (p.generation == e.generation && p.number == e.number)) (eq-eqb p.seat e.seat (at ∙ seat))
              ∙ ap (λ b. b && p.number == e.number) (eq-eqb p.generation e.generation generation) ∙ z in
              absurd (false≢true (sym unlike ∙ alike))

      others : (o : Answer) → ((e : Pending) → is_like p e ≡ false → e.generation ≡ (pool e.seat).generation → dues_after n s g put o k e.seat e.number ≡ k e.seat e.number) → AreDueOf pool' fewer (dues_after n s g put o k)
      others o same j = all_both (λ e. is_like p e ≡ false) (λ e. IsDue pool e × IsDueOf pool k j e) (IsDueOf pool' (dues_after n s g put o k) j) (fewer j)
          (λ e unlike both is. let before = was_now e both.0 is in same e unlike before ∙ both.1 before)
          (counted_none p (fewer j) (none j)) (rest (λ j e. IsDue pool e × IsDueOf pool k j e) (λ j. both_hold j) j)
        where
          both_hold : (j : ℕ) → AllByRecursion (λ e. IsDue pool e × IsDueOf pool k j e) (owing j)
          both_hold j = all_both (IsDue pool) (IsDueOf pool k j) (λ e. IsDue pool e × IsDueOf pool k j e) (owing j) (λ e x y. (x, y)) (r.due j) (w j)

      -- what it was answered
      told : answer (pool s) a ≡ elim (is_open (pool s) && (pool s).generation == p.generation) [ true ↦ placed | false ↦ gone ]
      told = ap (answer (pool s)) is ∙ owed_arrives (pool s) p.generation p.number p.content (numbered s) (subst (λ t. IsOwed p.generation p.number (length p.content.image) (pool t)) at there)

      -- it is of what was due, and what is left is due still
      pub record Publishes (o : Answer) : Type 0 where
        pub paired : (m : ℕ) → o ≡ placed → (p.number == m) ≡ true → k s m ≡ Some (record { pass = n; generation = p.generation; content = p.content })
        pub left : AreDueOf pool' fewer (dues_after n s g put o k)

      by_gone : Publishes gone
      by_gone = record {
        paired = λ m t. absurd cc;
        left = others gone (λ e unlike before. sym (dues_same n s g put gone k (λ m d. refl) e.seat e.number));
      }

      by_placed : p.generation ≡ (pool s).generation → Publishes placed
      by_placed here = record {
        paired = λ m t f.
            ap (k s) (sym (eqb-true p.number m f)) ∙ ap (λ t. k t p.number) (sym at) ∙ mine (here ∙ ap (λ t. (pool t).generation) (sym at))
            ∙ ap (λ j. Some (record { pass = j; generation = p.generation; content = p.content })) me;
        left = others placed (λ e unlike before. placed_in e here unlike before);
      }

      pub published : Publishes (answer (pool s) a)
      published = subst Publishes (sym told) (go (is_open (pool s)) ((pool s).generation == p.generation) refl)
        where
          go : (b f : Bool) → ((pool s).generation == p.generation) ≡ f → Publishes (elim (b && f) [ true ↦ placed | false ↦ gone ])
          go false f e = by_gone
          go true false e = by_gone
          go true true e = by_placed (sym (eqb-true (pool s).generation p.generation e))

    -- one more is placed
    module _ (i user len source number : ℕ) (must : Bool) (c : Content) (is : a ≡ by_desk (offer user len source must c))
        (placed : answer (pool s) a ≡ slice number) (me : i + 1 ≡ n) (at : g ≡ (pool s).generation) where
      abbrev new : Pending
      new = record { seat = s; generation = (pool s).generation; number = number; content = c }

      abbrev more : ℕ → List Pending
      more = but_at owing i (owing i ++ new ∷ [])

      abbrev then : Dues
      then = dues_after n s g (by_desk (offer user len source must c)) (slice number) k

      never : (size : ℕ) → IsOwed (pool s).generation number size (pool s) → ⊥
      never = (owed_begins (pool s) user len source number must c (ap (answer (pool s)) (sym is) ∙ placed)).1

      -- no other is of that slice
      same : (e : Pending) → IsDue pool e → e.generation ≡ (pool e.seat).generation → then e.seat e.number ≡ k e.seat e.number
      same e here before = go (s == e.seat) refl (number == e.number) refl
        where
          go : (x : Bool) → (s == e.seat) ≡ x → (y : Bool) → (number == e.number) ≡ y
              → elim x [ true ↦ cond y (Some (record { pass = n; generation = g; content = c })) (k e.seat e.number) | false ↦ k e.seat e.number ] ≡ k e.seat e.number
          go false f y z = refl
          go true f false z = refl
          go true f true z =
              let seat : e.seat ≡ s = sym (eqb-true s e.seat f) in
              absurd (never (length e.content.image) (subst (λ (x : ℕ × ℕ × ℕ). IsOwed x.0 x.1 (length e.content.image) (pool x.2))
              (λ t. ((before ∙ ap (λ z. (pool z).generation) seat) t, sym (eqb-true number e.number z) t, seat t)) here))

      is_new : then s number ≡ Some (due_of i new)
      is_new =
          ap (λ b. elim b [ true ↦ cond (number == number) (Some (record { pass = n; generation = g; content = c })) (k s number) | false ↦ k s number ]) (eq-eqb s s refl)
          ∙ ap (λ b. cond b (Some (record { pass = n; generation = g; content = c })) (k s number)) (eq-eqb number number refl)
          ∙ ap (λ j. Some (record { pass = j; generation = g; content = c })) (sym me) ∙ ap (λ z. Some (record { pass = i + 1; generation = z; content = c })) at

      pub due_more : AreDueOf pool' more then
      due_more = each (λ j ys. AllByRecursion (IsDueOf pool' then j) ys) owing i (owing i ++ new ∷ [])
          (all_of_append (IsDueOf pool' then i) (owing i) (new ∷ []) (all_stay then i same) ((λ now. is_new), tt))
          (λ j ne. all_stay then j same)
