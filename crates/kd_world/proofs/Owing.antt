-- What is owed: offers that were placed and aren't published. Each has its slice while its pool has
-- the same generation, and no two are of one slice.
use Rattle.std.specs.Prelude.{◌≡◌, ◌≢◌, ◌<◌, ◌≤◌, ◌+◌, ◌==◌, ◌&&◌, ℕ, Bool, true, false, cond, List, [], ◌∷◌, ◌++◌, length, get_or, set, refl, Some}
use Rattle.std.specs.List.{AllByRecursion, count_by, find}
use Rattle.std.proofs.Common.{ap, sym, subst, ◌∙◌, arith, eq-eqb, eqb-true}
use Rattle.std.proofs.lemmas.Bool.{and_parts, false≢true}
use Rattle.std.proofs.lemmas.List.{get_or_past}
use Rattle.std.proofs.lemmas.List.Sums.{sum_by-append, sum_by-cons}
use mathlib.Core.Logic.{dite}
use native.Mathlib.Decide.{dec_le}
use Rattle.kd_model.proofs.Lists.{all_both, all_follow, all_of_append}
use Rattle.kd_acts.specs.State.{Act, Content, Hold, by_desk, offer, publish, slice}
use Rattle.kd_acts.specs.Steps.{after, answer, closed_answer, pool_step}
use Rattle.kd_acts.specs.Lasting.{AreNumbered}
use Rattle.kd_acts.proofs.Reserved.{IsOwed, generation_stays, owed_begins, owed_stays, takes, turns}
use Rattle.kd_world.specs.State.{Pending, closed_pool}
use Rattle.kd_world.specs.Callers.{without_first}
use Rattle.kd_world.proofs.Agreeing.{but_at, each, here, there}
use Rattle.kd_world.proofs.Acts.{set_nowhere, set_pool}
use Rattle.kd_model.proofs.Truth.{not_true}

-- of the same slice in the same generation
abbrev pub is_like : Pending → Pending → Bool
is_like a b = a.seat == b.seat && (a.generation == b.generation && a.number == b.number)

-- how many are
abbrev pub like : Pending → List Pending → ℕ
like a xs = count_by (is_like a) xs

abbrev one_if : Bool → ℕ
one_if b = cond b 1 0

-- while the pool has its generation, its slice is reserved for as many bytes
abbrev pub IsDueIn : Pending → Hold → Type 0
IsDueIn e h = IsOwed e.generation e.number (length e.content.image) h

abbrev pub IsDue : (ℕ → Hold) → Pending → Type 0
IsDue pool e = IsDueIn e (pool e.seat)

-- by the pools, and what each caller owes
pub record Owes (pool : ℕ → Hold) (owing : ℕ → List Pending) : Type 0 where
  pub due : (i : ℕ) → AllByRecursion (IsDue pool) (owing i)
  pub once : (e : Pending) (i j : ℕ) → i ≢ j → like e (owing i) + like e (owing j) ≤ 1

pub with_owing : (pool : ℕ → Hold) (owing owing' : ℕ → List Pending) → ((i : ℕ) → owing i ≡ owing' i) → Owes pool owing → Owes pool owing'
with_owing pool owing owing' same = subst (Owes pool) (λ t i. same i t)

-- ---- counts

count_cons : (e x : Pending) (xs : List Pending) → like e (x ∷ xs) ≡ one_if (is_like e x) + like e xs
count_cons e x xs = sum_by-cons (λ x. one_if (is_like e x)) x xs

count_append : (e : Pending) (xs ys : List Pending) → like e (xs ++ ys) ≡ like e xs + like e ys
count_append e xs ys = sum_by-append (λ x. one_if (is_like e x)) xs ys

-- where none is like it
none_counted : (e : Pending) (xs : List Pending) → AllByRecursion (λ x. is_like e x ≡ false) xs → like e xs ≡ 0
none_counted e [] a = refl
none_counted e (x ∷ xs) a =
    let f = count_cons e x xs in
    let g : one_if (is_like e x) ≡ 0 = ap one_if a.0 in
    let h = none_counted e xs a.1 in
    omega (arith, f, g, h)

counted_none : (e : Pending) (xs : List Pending) → like e xs ≡ 0 → AllByRecursion (λ x. is_like e x ≡ false) xs
counted_none e [] n = tt
counted_none e (x ∷ xs) n = go (is_like e x) refl (sym (count_cons e x xs) ∙ n) (counted_none e xs)
  where
    go : (b : Bool) → is_like e x ≡ b → one_if b + like e xs ≡ 0 → (like e xs ≡ 0 → AllByRecursion (λ x. is_like e x ≡ false) xs)
        → (is_like e x ≡ false) × AllByRecursion (λ x. is_like e x ≡ false) xs
    go false f m later = (f, later (omega (arith, m)))
    go true f m later = absurd (omega (arith, m))

-- the same seat, generation and number
abbrev AreSame : Pending → Pending → Type 0
AreSame a b = (a.seat ≡ b.seat) × (a.generation ≡ b.generation) × (a.number ≡ b.number)

like_same : (a b : Pending) → is_like a b ≡ true → AreSame a b
like_same a b f =
    let x = and_parts (a.seat == b.seat) (a.generation == b.generation && a.number == b.number) f in
    let y = and_parts (a.generation == b.generation) (a.number == b.number) x.1 in
    (eqb-true a.seat b.seat x.0, eqb-true a.generation b.generation y.0, eqb-true a.number b.number y.1)

same_like : (a b : Pending) → AreSame a b → is_like a b ≡ true
same_like a b e = ap (λ t. t && (a.generation == b.generation && a.number == b.number)) (eq-eqb a.seat b.seat e.0)
    ∙ ap (λ t. t && a.number == b.number) (eq-eqb a.generation b.generation e.1) ∙ eq-eqb a.number b.number e.2

-- what is unlike one is unlike another that is like it
unlike_too : (e a x : Pending) → is_like e a ≡ true → is_like a x ≡ false → is_like e x ≡ false
unlike_too e a x f n =
    let s = like_same e a f in
    not_true (is_like e x) (λ g. let t = like_same e x g in false≢true (sym n ∙ same_like a x (sym s.0 ∙ t.0, sym s.1 ∙ t.1, sym s.2 ∙ t.2)))

-- ---- one is taken out of a list

-- a list from which one was taken
pub record IsLess (p : Pending) (xs ys : List Pending) : Type 1 where
  pub kept : (P : Pending → Type 0) → AllByRecursion P xs → AllByRecursion P ys
  pub less : (e : Pending) → like e xs ≡ one_if (is_like e p) + like e ys

pub first_less : (test : Pending → Bool) (p : Pending) (xs zs : List Pending) → find test xs ≡ Some p → IsLess p (xs ++ zs) (without_first test xs ++ zs)
first_less test p [] zs e = absurd cc
first_less test p (x ∷ xs) zs e = go (test x) (first_less test p xs zs) e
  where
    go : (b : Bool) → (find test xs ≡ Some p → IsLess p (xs ++ zs) (without_first test xs ++ zs)) → cond b (Some x) (find test xs) ≡ Some p
        → IsLess p (x ∷ xs ++ zs) (elim b as (λ b. List Pending) [ true ↦ xs | false ↦ x ∷ without_first test xs ] ++ zs)
    go true later e =
        let same : x ≡ p = cc in
        record { kept = λ P a. a.1; less = λ e. count_cons e x (xs ++ zs) ∙ ap (λ y. one_if (is_like e y) + like e (xs ++ zs)) same }
    go false later e =
        let more = later e in
        let rest : List Pending = without_first test xs ++ zs in
        record {
          kept = λ P a. (a.0, more.kept P a.1);
          less = λ e. let h = more.less e in let f = count_cons e x (xs ++ zs) in let g = count_cons e x rest in omega (arith, f, g, h);
        }

-- ---- an act at a pool of a list

closed_places_none : (user len source number : ℕ) (must : Bool) (c : Content) → answer closed_pool (by_desk (offer user len source must c)) ≡ slice number → ⊥
unfolding pool_step closed_answer
closed_places_none user len source number must c e = cc

module _ (pools : List Hold) (numbered : (s : ℕ) → AreNumbered (get_or pools s closed_pool).pool) (s : ℕ) (a : Act) where
  abbrev pool : ℕ → Hold
  pool = λ k. get_or pools k closed_pool

  abbrev now : Hold
  now = after (pool s) a

  abbrev pub pool' : ℕ → Hold
  pool' = λ k. get_or (set pools s now) k closed_pool

  -- what it doesn't publish is due after it
  still_due : (e : Pending) → (e.seat ≡ s → takes e.generation e.number a ≡ false) → IsDue pool e → IsDue pool' e
  still_due e free w = dite (dec_le (length pools) s)
      (λ le. subst (IsDueIn e) (sym (set_nowhere pools s now le e.seat)) w)
      (λ gt. subst (IsDueIn e) (sym (set_pool pools s now (omega (arith, gt)) e.seat))
      (each (λ k h. IsDueIn e (pool k) → (k ≡ s → takes e.generation e.number a ≡ false) → IsDueIn e h) pool s now
      (λ w free. owed_stays (pool s) a e.generation e.number (length e.content.image) (numbered s) (free refl) w) (λ k ne w free. w) e.seat w free))

  -- one that ends no generation
  pub same_generations : turns a ≡ false → (k : ℕ) → (pool' k).generation ≡ (pool k).generation
  same_generations t k = dite (dec_le (length pools) s)
      (λ le. ap (λ (h : Hold). h.generation) (set_nowhere pools s now le k))
      (λ gt. ap (λ (h : Hold). h.generation) (set_pool pools s now (omega (arith, gt)) k)
      ∙ each (λ k h. h.generation ≡ (pool k).generation) pool s now (generation_stays (pool s) a t) (λ k ne. refl) k)

  module _ (owing : ℕ → List Pending) (r : Owes pool owing) where
    -- an act that publishes nothing
    all_due : ((g n : ℕ) → takes g n a ≡ false) → (i : ℕ) → AllByRecursion (IsDue pool') (owing i)
    all_due free i = all_follow (IsDue pool) (IsDue pool') (owing i) (λ e w. still_due e (λ _. free e.generation e.number) w) (r.due i)

    pub owes_still : ((g n : ℕ) → takes g n a ≡ false) → Owes pool' owing
    owes_still free = record { due = all_due free; once = r.once }

    -- one is published
    module _ (i : ℕ) (p : Pending) (xs : List Pending) (less : IsLess p (owing i) xs) (at : p.seat ≡ s) (is : a ≡ publish p.generation p.number p.content) where
      abbrev fewer : ℕ → List Pending
      fewer = but_at owing i xs

      unlike : (e : Pending) → is_like p e ≡ false → e.seat ≡ s → takes e.generation e.number a ≡ false
      unlike e f z =
          ap (takes e.generation e.number) is
          ∙ sym (ap (λ b. b && (p.generation == e.generation && p.number == e.number)) (eq-eqb p.seat e.seat (at ∙ sym z))) ∙ f

      one : like p (owing i) ≡ 1 + like p xs
      one = less.less p ∙ ap (λ b. one_if b + like p xs) (same_like p p (refl, refl, refl))

      -- no other is like it
      none : (j : ℕ) → like p (fewer j) ≡ 0
      none = each (λ j ys. like p ys ≡ 0) owing i xs (omega (arith, one, r.once p i (i + 1) (λ z. omega (arith, z))))
          (λ j ne. omega (arith, one, r.once p j i ne))

      rest : (j : ℕ) → AllByRecursion (IsDue pool) (fewer j)
      rest = each (λ j ys. AllByRecursion (IsDue pool) ys) owing i xs (less.kept (IsDue pool) (r.due i)) (λ j ne. r.due j)

      no_more : (e : Pending) (j : ℕ) → like e (fewer j) ≤ like e (owing j)
      no_more e = each (λ j ys. like e ys ≤ like e (owing j)) owing i xs (omega (arith, less.less e)) (λ j ne. omega arith)

      pub owes_less : Owes pool' fewer
      owes_less = record {
        due = λ j. all_both (λ e. is_like p e ≡ false) (IsDue pool) (IsDue pool') (fewer j)
            (λ e f w. still_due e (unlike e f) w) (counted_none p (fewer j) (none j)) (rest j);
        once = λ e j k ne. omega (arith, r.once e j k ne, no_more e j, no_more e k);
      }

    -- one more is placed
    module _ (i user len source number : ℕ) (must : Bool) (c : Content) (is : a ≡ by_desk (offer user len source must c))
        (placed : answer (pool s) a ≡ slice number) (fits : len ≡ length c.image) where
      abbrev new : Pending
      new = record { seat = s; generation = (pool s).generation; number = number; content = c }

      abbrev more : ℕ → List Pending
      more = but_at owing i (owing i ++ new ∷ [])

      abbrev Begins : Act → Type 0
      Begins b = IsOwed (pool s).generation number len (after (pool s) b) × ((size : ℕ) → IsOwed (pool s).generation number size (pool s) → ⊥)

      begins : Begins a
      begins = subst Begins (sym is) (owed_begins (pool s) user len source number must c (ap (answer (pool s)) (sym is) ∙ placed))

      low : s < length pools
      low = dite (dec_le (length pools) s)
          (λ le. absurd (closed_places_none user len source number must c
          (ap (answer closed_pool) (sym is) ∙ ap (λ h. answer h a) (sym (get_or_past pools s closed_pool le)) ∙ placed)))
          (λ gt. omega (arith, gt))

      is_due : IsDue pool' new
      is_due = subst (IsDueIn new) (sym (set_pool pools s now low s ∙ here pool s now)) (subst (λ n. IsOwed (pool s).generation number n now) fits begins.0)

      -- nothing was owed of its slice
      unlike_new : (e : Pending) → IsDue pool e → is_like new e ≡ false
      unlike_new e w = not_true (is_like new e) (λ f. let t = like_same new e f in begins.1 (length e.content.image)
          (subst (λ (x : ℕ × ℕ × ℕ). IsOwed x.0 x.1 (length e.content.image) (pool x.2)) (λ k. (sym t.1 k, sym t.2 k, sym t.0 k)) w))

      none_before : (e : Pending) (j : ℕ) → is_like e new ≡ true → like e (owing j) ≡ 0
      none_before e j f =
          none_counted e (owing j) (all_follow (IsDue pool) (λ x. is_like e x ≡ false) (owing j) (λ x w. unlike_too e new x f (unlike_new x w)) (r.due j))

      -- it counts once
      abbrev one_at : Pending → ℕ → ℕ
      one_at e = but_at (λ _. 0) i (one_if (is_like e new))

      count_at : (e : Pending) (j : ℕ) → like e (more j) ≡ like e (owing j) + one_at e j
      count_at e = each (λ j ys. like e ys ≡ like e (owing j) + one_at e j) owing i (owing i ++ new ∷ [])
          (let nothing : like e [] ≡ 0 = refl in
          omega (arith, count_append e (owing i) (new ∷ []), count_cons e new [], nothing, here (λ _. 0) i (one_if (is_like e new))))
          (λ j ne. omega (arith, there (λ _. 0) i j (one_if (is_like e new)) ne))

      at_most : (e : Pending) (j k : ℕ) → j ≢ k → one_at e j + one_at e k ≤ one_if (is_like e new)
      at_most e j k = each (λ j n. j ≢ k → n + one_at e k ≤ one) (λ _. 0) i one
          (λ ne. omega (arith, there (λ _. 0) i k one (λ z. ne (sym z)))) (λ j out ne. low) j
        where
          one : ℕ
          one = one_if (is_like e new)

          low : 0 + one_at e k ≤ one
          low = each (λ k n. 0 + n ≤ one) (λ _. 0) i one (omega arith) (λ k out. omega arith) k

      still_once : (e : Pending) (j k : ℕ) → j ≢ k → like e (more j) + like e (more k) ≤ 1
      still_once e j k ne = go (is_like e new) refl
        where
          go : (b : Bool) → is_like e new ≡ b → like e (more j) + like e (more k) ≤ 1
          go false f = let none : one_if (is_like e new) ≡ 0 = ap one_if f in omega (arith, count_at e j, count_at e k, at_most e j k ne, none, r.once e j k ne)
          go true f =
              let one : one_if (is_like e new) ≡ 1 = ap one_if f in
              omega (arith, count_at e j, count_at e k, at_most e j k ne, one, none_before e j f, none_before e k f)

      pub owes_more : Owes pool' more
      owes_more = record {
        due = each (λ j ys. AllByRecursion (IsDue pool') ys) owing i (owing i ++ new ∷ [])
            (all_of_append (IsDue pool') (owing i) (new ∷ []) (all_due (λ g n. ap (takes g n) is) i) (is_due, tt))
            (λ j ne. all_due (λ g n. ap (takes g n) is) j);
        once = still_once;
      }
