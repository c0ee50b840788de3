-- The holder of the desk takes one turn on a pool.
use Rattle.std.specs.Prelude.{◌≡◌, ◌≢◌, ◌<◌, ◌≤◌, ◌+◌, ◌*◌, ◌-◌, ◌^◌, ◌/◌, ◌%◌, nat_lt, ℕ, zero, suc, ◌==◌, ◌&&◌, true, false, cond, List, [], ◌∷◌, ◌++◌, length, slice_index_or, Option, Some, None, refl}
use Rattle.std.proofs.lemmas.Nat.Bits.{bit_at-zero}
use Rattle.std.proofs.Math.Bool.{and-false}
use Rattle.std.proofs.Common.{sym, ap, ◌∙◌, subst, arith, eq-eqb, ne_eqb}
use mathlib.Core.Logic.{dite}
use native.Mathlib.Decide.{ℕ_discrete}
use mathlib.Core.List.{IsPrefix}
use Rattle.kd_model.specs.Words.{contains}
use Rattle.kd_types.specs.declared.refusal.Refusal.{Refusal}
use Rattle.kd_model.specs.declared.slice_no.TheConstants.{SLICES}
use Rattle.kd_acts.specs.declared.slot.Phase.TheVariants as phase
use Rattle.kd_acts.specs.State.{Content, Hold, Pool, Visit, by_desk, free, raise, slots}
use Rattle.kd_acts.specs.Steps.{after, answer, free_refusal, open_step, pool_step, with_phase}
use Rattle.kd_hands.specs.declared.views.Part.{Part}
use Rattle.kd_hands.specs.declared.views.View.{View}
use Rattle.kd_hands.specs.Views.{part, hand}
use Rattle.kd_hands.specs.Lists.{has_mark, is_at, is_marked, is_word_of, was_swept}
use Rattle.kd_hands.specs.Locks.{Locks, hands_after}
use Rattle.kd_hands.proofs.Entries.{opened_on}
use Rattle.kd_turn.specs.Sight.{GateSight, Sight}
use Rattle.kd_turn.specs.Told.{DidSweep}
use Rattle.kd_holds.specs.Counts.{IsBelow, IsOpenBelow, IsPoolBelow}
use Rattle.kd_holds.proofs.Counting.{weaker_below}
use Rattle.kd_world.specs.State.{closed_pool}
use Rattle.kd_histories.specs.Turns.{Did, Turn, did}
use Rattle.kd_histories.specs.Visits.{visit_at, visits_opened}
use Rattle.kd_histories.specs.Seats.{sitter}
use Rattle.kd_histories.specs.Pairs.{ArePaired, owed}
use Rattle.kd_histories.specs.Pools.{AreDone, AreRising, IsAnswered, IsDone, act_sweeps, four_words, hold_after, hold_freed, hold_met, hold_of, marked_below, marked_numbers, visit_sweeps}
use Rattle.kd_histories.specs.Lent.{empties, hand_after, hand_by, hand_by_act}
use Rattle.kd_histories.specs.Puts.{OwesPut}
use Rattle.kd_histories.proofs.Going.{opened_more}
use Rattle.kd_histories.proofs.Marks.{sweeps_tell}
use Rattle.kd_histories.proofs.Puts.{visits_may_be_put}
use Rattle.kd_bus.specs.declared.locked.Locked.TheVariants as locked
use Rattle.kd_bus.specs.Slips.{words_in}
use Rattle.kd_bus.specs.Values.{stands}
use Rattle.kd_bus.specs.Visited.{HasDesk, HasSwept, OneVisit}
use Rattle.kd_bus.proofs.Owed.{still_owed}
use Rattle.kd_bus.proofs.Alone.{PassedIt, TookIt, pool_more, same_pool}

-- ---- the marks

-- what a sweep tells
pub did_sweep : (l : ℕ) (marks : List ℕ) (v v' : View Turn) → (part v l).swept ≡ [] → DidSweep l marks v v' → HasSwept l true marks v v'
did_sweep l marks v v' bare it =
    let words = words_in marks in
    let told = sweeps_tell words in
    let found : (part v' l).swept ≡ four_words words = ap (λ (p : Part Turn). p.swept) it.here ∙ ap (λ xs. xs ++ four_words words) bare in
    record {
      seen = ap (λ (p : Part Turn). p.seen) it.here;
      own = ap (λ (p : Part Turn). p.own) it.here;
      holds = ap (λ (p : Part Turn). p.holds) it.here;
      frees = λ n. told.1 n ∙ ap (was_swept n) (sym found);
      all = λ _ n lt. ap (is_word_of n) found ∙ told.2 n lt;
      none = λ e. absurd cc;
      others = it.others;
      hands = it.hands;
      turns = it.turns;
      steps = it.steps;
      name = it.name;
      opened = it.opened;
    }

-- no number is marked in words of zeros
none_marked : (k : ℕ) → marked_below k (words_in (0 ∷ 0 ∷ 0 ∷ 0 ∷ [])) ≡ []
unfolding marked_below
none_marked zero = refl
none_marked (suc k) = ap (λ b. marked_below k (words_in (0 ∷ 0 ∷ 0 ∷ 0 ∷ [])) ++ elim b [ true ↦ k ∷ [] | false ↦ [] ]) (off k) ∙ ap (λ xs. xs ++ []) (none_marked k)
  where
    words : ℕ → ℕ
    words = words_in (0 ∷ 0 ∷ 0 ∷ 0 ∷ [])

    zero_at : (q : ℕ) → words q ≡ 0
    zero_at zero = refl
    zero_at (suc zero) = refl
    zero_at (suc (suc zero)) = refl
    zero_at (suc (suc (suc zero))) = refl
    zero_at (suc (suc (suc (suc q)))) = refl

    off : (n : ℕ) → is_marked n words ≡ false
    off n = ap (λ w. nat_lt n 256 && has_mark n w) (zero_at (n / 64)) ∙ (ap (λ b. nat_lt n 256 && (b == 1)) (bit_at-zero (n % 64)) ∙ and-false (nat_lt n 256))

-- and nothing is swept where a visit sweeps nothing
pub no_sweep : (l : ℕ) (v : View Turn) → (part v l).swept ≡ [] → HasSwept l false (0 ∷ 0 ∷ 0 ∷ 0 ∷ []) v v
no_sweep l v bare = record {
  seen = refl;
  own = refl;
  holds = refl;
  frees = λ n. ap (contains n) (none_marked 256) ∙ ap (was_swept n) (sym bare);
  all = λ e. absurd cc;
  none = λ _. none_marked 256;
  others = λ k ne. refl;
  hands = refl;
  turns = refl;
  steps = refl;
  name = refl;
  opened = refl;
}

-- ---- counts

-- a slice that is freed raises none
free_below : (n m : ℕ) (h : Hold) → IsBelow n h → IsBelow n (after h (free m))
unfolding pool_step open_step
free_below n m h b = record { generation = gen h.pool; pool = by h.pool b.pool }
  where
    gen : (o : Option Pool) → (after (record { generation = h.generation; pool = o }) (free m)).generation ≤ n
    gen None = b.generation
    gen (Some p) = b.generation

    given : (p : Pool) (o : Option Refusal) → IsPoolBelow n p → IsPoolBelow n (elim o as (λ o. Pool) [ None ↦ with_phase phase.Freed m p | Some why ↦ p ])
    given p None x = record { arrivals = x.arrivals; misses = x.misses; offers = x.offers }
    given p (Some why) x = x

    by : (o : Option Pool) → IsOpenBelow n o → IsOpenBelow n (after (record { generation = h.generation; pool = o }) (free m)).pool
    by None x = x
    by (Some p) x = given p (free_refusal m (slots p)) x

freed_below : (n : ℕ) (ns : List ℕ) (h : Hold) → IsBelow n h → IsBelow n (hold_freed ns h)
unfolding hold_freed
freed_below n [] h b = b
freed_below n (m ∷ ns) h b = freed_below n ns (after h (free m)) (free_below n m h b)

-- ---- the turn

module _ (s l : ℕ) (at : l ≡ suc s) (p p₁ p₂ : Sight Turn) (h : Hold) (took_l : TookIt l p.view p₁.view (locked.Pool h)) (marks : List ℕ) where
  abbrev v : View Turn
  v = p.view

  abbrev v₁ : View Turn
  v₁ = p₁.view

  abbrev v₂ : View Turn
  v₂ = p₂.view

  took : TookIt (suc s) v v₁ (locked.Pool h)
  took = subst (λ k. TookIt k v v₁ (locked.Pool h)) at took_l

  near : 0 ≢ suc s
  near = λ z. omega arith

  hold_was : hold_of (part v₁ (suc s)).seen ≡ h
  hold_was = same_pool (hold_of (part v₁ (suc s)).seen) h (sym took.value.0)

  was_below : IsBelow (257 * length (part v₁ (suc s)).seen) h
  was_below = subst (IsBelow (257 * length (part v₁ (suc s)).seen)) hold_was took.value.1

  -- no count wraps when the marked slices are freed
  pub counts_low : (h' : Hold) → h' ≡ hold_freed (marked_numbers (words_in marks)) h → IsBelow (2 ^ 63 - 1) h'
  counts_low h' is =
      let short = took.short in
      subst (IsBelow (2 ^ 63 - 1)) (sym is) (weaker_below (257 * length (part v₁ (suc s)).seen) (2 ^ 63 - 1) (hold_freed (marked_numbers (words_in marks)) h) (omega (arith, short))
      (freed_below (257 * length (part v₁ (suc s)).seen) (marked_numbers (words_in marks)) h was_below))

  module _ (vis : Visit) (swept_l : HasSwept l (visit_sweeps vis) marks v₁ v₂) (desk : (part v 0).holds ≡ true) (e : Turn) (d : Did) (says : e ≡ did d) (act : d.act ≡ by_desk vis)
      (free_is : d.freed ≡ marked_numbers (words_in marks)) (gen : d.generation ≡ h.generation) (ans : d.answer ≡ answer (hold_freed d.freed h) (by_desk vis)) where
    swept : HasSwept (suc s) (visit_sweeps vis) marks v₁ v₂
    swept = subst (λ k. HasSwept k (visit_sweeps vis) marks v₁ v₂) at swept_l

    abbrev list : List (ℕ × Turn)
    list = (part v₂ (suc s)).seen

    hold_is : hold_of list ≡ h
    hold_is = ap hold_of swept.seen ∙ hold_was

    done : IsDone (hold_of list) d
    done = subst (λ x. IsDone x d) (sym hold_is) record {
      generation = gen;
      rising = subst (λ ns. AreRising 0 ns 256) (sym free_is) (sweeps_tell (words_in marks)).0;
      sweeps = λ off. free_is ∙ swept.none (ap act_sweeps (sym act) ∙ off);
      answer = subst (λ a. IsAnswered (hold_met d h) a d.answer) (sym act) ans;
    }

    desk_on : (part v₂ 0).holds ≡ true
    desk_on = ap (λ (q : Part Turn). q.holds) (swept.others 0 near ∙ took.others 0 near) ∙ desk

    -- the entry may be put
    pub visit_put : ((size : ℕ) → vis ≡ raise size → sitter s (part v 0).seen ≡ None) → OwesPut v₂ l e
    visit_put none = subst (λ k. OwesPut v₂ k e) (sym at) (subst (OwesPut v₂ (suc s)) (sym says) (visits_may_be_put s vis d v₂ record {
      act = act;
      desk = desk_on;
      held = swept.holds ∙ took.holds;
      is = done;
      frees = λ n. ap (contains n) free_is ∙ swept.frees n;
      raises = λ size is. (ap (λ (q : Part Turn). sitter s q.seen) (swept.others 0 near ∙ took.others 0 near) ∙ none size is, swept.all (ap visit_sweeps is));
    }))

    -- the value is what it leaves
    pub visit_stands : ((n : ℕ) (x : Hold) → IsBelow n x → IsBelow (n + SLICES) (after x (by_desk vis))) → (h' : Hold) → h' ≡ after (hold_freed (marked_numbers (words_in marks)) h) (by_desk vis) → stands l ((part v₂ l).seen ++ (v₂.name, e) ∷ []) (locked.Pool h')
    unfolding hold_after
    visit_stands counts h' is =
        let n : ℕ = length (part v₁ (suc s)).seen in
        let size : SLICES ≡ 256 = refl in
        let long = ap (λ (xs : List (ℕ × Turn)). length xs) swept.seen in
        let low : IsBelow (257 * n + SLICES) (after (hold_freed (marked_numbers (words_in marks)) h) (by_desk vis)) =
        counts (257 * n) (hold_freed (marked_numbers (words_in marks)) h) (freed_below (257 * n) (marked_numbers (words_in marks)) h was_below) in
        let now : hold_after e (hold_of list) ≡ h' = ap (λ t. hold_after t (hold_of list)) says
        ∙ (ap (λ x. after (hold_freed d.freed x) d.act) hold_is
        ∙ (ap (λ ns. after (hold_freed ns h) d.act) free_is ∙ (ap (λ a. after (hold_freed (marked_numbers (words_in marks)) h) a) act ∙ sym is))) in
        subst (λ k. stands k ((part v₂ k).seen ++ (v₂.name, e) ∷ []) (locked.Pool h')) (sym at)
        (pool_more s list (v₂.name, e) h' now
        (subst (IsBelow (257 * length list + 257)) (sym is) (weaker_below (257 * n + SLICES) (257 * length list + 257) (after (hold_freed (marked_numbers (words_in marks)) h) (by_desk vis)) (omega (arith, size, long)) low)))

    hands_none : (hs : List ℕ) → hand_by e hs ≡ hs
    unfolding hand_by
    hands_none hs = ap (λ t. hand_by t hs) says ∙ ap (λ a. hand_by_act a d.answer hs) act

    module _ (p₃ : Sight Turn) (put_l : PassedIt l e v₂ p₃.view) where
      abbrev v₃ : View Turn
      v₃ = p₃.view

      put : PassedIt (suc s) e v₂ v₃
      put = subst (λ k. PassedIt k e v₂ v₃) at put_l

      others : (k : ℕ) → k ≢ suc s → part v₃ k ≡ part v k
      others k ne = put.others k ne ∙ (swept.others k ne ∙ took.others k ne)

      still : (k : ℕ) → hands_after hand_after empties (suc s) e (hand v₂) k ≡ hand v₂ k
      still k = dite (ℕ_discrete k (suc s))
          (λ z. ap (λ b. cond b (hand_by e (hand v₂ (suc s))) (cond ((suc s == 0) && is_at k (empties e)) [] (hand v₂ k))) (eq-eqb k (suc s) z) ∙ (hands_none (hand v₂ (suc s)) ∙ ap (λ (i : ℕ). hand v₂ i) (sym z)))
          (λ ne. ap (λ b. cond b (hand_by e (hand v₂ (suc s))) (cond ((suc s == 0) && is_at k (empties e)) [] (hand v₂ k))) (ne_eqb k (suc s) ne)
          ∙ ap (λ b. cond (b && is_at k (empties e)) [] (hand v₂ k)) (ne_eqb (suc s) 0 (λ z. omega arith)))

      own_more : (part v₃ (suc s)).own ≡ (part v (suc s)).own ++ (v.name, did d) ∷ []
      own_more = ap (λ (q : Part Turn). q.own) put.here ∙ (ap (λ xs. xs ++ (v₂.name, e) ∷ []) (swept.own ∙ took.own)
          ∙ (ap (λ (n : ℕ). (part v (suc s)).own ++ (n, e) ∷ []) (swept.name ∙ took.name) ∙ ap (λ t. (part v (suc s)).own ++ (v.name, t) ∷ []) says))

      -- what was owed still is
      owes : (g n : ℕ) (c : Content) → owed g n (part v (suc s)).own ≡ Some c → owed g n (part v₃ (suc s)).own ≡ Some c
      owes g n c has =
          let w : Locks Turn = took.stood.world in
          let whole : (part v₁ (suc s)).seen ≡ w.told.lists (suc s) = took.stood.fits.whole (suc s) took.holds in
          let tie = took.stood.holds.0 in
          let was : List (ℕ × Turn) = (part v₁ (suc s)).seen in
          ap (owed g n) own_more ∙ still_owed v.name g n c d was (part v (suc s)).own (subst (AreDone closed_pool) (sym whole) (tie.done s)) (subst (ArePaired n None) (sym whole) (tie.paired s n)) took.mine
          (subst (λ xs. IsDone (hold_of xs) d) swept.seen done) has vis act

      -- the visit
      pub one_visit : s < 64 → OneVisit s vis d v v₃
      one_visit low = record {
        low = low;
        list = list;
        act = act;
        is = done;
        begins = subst (IsPrefix (part v (suc s)).seen) (sym swept.seen) took.begins;
        seen = ap (λ (q : Part Turn). q.seen) put.here ∙ (ap (λ (n : ℕ). list ++ (n, e) ∷ []) (swept.name ∙ took.name) ∙ ap (λ t. list ++ (v.name, t) ∷ []) says);
        own = own_more;
        others = others;
        owes = owes;
        opened = λ c. opened_more c s v₂.name d vis v₂.opened v₃.opened act
            (put.opened ∙ (opened_on (suc s) (v₂.name, e) (part v₂ 0).holds v₂.opened (λ z. omega arith) desk_on ∙ ap (λ t. v₂.opened ++ (suc s, v₂.name, t) ∷ []) says))
            ∙ ap (λ xs. visits_opened (suc c) xs ++ visit_at c (record { seat = s; act = vis }) d.answer) (swept.opened ∙ took.opened);
        hands = λ k. put.hands k ∙ (still k ∙ ap (λ hs. slice_index_or hs k []) (swept.hands ∙ took.hands));
        name = put.name ∙ (swept.name ∙ took.name);
        turns = put.turns ∙ (swept.turns ∙ took.turns);
        steps = put.steps ∙ (swept.steps ∙ took.steps);
      }

      -- it still holds the desk alone
      pub desk_still : (gate : GateSight) → HasDesk gate p → p₁.gate ≡ p.gate → p₂.gate ≡ p₁.gate → p₃.gate ≡ p₂.gate → p₁.held ≡ l ∷ p.held → p₂.held ≡ p₁.held → p₂.held ≡ l ∷ p₃.held → HasDesk gate p₃
      desk_still gate has g₁ g₂ g₃ h₁ h₂ h₃ = record {
        same = g₃ ∙ (g₂ ∙ (g₁ ∙ has.same));
        locks = has.locks;
        held = ap rest_of (sym h₃ ∙ (h₂ ∙ h₁)) ∙ has.held;
        desk = ap (λ (q : Part Turn). q.holds) (others 0 near) ∙ desk;
        others = λ k ne. dite (ℕ_discrete k (suc s))
            (λ z. ap (λ (i : ℕ). (part v₃ i).holds) z ∙ ap (λ (q : Part Turn). q.holds) put.here)
            (λ m. ap (λ (q : Part Turn). q.holds) (others k m) ∙ has.others k ne);
      }
        where
          rest_of : List ℕ → List ℕ
          rest_of [] = []
          rest_of (x ∷ xs) = xs
