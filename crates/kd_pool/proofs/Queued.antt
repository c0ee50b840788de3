-- What the queue keeps through each change of the table.
use Rattle.std.specs.Prelude.{◌≡◌, ◌+◌, ◌||◌, ◌++◌, ℕ, ℤ, Bool, true, false, cond, not, List, [], ◌∷◌, map, Option, Some, None, IfSome, option_map, refl}
use Rattle.std.specs.List.{AllByRecursion, IsDistinct, find}
use Rattle.std.proofs.Common.{ap, arith, eqb, sym, ◌∙◌}
use Rattle.std.proofs.lemmas.Bool.{false≢true}
use Rattle.std.proofs.lemmas.Bool.Decides.{nat_tests}
use Rattle.std.proofs.lemmas.List.{map-append}
use Rattle.kd_model.proofs.Lists.{all_both, all_follow, all_of_filter, all_of_put, found_passes, map_of_filter}
use Rattle.kd_model.specs.Words.{but_those, in_order, is_empty, put_in_order, some_of, those}
use Rattle.kd_queue.specs.Order.{entry_number, has_entry, is_entry_of, next_entry}
use Rattle.kd_queue.specs.declared.entry.Entry.{Entry}
use Rattle.kd_acts.specs.Arriving.{IsBefore}
use Rattle.kd_acts.specs.State.{entry_of, is_earlier, is_freed, is_reserved, is_waiting, lies_lower, queue_of, slot_numbered, waiting_slots}
use Rattle.kd_acts.specs.Steps.{free_refusal, in_phase, next, now_queued, queued_slot}
use Rattle.kd_acts.specs.declared.slot.Phase.{Phase}
use Rattle.kd_acts.specs.declared.slot.Phase.TheVariants.{Freed, Handed, Peeked, Queued, Reserved}
use Rattle.kd_acts.specs.declared.slot.Slot.{Slot}
use Rattle.kd_acts.proofs.Apart.{AreApart, each_found}
use Rattle.kd_acts.proofs.Arrivals.{all_of_waiting, all_wait, before_of_phase, before_of_queued, next_queued, queue_is_empty, queue_of_phase, waiting_of_drained, waiting_of_handed, waiting_of_put, waiting_of_queued, waiting_of_swept, waiting_without}
use Rattle.kd_acts.proofs.Cases.{refused_by}
use Rattle.kd_acts.proofs.Handing.{next_waits}
use Rattle.kd_acts.proofs.Receives.{all_of_next}
use Rattle.kd_pool.specs.Table.{AreQueued, WaitsAsBefore, number_waits}

-- ---- the changes

pub queued_none : (now : ℕ) → AreQueued [] [] now
queued_none now = record { order = refl; before = tt }

-- with one more that doesn't wait
pub queued_put : (t : Slot) (ss : List Slot) (q : List Entry) (now : ℕ) → is_waiting t ≡ false → AreQueued ss q now → AreQueued (put_in_order lies_lower t ss) q now
queued_put t ss q now out a = record {
  order = a.order ∙ ap (map entry_of) (sym (waiting_of_put lies_lower t ss out));
  before = all_of_put (IsBefore now) lies_lower t ss (λ e. absurd (false≢true (sym out ∙ e))) a.before;
}

-- without the freed ones
pub queued_swept : (ss : List Slot) (q : List Entry) (now : ℕ) → AreQueued ss q now → AreQueued (but_those is_freed ss) q now
queued_swept ss q now a = record {
  order = a.order ∙ ap (map entry_of) (sym (waiting_of_swept ss));
  before = all_of_filter (IsBefore now) (λ s. not (is_freed s)) ss a.before;
}

-- without those that wait
pub queued_drained : (ss : List Slot) (q : List Entry) (now : ℕ) → AreQueued ss q now → AreQueued (but_those is_waiting ss) [] now
queued_drained ss q now a = record {
  order = ap (map entry_of) (sym (waiting_of_drained ss));
  before = all_of_filter (IsBefore now) (λ s. not (is_waiting s)) ss a.before;
}

-- the entry of a number goes with its slot
entries_without : (n : ℕ) (ss : List Slot) → but_those (is_entry_of n) (map entry_of ss) ≡ map entry_of (but_those (slot_numbered n) ss)
entries_without n ss = sym (map_of_filter entry_of (λ s. not (slot_numbered n s)) (λ e. not (is_entry_of n e)) (λ s. refl) ss)

-- without the slot of a number
pub queued_without : (n : ℕ) (ss : List Slot) (q : List Entry) (now : ℕ) → AreQueued ss q now → AreQueued (but_those (slot_numbered n) ss) (but_those (is_entry_of n) q) now
queued_without n ss q now a = record {
  order = ap (but_those (is_entry_of n)) a.order ∙ entries_without n (waiting_slots ss) ∙ ap (map entry_of) (sym (waiting_without n ss));
  before = all_of_filter (IsBefore now) (λ s. not (slot_numbered n s)) ss a.before;
}

-- with the slot of a number handed over
pub queued_handed : (n : ℕ) (ss : List Slot) (q : List Entry) (now : ℕ) → AreQueued ss q now → AreQueued (map (in_phase Handed n) ss) (but_those (is_entry_of n) q) now
queued_handed n ss q now a = record {
  order = ap (but_those (is_entry_of n)) a.order ∙ entries_without n (waiting_slots ss) ∙ ap (map entry_of) (sym (waiting_of_handed n ss));
  before = before_of_phase Handed n now ss (all_follow _ _ ss (λ s b h w. absurd (false≢true w)) a.before) a.before;
}

-- with a reserved one queued
pub queued_more : (n : ℕ) (priority : ℤ) (ss : List Slot) (q after : List Entry) (t : Slot) (now : ℕ) → AreApart ss → find (slot_numbered n) ss ≡ Some t → is_reserved t ≡ true → after ≡ q ++ (let e : Entry = record { number = n; priority = priority } in e) ∷ []
    → AreQueued ss q now → AreQueued (map (now_queued n priority now) ss) after (now + 1)
queued_more n priority ss q after t now d f r e a =
    let number : t.number ≡ n = let found = found_passes (slot_numbered n) ss t f in grind (arith, nat_tests) in
    record {
      order =
          e ∙ ap (λ xs. xs ++ (let e : Entry = record { number = n; priority = priority } in e) ∷ []) a.order
          ∙ ap (λ k. queue_of ss ++ (let e : Entry = record { number = k; priority = priority } in e) ∷ []) (sym number)
          ∙ sym (map-append entry_of (waiting_slots ss) (queued_slot priority now t ∷ []))
          ∙ ap (map entry_of) (sym (waiting_of_queued n priority now ss t d a.before f r));
      before = before_of_queued n priority now ss a.before;
    }

-- ---- the slot of a number

-- no other slot has its number
only_found : (n : ℕ) (t : Slot) (ss : List Slot) → AreApart ss → find (slot_numbered n) ss ≡ Some t → AllByRecursion (λ (s : Slot). slot_numbered n s ≡ true → s ≡ t) ss
unfolding IsDistinct
only_found n t [] d f = tt
only_found n t (s ∷ ss) d f = go (slot_numbered n s) refl f (only_found n t ss d.1)
  where
    go : (b : Bool) → slot_numbered n s ≡ b → cond b (Some s) (find (slot_numbered n) ss) ≡ Some t
        → (find (slot_numbered n) ss ≡ Some t → AllByRecursion (λ (x : Slot). slot_numbered n x ≡ true → x ≡ t) ss)
        → AllByRecursion (λ (x : Slot). slot_numbered n x ≡ true → x ≡ t) (s ∷ ss)
    go true e f more =
        let same : s ≡ t = cc in
        (λ h. same, all_follow _ _ ss (λ (x : Slot) apart h. absurd (let out : slot_numbered n x ≡ false = grind (arith, nat_tests) in false≢true (sym out ∙ h))) d.0)
    go false e f more = (λ h. absurd (false≢true (sym e ∙ h)), more f)

-- a number that waits is that of a slot that does
pub one_waits : (n : ℕ) (ss : List Slot) → number_waits n ss ≡ true → (t : Slot) × (find (slot_numbered n) ss ≡ Some t) × (is_waiting t ≡ true)
one_waits n ss h = go (find (slot_numbered n) ss) refl h
  where
    go : (o : Option Slot) → find (slot_numbered n) ss ≡ o → elim o [ None ↦ false | Some s ↦ is_waiting s ] ≡ true → (t : Slot) × (find (slot_numbered n) ss ≡ Some t) × (is_waiting t ≡ true)
    go None e h = absurd (false≢true h)
    go (Some t) e h = (t, e, h)

-- it is among the slots
pub waiting_among : (n : ℕ) (ss : List Slot) → number_waits n ss ≡ true → some_of (slot_numbered n) ss ≡ true
waiting_among n [] h = absurd (false≢true h)
waiting_among n (s ∷ ss) h = go (slot_numbered n s) h (waiting_among n ss)
  where
    go : (b : Bool) → elim (cond b (Some s) (find (slot_numbered n) ss)) [ None ↦ false | Some s ↦ is_waiting s ] ≡ true → (number_waits n ss ≡ true → some_of (slot_numbered n) ss ≡ true) → (b || some_of (slot_numbered n) ss) ≡ true
    go true h more = refl
    go false h more = more h

-- looked at, it waits on
pub peeked_waits : (n : ℕ) (ss : List Slot) → number_waits n ss ≡ true → WaitsAsBefore Peeked n ss
peeked_waits n ss h = go (find (slot_numbered n) ss) h
  where
    go : (o : Option Slot) → elim o [ None ↦ false | Some s ↦ is_waiting s ] ≡ true → IfSome o (λ s. is_waiting (record s { phase = Peeked }) ≡ is_waiting s)
    go None h = tt
    go (Some t) h = sym h

-- what may be freed doesn't wait
pub freed_waits : (n : ℕ) (ss : List Slot) → free_refusal n ss ≡ None → WaitsAsBefore Freed n ss
unfolding free_refusal
freed_waits n ss h = go (find (slot_numbered n) ss) h
  where
    by_phase : (t : Slot) (phase : Phase) → t.phase ≡ phase → refused_by (Some (record t { phase = phase })) ≡ None → is_waiting t ≡ false
    by_phase t Reserved e h = absurd cc
    by_phase t Queued e h = absurd cc
    by_phase t Peeked e h = absurd cc
    by_phase t Handed e h = ap (λ ph. is_waiting (record t { phase = ph })) e
    by_phase t Freed e h = absurd cc

    go : (o : Option Slot) → refused_by o ≡ None → IfSome o (λ s. is_waiting (record s { phase = Freed }) ≡ is_waiting s)
    go None h = tt
    go (Some t) h = sym (by_phase t t.phase refl h)

none_found : (n : ℕ) (ss : List Slot) → find (slot_numbered n) ss ≡ None → AllByRecursion (λ (s : Slot). slot_numbered n s ≡ false) ss
none_found n [] e = tt
none_found n (s ∷ ss) e = go (slot_numbered n s) refl e (none_found n ss)
  where
    go : (b : Bool) → slot_numbered n s ≡ b → cond b (Some s) (find (slot_numbered n) ss) ≡ None → (find (slot_numbered n) ss ≡ None → AllByRecursion (λ (x : Slot). slot_numbered n x ≡ false) ss)
        → AllByRecursion (λ (x : Slot). slot_numbered n x ≡ false) (s ∷ ss)
    go true f e more = absurd cc
    go false f e more = (f, more e)

-- so does each slot of the number
each_as_before : (phase : Phase) (n : ℕ) (ss : List Slot) → AreApart ss → WaitsAsBefore phase n ss
    → AllByRecursion (λ (s : Slot). slot_numbered n s ≡ true → is_waiting (record s { phase = phase }) ≡ is_waiting s) ss
each_as_before phase n ss d w = go (find (slot_numbered n) ss) refl w
  where
    go : (o : Option Slot) → find (slot_numbered n) ss ≡ o → IfSome o (λ s. is_waiting (record s { phase = phase }) ≡ is_waiting s)
        → AllByRecursion (λ (s : Slot). slot_numbered n s ≡ true → is_waiting (record s { phase = phase }) ≡ is_waiting s) ss
    go None e w = all_follow _ _ ss (λ (s : Slot) out h. absurd (false≢true (sym out ∙ h))) (none_found n ss e)
    go (Some t) e w = all_follow _ _ ss (λ (s : Slot) same h. ap (λ (x : Slot). is_waiting (record x { phase = phase })) (same h) ∙ w ∙ sym (ap is_waiting (same h))) (only_found n t ss d e)

-- with it in a phase in which it waits as it did
pub queued_phase : (phase : Phase) (n : ℕ) (ss : List Slot) (q : List Entry) (now : ℕ) → AreApart ss → WaitsAsBefore phase n ss → AreQueued ss q now → AreQueued (map (in_phase phase n) ss) q now
queued_phase phase n ss q now d w a =
    let each = each_as_before phase n ss d w in
    record {
      order = a.order ∙ sym (queue_of_phase phase n ss each);
      before = before_of_phase phase n now ss (all_follow _ _ ss (λ s h e f. sym (h e) ∙ f) each) a.before;
    }

-- ---- its entry

any_of_put : (p : Slot → Bool) (s : Slot) (ss : List Slot) → some_of p (put_in_order is_earlier s ss) ≡ (p s || some_of p ss)
any_of_put p s [] = refl
any_of_put p s (t ∷ ts) = go (is_earlier s t) (any_of_put p s ts)
  where
    swap : (a b c : Bool) → (a || (b || c)) ≡ (b || (a || c))
    swap true true c = refl
    swap true false c = refl
    swap false b c = refl

    go : (b : Bool) → some_of p (put_in_order is_earlier s ts) ≡ (p s || some_of p ts) → some_of p (elim b as (λ b. List Slot) [ true ↦ s ∷ t ∷ ts | false ↦ t ∷ put_in_order is_earlier s ts ]) ≡ (p s || (p t || some_of p ts))
    go true h = refl
    go false h = ap (λ b. p t || b) h ∙ swap (p t) (p s) (some_of p ts)

any_in_order : (p : Slot → Bool) (ss : List Slot) → some_of p (in_order is_earlier ss) ≡ some_of p ss
any_in_order p [] = refl
any_in_order p (s ∷ ss) = any_of_put p s (in_order is_earlier ss) ∙ ap (λ b. p s || b) (any_in_order p ss)

-- an entry has the number where a slot does
entry_of_one : (n : ℕ) (ss : List Slot) → has_entry n (map entry_of ss) ≡ some_of (λ (s : Slot). eqb n s.number) ss
entry_of_one n [] = refl
entry_of_one n (s ∷ ss) = ap (λ b. eqb n s.number || b) (entry_of_one n ss)

-- what waits has an entry
pub waiting_has_entry : (n : ℕ) (ss : List Slot) (q : List Entry) (now : ℕ) → AreQueued ss q now → number_waits n ss ≡ true → has_entry n q ≡ true
waiting_has_entry n ss q now a h = ap (has_entry n) a.order ∙ entry_of_one n (waiting_slots ss) ∙ any_in_order (λ (s : Slot). eqb n s.number) (those is_waiting ss) ∙ one ss h
  where
    one : (xs : List Slot) → number_waits n xs ≡ true → some_of (λ (s : Slot). eqb n s.number) (those is_waiting xs) ≡ true
    one [] h = absurd (false≢true h)
    one (x ∷ xs) h = go (slot_numbered n x) refl h (one xs)
      where
        rest : List Slot
        rest = those is_waiting xs

        more : (w : Bool) → some_of (λ (s : Slot). eqb n s.number) rest ≡ true → some_of (λ (s : Slot). eqb n s.number) (cond w (x ∷ rest) rest) ≡ true
        more true h = go (eqb n x.number)
          where
            go : (b : Bool) → (b || some_of (λ (s : Slot). eqb n s.number) rest) ≡ true
            go true = refl
            go false = h
        more false h = h

        go : (b : Bool) → slot_numbered n x ≡ b → elim (cond b (Some x) (find (slot_numbered n) xs)) [ None ↦ false | Some s ↦ is_waiting s ] ≡ true
            → (number_waits n xs ≡ true → some_of (λ (s : Slot). eqb n s.number) rest ≡ true)
            → some_of (λ (s : Slot). eqb n s.number) (cond (is_waiting x) (x ∷ rest) rest) ≡ true
        go true e h later =
            let own : eqb n x.number ≡ true = grind (arith, nat_tests) in
            ap (λ w. some_of (λ (s : Slot). eqb n s.number) (cond w (x ∷ rest) rest)) h ∙ ap (λ b. b || some_of (λ (s : Slot). eqb n s.number) rest) own
        go false e h later = more (is_waiting x) (later h)

-- what is reserved has none
pub reserved_has_none : (n : ℕ) (ss : List Slot) (q : List Entry) (t : Slot) (now : ℕ) → AreApart ss → find (slot_numbered n) ss ≡ Some t → is_reserved t ≡ true → AreQueued ss q now → has_entry n q ≡ false
reserved_has_none n ss q t now d f r a = ap (has_entry n) a.order ∙ entry_of_one n (waiting_slots ss) ∙ none (waiting_slots ss) (all_both _ _ _ (waiting_slots ss) apart (all_of_waiting _ ss (only_found n t ss d f)) (all_wait ss))
  where
    out : (s : Slot) → is_reserved s ≡ true → is_waiting s ≡ false
    out s e = go s.phase e
      where
        go : (phase : Phase) → is_reserved (record s { phase = phase }) ≡ true → is_waiting (record s { phase = phase }) ≡ false
        go Reserved e = refl
        go Queued e = absurd (false≢true e)
        go Peeked e = absurd (false≢true e)
        go Handed e = refl
        go Freed e = refl

    apart : (s : Slot) → (slot_numbered n s ≡ true → s ≡ t) → is_waiting s ≡ true → eqb n s.number ≡ false
    apart s same w = go (slot_numbered n s) refl
      where
        go : (b : Bool) → slot_numbered n s ≡ b → eqb n s.number ≡ false
        go true e = absurd (false≢true (sym (out t r) ∙ ap is_waiting (sym (same e)) ∙ w))
        go false e = grind (arith, nat_tests)

    none : (ws : List Slot) → AllByRecursion (λ (s : Slot). eqb n s.number ≡ false) ws → some_of (λ (s : Slot). eqb n s.number) ws ≡ false
    none [] a = refl
    none (w ∷ ws) a = ap (λ b. b || some_of (λ (s : Slot). eqb n s.number) ws) a.0 ∙ none ws a.1

-- ---- the one that is next

-- one waits exactly where the queue isn't empty
pub waits_by_queue : (ss : List Slot) (q : List Entry) (now : ℕ) → AreQueued ss q now → not (is_empty q) ≡ some_of is_waiting ss
waits_by_queue ss q now a = ap (λ q. not (is_empty q)) a.order ∙ ap not (queue_is_empty ss) ∙ twice (some_of is_waiting ss)
  where
    twice : (b : Bool) → not (not b) ≡ b
    twice true = refl
    twice false = refl

-- the queue names it
next_by_queue : (ss : List Slot) (q : List Entry) (now : ℕ) (limit : Option ℤ) → AreQueued ss q now → option_map entry_number (next_entry q limit) ≡ option_map (λ (s : Slot). s.number) (next ss limit)
next_by_queue ss q now limit a = ap (λ q. option_map entry_number (next_entry q limit)) a.order ∙ ap (option_map entry_number) (next_queued ss limit) ∙ go (next ss limit)
  where
    go : (o : Option Slot) → option_map entry_number (option_map entry_of o) ≡ option_map (λ (s : Slot). s.number) o
    go None = refl
    go (Some s) = refl

-- it is found by its number, and waits
next_found : (ss : List Slot) (limit : Option ℤ) (s : Slot) → AreApart ss → next ss limit ≡ Some s → find (slot_numbered s.number) ss ≡ Some s
next_found ss limit s d e = all_of_next (λ (s : Slot). find (slot_numbered s.number) ss ≡ Some s) ss limit s (each_found ss d) e

pub next_number_waits : (ss : List Slot) (limit : Option ℤ) (s : Slot) → AreApart ss → next ss limit ≡ Some s → number_waits s.number ss ≡ true
next_number_waits ss limit s d e = ap (λ o. elim o [ None ↦ false | Some s ↦ is_waiting s ]) (next_found ss limit s d e) ∙ next_waits ss limit s e

-- none is next where the queue names none
pub named_none : (ss : List Slot) (q : List Entry) (now : ℕ) (limit : Option ℤ) → AreQueued ss q now → option_map entry_number (next_entry q limit) ≡ None → None ≡ next ss limit
named_none ss q now limit a e = go (next ss limit) (sym (next_by_queue ss q now limit a) ∙ e)
  where
    go : (o : Option Slot) → option_map (λ (s : Slot). s.number) o ≡ None → None ≡ o
    go None e = refl
    go (Some s) e = cc

-- the one that it names is found
pub named_found : (ss : List Slot) (q : List Entry) (now : ℕ) (limit : Option ℤ) (n : ℕ) → AreApart ss → AreQueued ss q now → option_map entry_number (next_entry q limit) ≡ Some n
    → find (slot_numbered n) ss ≡ next ss limit
named_found ss q now limit n d a e = go (next ss limit) refl (sym (next_by_queue ss q now limit a) ∙ e)
  where
    go : (o : Option Slot) → next ss limit ≡ o → option_map (λ (s : Slot). s.number) o ≡ Some n → find (slot_numbered n) ss ≡ next ss limit
    go None e h = cc
    go (Some s) e h = let same : s.number ≡ n = cc in ap (λ k. find (slot_numbered k) ss) (sym same) ∙ next_found ss limit s d e ∙ sym e
