-- What waits, in order of arrival, through each change of a table.
use Rattle.std.specs.Prelude.{◌≡◌, ◌<◌, ◌≤◌, ◌+◌, ◌||◌, ◌++◌, ℕ, ℤ, Bool, true, false, cond, not, List, [], ◌∷◌, map, Option, Some, option_map, refl}
use Rattle.std.specs.List.{AllByRecursion, IsDistinct, filter, find}
use Rattle.std.proofs.Common.{ap, arith, sym, ◌∙◌}
use Rattle.std.proofs.lemmas.Bool.{false≢true}
use Rattle.std.proofs.lemmas.Bool.Decides.{nat_tests}
use Rattle.kd_model.proofs.Lists.{all_follow, all_of_filter, all_of_put, map_of_put}
use Rattle.kd_model.specs.Words.{but_those, in_order, is_empty, put_in_order, some_of, those}
use Rattle.kd_queue.specs.Order.{next_entry}
use Rattle.kd_queue.proofs.Next.{next_of_map}
use Rattle.kd_acts.specs.Arriving.{IsBefore}
use Rattle.kd_acts.specs.State.{entry_of, is_earlier, is_freed, is_reserved, is_waiting, queue_of, slot_numbered, waiting_slots}
use Rattle.kd_acts.specs.Steps.{in_phase, next, now_queued, queued_slot}
use Rattle.kd_acts.specs.declared.slot.Phase.{Phase}
use Rattle.kd_acts.specs.declared.slot.Phase.TheVariants.{Freed, Handed, Peeked, Queued, Reserved}
use Rattle.kd_acts.specs.declared.slot.Slot.{Slot}
use Rattle.kd_acts.proofs.Apart.{AreApart}

-- a slot in a phase
abbrev slot_in : Slot → Phase → Slot
slot_in s phase = record s { phase = phase }

-- ---- what holds of each

all_in_order : (P : Slot → Type 0) (ss : List Slot) → AllByRecursion P ss → AllByRecursion P (in_order is_earlier ss)
all_in_order P [] a = tt
all_in_order P (s ∷ ss) a = all_of_put P is_earlier s (in_order is_earlier ss) a.0 (all_in_order P ss a.1)

-- what holds of each slot holds of each that waits
pub all_of_waiting : (P : Slot → Type 0) (ss : List Slot) → AllByRecursion P ss → AllByRecursion P (waiting_slots ss)
all_of_waiting P ss a = all_in_order P (those is_waiting ss) (all_of_filter P is_waiting ss a)

-- what passes a filter passes its test, and has what those have that pass it
passing : (test : Slot → Bool) (P : Slot → Type 0) (ss : List Slot) → AllByRecursion (λ s. test s ≡ true → P s) ss → AllByRecursion P (those test ss)
passing test P [] a = tt
passing test P (s ∷ ss) a = go (test s) refl (passing test P ss a.1)
  where
    go : (b : Bool) → test s ≡ b → AllByRecursion P (those test ss) → AllByRecursion P (cond b (s ∷ those test ss) (those test ss))
    go true e rest = (a.0 e, rest)
    go false e rest = rest

each_passes : (test : Slot → Bool) (ss : List Slot) → AllByRecursion (λ s. test s ≡ true → test s ≡ true) ss
each_passes test [] = tt
each_passes test (s ∷ ss) = (λ e. e, each_passes test ss)

-- each that waits does
pub all_wait : (ss : List Slot) → AllByRecursion (λ (s : Slot). is_waiting s ≡ true) (waiting_slots ss)
all_wait ss = all_in_order _ (those is_waiting ss) (passing is_waiting (λ s. is_waiting s ≡ true) ss (each_passes is_waiting ss))

-- ---- slots by rising arrival

abbrev Rise : List Slot → Type 0
Rise [] = Unit {0}
Rise (s ∷ ss) = AllByRecursion (λ (t : Slot). s.arrival ≤ t.arrival) ss × Rise ss

rise_put : (s : Slot) (ss : List Slot) → Rise ss → Rise (put_in_order is_earlier s ss)
rise_put s [] r = (tt, tt)
rise_put s (t ∷ ts) r = go (is_earlier s t) refl (rise_put s ts r.1)
  where
    go : (b : Bool) → is_earlier s t ≡ b → Rise (put_in_order is_earlier s ts) → Rise (elim b [ true ↦ s ∷ t ∷ ts | false ↦ t ∷ put_in_order is_earlier s ts ])
    go true e rest =
        let less : s.arrival ≤ t.arrival = grind (arith, nat_tests) in
        ((less, all_follow (λ (u : Slot). t.arrival ≤ u.arrival) (λ (u : Slot). s.arrival ≤ u.arrival) ts (λ u h. omega (arith, less, h)) r.0), r)
    go false e rest =
        let less : t.arrival ≤ s.arrival = grind (arith, nat_tests) in
        (all_of_put (λ (u : Slot). t.arrival ≤ u.arrival) is_earlier s ts less r.0, rest)

rise_in_order : (ss : List Slot) → Rise (in_order is_earlier ss)
rise_in_order [] = tt
rise_in_order (s ∷ ss) = rise_put s (in_order is_earlier ss) (rise_in_order ss)

-- before slots that are all later
put_first : (s : Slot) (ss : List Slot) → AllByRecursion (λ (t : Slot). is_earlier s t ≡ true) ss → put_in_order is_earlier s ss ≡ s ∷ ss
put_first s [] a = refl
put_first s (t ∷ ts) a = ap (λ b. elim b as (λ b. List Slot) [ true ↦ s ∷ t ∷ ts | false ↦ t ∷ put_in_order is_earlier s ts ]) a.0

-- behind slots that are none of them later
put_last : (s : Slot) (ss : List Slot) → AllByRecursion (λ (t : Slot). is_earlier s t ≡ false) ss → put_in_order is_earlier s ss ≡ ss ++ s ∷ []
put_last s [] a = refl
put_last s (t ∷ ts) a = ap (λ b. elim b as (λ b. List Slot) [ true ↦ s ∷ t ∷ ts | false ↦ t ∷ put_in_order is_earlier s ts ]) a.0 ∙ ap (t ∷◌) (put_last s ts a.1)

-- before a later one at the end
put_before_last : (s q : Slot) (ss : List Slot) → is_earlier s q ≡ true → put_in_order is_earlier s (ss ++ q ∷ []) ≡ put_in_order is_earlier s ss ++ q ∷ []
put_before_last s q [] e = put_first s (q ∷ []) (e, tt)
put_before_last s q (t ∷ ts) e = go (is_earlier s t) (put_before_last s q ts e)
  where
    go : (b : Bool) → put_in_order is_earlier s (ts ++ q ∷ []) ≡ put_in_order is_earlier s ts ++ q ∷ []
        → elim b as (λ b. List Slot) [ true ↦ s ∷ t ∷ (ts ++ q ∷ []) | false ↦ t ∷ put_in_order is_earlier s (ts ++ q ∷ []) ] ≡ elim b as (λ b. List Slot) [ true ↦ s ∷ t ∷ ts | false ↦ t ∷ put_in_order is_earlier s ts ] ++ q ∷ []
    go true h = refl
    go false h = ap (t ∷◌) h

-- one that is put in order, or left out
abbrev put_if : (keeps : Bool) → Slot → List Slot → List Slot
put_if true s ss = put_in_order is_earlier s ss
put_if false s ss = ss

put_of_filter : (keep : Slot → Bool) (s : Slot) (ss : List Slot) → Rise ss → filter keep (put_in_order is_earlier s ss) ≡ put_if (keep s) s (filter keep ss)
put_of_filter keep s [] r = go (keep s)
  where
    go : (k : Bool) → cond k (s ∷ []) [] ≡ put_if k s []
    go true = refl
    go false = refl
put_of_filter keep s (t ∷ ts) r = go (is_earlier s t) refl (put_of_filter keep s ts r.1)
  where
    rest : List Slot
    rest = filter keep (t ∷ ts)

    front : (k : Bool) → AllByRecursion (λ (u : Slot). is_earlier s u ≡ true) rest → cond k (s ∷ rest) rest ≡ put_if k s rest
    front true a = sym (put_first s rest a)
    front false a = refl

    behind : (b k : Bool) → is_earlier s t ≡ false → filter keep (put_in_order is_earlier s ts) ≡ put_if k s (filter keep ts)
        → cond b (t ∷ filter keep (put_in_order is_earlier s ts)) (filter keep (put_in_order is_earlier s ts)) ≡ put_if k s (cond b (t ∷ filter keep ts) (filter keep ts))
    behind true true e h = ap (t ∷◌) h ∙ sym (ap (λ b. elim b as (λ b. List Slot) [ true ↦ s ∷ t ∷ filter keep ts | false ↦ t ∷ put_in_order is_earlier s (filter keep ts) ]) e)
    behind true false e h = ap (t ∷◌) h
    behind false k e h = h

    go : (b : Bool) → is_earlier s t ≡ b → filter keep (put_in_order is_earlier s ts) ≡ put_if (keep s) s (filter keep ts)
        → filter keep (elim b as (λ b. List Slot) [ true ↦ s ∷ t ∷ ts | false ↦ t ∷ put_in_order is_earlier s ts ]) ≡ put_if (keep s) s (filter keep (t ∷ ts))
    go true e h =
        let later : AllByRecursion (λ (u : Slot). is_earlier s u ≡ true) (t ∷ ts) = (e, all_follow (λ (u : Slot). t.arrival ≤ u.arrival) _ ts (λ (u : Slot) l. grind (arith, nat_tests)) r.0) in
        front (keep s) (all_of_filter (λ (u : Slot). is_earlier s u ≡ true) keep (t ∷ ts) later)
    go false e h = behind (keep t) (keep s) e h

-- fewer slots stand in the same order
in_order_of_filter : (keep : Slot → Bool) (ss : List Slot) → in_order is_earlier (filter keep ss) ≡ filter keep (in_order is_earlier ss)
in_order_of_filter keep [] = refl
in_order_of_filter keep (s ∷ ss) = go (keep s) (in_order_of_filter keep ss) ∙ sym (put_of_filter keep s (in_order is_earlier ss) (rise_in_order ss))
  where
    go : (k : Bool) → in_order is_earlier (filter keep ss) ≡ filter keep (in_order is_earlier ss)
        → in_order is_earlier (cond k (s ∷ filter keep ss) (filter keep ss)) ≡ put_if k s (filter keep (in_order is_earlier ss))
    go true h = ap (put_in_order is_earlier s) h
    go false h = h

-- ---- the table's changes

-- filters in either order
filters_swap : (p q : Slot → Bool) (ss : List Slot) → filter p (filter q ss) ≡ filter q (filter p ss)
filters_swap p q [] = refl
filters_swap p q (s ∷ ss) = go (p s) (q s) refl refl (filters_swap p q ss)
  where
    go : (a b : Bool) → p s ≡ a → q s ≡ b → filter p (filter q ss) ≡ filter q (filter p ss)
        → filter p (cond b (s ∷ filter q ss) (filter q ss)) ≡ filter q (cond a (s ∷ filter p ss) (filter p ss))
    go true true e f h = ap (λ b. cond b (s ∷ filter p (filter q ss)) (filter p (filter q ss))) e ∙ ap (s ∷◌) h ∙ sym (ap (λ b. cond b (s ∷ filter q (filter p ss)) (filter q (filter p ss))) f)
    go true false e f h = h ∙ sym (ap (λ b. cond b (s ∷ filter q (filter p ss)) (filter q (filter p ss))) f)
    go false true e f h = ap (λ b. cond b (s ∷ filter p (filter q ss)) (filter p (filter q ss))) e ∙ h
    go false false e f h = h

-- what waits among fewer slots
waiting_of_filter : (keep : Slot → Bool) (ss : List Slot) → waiting_slots (filter keep ss) ≡ filter keep (waiting_slots ss)
waiting_of_filter keep ss = ap (in_order is_earlier) (filters_swap is_waiting keep ss) ∙ in_order_of_filter keep (those is_waiting ss)

-- without the slot of a number
pub waiting_without : (n : ℕ) (ss : List Slot) → waiting_slots (but_those (slot_numbered n) ss) ≡ but_those (slot_numbered n) (waiting_slots ss)
waiting_without n ss = waiting_of_filter (λ s. not (slot_numbered n s)) ss

-- a filter of slots that all stay, or all go
filter_all : (keep : Slot → Bool) (ss : List Slot) → AllByRecursion (λ s. keep s ≡ true) ss → filter keep ss ≡ ss
filter_all keep [] a = refl
filter_all keep (s ∷ ss) a = ap (λ b. cond b (s ∷ filter keep ss) (filter keep ss)) a.0 ∙ ap (s ∷◌) (filter_all keep ss a.1)

filter_none : (keep : Slot → Bool) (ss : List Slot) → AllByRecursion (λ s. keep s ≡ false) ss → filter keep ss ≡ []
filter_none keep [] a = refl
filter_none keep (s ∷ ss) a = ap (λ b. cond b (s ∷ filter keep ss) (filter keep ss)) a.0 ∙ filter_none keep ss a.1

-- what waits isn't freed
not_freed : (s : Slot) → is_waiting s ≡ true → not (is_freed s) ≡ true
not_freed s e = go s.phase e
  where
    go : (phase : Phase) → is_waiting (slot_in s phase) ≡ true → not (is_freed (slot_in s phase)) ≡ true
    go Reserved e = refl
    go Queued e = refl
    go Peeked e = refl
    go Handed e = refl
    go Freed e = absurd (false≢true e)

-- without the freed ones
pub waiting_of_swept : (ss : List Slot) → waiting_slots (but_those is_freed ss) ≡ waiting_slots ss
waiting_of_swept ss = waiting_of_filter (λ s. not (is_freed s)) ss ∙ filter_all (λ s. not (is_freed s)) (waiting_slots ss) (all_follow _ _ (waiting_slots ss) not_freed (all_wait ss))

-- without those that wait
pub waiting_of_drained : (ss : List Slot) → waiting_slots (but_those is_waiting ss) ≡ []
waiting_of_drained ss = waiting_of_filter (λ s. not (is_waiting s)) ss ∙ filter_none (λ s. not (is_waiting s)) (waiting_slots ss) (all_follow _ _ (waiting_slots ss) (λ s e. ap not e) (all_wait ss))

-- with one more that doesn't wait
pub waiting_of_put : (below : Slot → Slot → Bool) (t : Slot) (ss : List Slot) → is_waiting t ≡ false → waiting_slots (put_in_order below t ss) ≡ waiting_slots ss
waiting_of_put below t ss e = ap (in_order is_earlier) (same ss)
  where
    same : (xs : List Slot) → those is_waiting (put_in_order below t xs) ≡ those is_waiting xs
    same [] = ap (λ b. cond b (t ∷ []) []) e
    same (x ∷ xs) = go (below t x) (same xs)
      where
        go : (b : Bool) → those is_waiting (put_in_order below t xs) ≡ those is_waiting xs
            → those is_waiting (elim b as (λ b. List Slot) [ true ↦ t ∷ x ∷ xs | false ↦ x ∷ put_in_order below t xs ]) ≡ those is_waiting (x ∷ xs)
        go true h = ap (λ b. cond b (t ∷ those is_waiting (x ∷ xs)) (those is_waiting (x ∷ xs))) e
        go false h = ap (λ zs. cond (is_waiting x) (x ∷ zs) zs) h

-- ---- the slot of a number in another phase

-- one that is received waits no more
pub waiting_of_handed : (n : ℕ) (ss : List Slot) → waiting_slots (map (in_phase Handed n) ss) ≡ but_those (slot_numbered n) (waiting_slots ss)
waiting_of_handed n ss = ap (in_order is_earlier) (same ss) ∙ in_order_of_filter (λ s. not (slot_numbered n s)) (those is_waiting ss)
  where
    same : (xs : List Slot) → those is_waiting (map (in_phase Handed n) xs) ≡ but_those (slot_numbered n) (those is_waiting xs)
    same [] = refl
    same (x ∷ xs) = go (slot_numbered n x) refl (is_waiting x) refl (same xs)
      where
        later : List Slot
        later = map (in_phase Handed n) xs

        go : (a : Bool) → slot_numbered n x ≡ a → (b : Bool) → is_waiting x ≡ b → those is_waiting later ≡ but_those (slot_numbered n) (those is_waiting xs)
            → those is_waiting (elim a as (λ a. Slot) [ true ↦ record x { phase = Handed } | false ↦ x ] ∷ later) ≡ but_those (slot_numbered n) (cond b (x ∷ those is_waiting xs) (those is_waiting xs))
        go true e true f h = h ∙ sym (ap (λ a. cond (not a) (x ∷ but_those (slot_numbered n) (those is_waiting xs)) (but_those (slot_numbered n) (those is_waiting xs))) e)
        go true e false f h = h
        go false e true f h = ap (λ b. cond b (x ∷ those is_waiting later) (those is_waiting later)) f ∙ ap (x ∷◌) h ∙ sym (ap (λ a. cond (not a) (x ∷ but_those (slot_numbered n) (those is_waiting xs)) (but_those (slot_numbered n) (those is_waiting xs))) e)
        go false e false f h = ap (λ b. cond b (x ∷ those is_waiting later) (those is_waiting later)) f ∙ h

-- a slot that waits as another one did, with the same entry
record Stays (s t : Slot) : Type 0 where
  waits : is_waiting t ≡ is_waiting s
  entry : entry_of t ≡ entry_of s

abbrev StaysBy : (Slot → Slot) → Slot → Type 0
StaysBy f s = Stays s (f s)

queue_of_map : (f : Slot → Slot) → ((s : Slot) → (f s).arrival ≡ s.arrival) → (ss : List Slot) → AllByRecursion (StaysBy f) ss → queue_of (map f ss) ≡ queue_of ss
queue_of_map f same ss a =
    ap (λ xs. map entry_of (in_order is_earlier xs)) (those_map ss a) ∙ ap (map entry_of) (ordered (those is_waiting ss)) ∙ entries (waiting_slots ss) (all_of_waiting (StaysBy f) ss a)
  where
    those_map : (xs : List Slot) → AllByRecursion (StaysBy f) xs → those is_waiting (map f xs) ≡ map f (those is_waiting xs)
    those_map [] a = refl
    those_map (x ∷ xs) a = ap (λ b. cond b (f x ∷ those is_waiting (map f xs)) (those is_waiting (map f xs))) a.0.waits ∙ go (is_waiting x) (those_map xs a.1)
      where
        go : (b : Bool) → those is_waiting (map f xs) ≡ map f (those is_waiting xs)
            → cond b (f x ∷ those is_waiting (map f xs)) (those is_waiting (map f xs)) ≡ map f (cond b (x ∷ those is_waiting xs) (those is_waiting xs))
        go true h = ap (f x ∷◌) h
        go false h = h

    ordered : (xs : List Slot) → in_order is_earlier (map f xs) ≡ map f (in_order is_earlier xs)
    ordered [] = refl
    ordered (x ∷ xs) = ap (put_in_order is_earlier (f x)) (ordered xs) ∙ sym (map_of_put f is_earlier is_earlier (λ a b. rw (same a, same b) refl) x (in_order is_earlier xs))

    entries : (xs : List Slot) → AllByRecursion (StaysBy f) xs → map entry_of (map f xs) ≡ map entry_of xs
    entries [] a = refl
    entries (x ∷ xs) a = ap (λ e. e ∷ map entry_of (map f xs)) a.0.entry ∙ ap (entry_of x ∷◌) (entries xs a.1)

arrival_in : (phase : Phase) (n : ℕ) (s : Slot) → (in_phase phase n s).arrival ≡ s.arrival
arrival_in phase n s = go (slot_numbered n s)
  where
    go : (b : Bool) → (elim b as (λ b. Slot) [ true ↦ record s { phase = phase } | false ↦ s ]).arrival ≡ s.arrival
    go true = refl
    go false = refl

-- a phase in which a slot waits as it did
pub queue_of_phase : (phase : Phase) (n : ℕ) (ss : List Slot) → AllByRecursion (λ (s : Slot). slot_numbered n s ≡ true → is_waiting (slot_in s phase) ≡ is_waiting s) ss → queue_of (map (in_phase phase n) ss) ≡ queue_of ss
queue_of_phase phase n ss a = queue_of_map (in_phase phase n) (arrival_in phase n) ss (all_follow _ (StaysBy (in_phase phase n)) ss (λ (s : Slot) h. go s (slot_numbered n s) h) a)
  where
    go : (s : Slot) (b : Bool) → (b ≡ true → is_waiting (slot_in s phase) ≡ is_waiting s) → Stays s (elim b as (λ b. Slot) [ true ↦ slot_in s phase | false ↦ s ])
    go s true h = record { waits = h refl; entry = refl }
    go s false h = record { waits = refl; entry = refl }

-- ---- one that is queued comes last

queues_none : (n : ℕ) (priority : ℤ) (now : ℕ) (ss : List Slot) → AllByRecursion (λ (s : Slot). slot_numbered n s ≡ false) ss → map (now_queued n priority now) ss ≡ ss
queues_none n priority now [] a = refl
queues_none n priority now (s ∷ ss) a = ap (λ b. elim b as (λ b. Slot) [ true ↦ queued_slot priority now s | false ↦ s ] ∷ map (now_queued n priority now) ss) a.0 ∙ ap (s ∷◌) (queues_none n priority now ss a.1)

reserved_waits_not : (s : Slot) → is_reserved s ≡ true → is_waiting s ≡ false
reserved_waits_not s e = go s.phase e
  where
    go : (phase : Phase) → is_reserved (slot_in s phase) ≡ true → is_waiting (slot_in s phase) ≡ false
    go Reserved e = refl
    go Queued e = absurd (false≢true e)
    go Peeked e = absurd (false≢true e)
    go Handed e = refl
    go Freed e = refl

-- a slot that was reserved is queued behind all that wait
pub waiting_of_queued : (n : ℕ) (priority : ℤ) (now : ℕ) (ss : List Slot) (t : Slot) → AreApart ss → AllByRecursion (IsBefore now) ss → find (slot_numbered n) ss ≡ Some t → is_reserved t ≡ true
    → waiting_slots (map (now_queued n priority now) ss) ≡ waiting_slots ss ++ queued_slot priority now t ∷ []
unfolding IsDistinct
waiting_of_queued n priority now [] t d a f r = absurd cc
waiting_of_queued n priority now (s ∷ ss) t d a f r = go (slot_numbered n s) refl f (waiting_of_queued n priority now ss t d.1 a.1)
  where
    later : List Slot
    later = map (now_queued n priority now) ss

    q : Slot
    q = queued_slot priority now t

    early : AllByRecursion (λ (x : Slot). x.arrival < now) (waiting_slots ss)
    early = all_in_order _ (those is_waiting ss) (passing is_waiting (λ x. x.arrival < now) ss a.1)

    one : (w : Bool) → is_waiting s ≡ w → waiting_slots later ≡ waiting_slots ss ++ q ∷ []
        → in_order is_earlier (cond w (s ∷ those is_waiting later) (those is_waiting later)) ≡ in_order is_earlier (cond w (s ∷ those is_waiting ss) (those is_waiting ss)) ++ q ∷ []
    one true w h =
        let early : s.arrival < now = a.0 w in
        ap (put_in_order is_earlier s) h ∙ put_before_last s q (waiting_slots ss) (grind (arith, nat_tests))
    one false w h = h

    go : (b : Bool) → slot_numbered n s ≡ b → cond b (Some s) (find (slot_numbered n) ss) ≡ Some t
        → (find (slot_numbered n) ss ≡ Some t → is_reserved t ≡ true → waiting_slots later ≡ waiting_slots ss ++ q ∷ [])
        → waiting_slots (elim b as (λ b. Slot) [ true ↦ queued_slot priority now s | false ↦ s ] ∷ later) ≡ waiting_slots (s ∷ ss) ++ q ∷ []
    go true e f h =
        let same : s ≡ t = cc in
        let others : AllByRecursion (λ (x : Slot). slot_numbered n x ≡ false) ss = all_follow _ _ ss (λ (x : Slot) g. grind (arith, nat_tests)) d.0 in
        let out : is_waiting s ≡ false = ap is_waiting same ∙ reserved_waits_not t r in
        ap (λ (x : Slot). put_in_order is_earlier (queued_slot priority now x) (waiting_slots later)) same
        ∙ ap (λ xs. put_in_order is_earlier q (waiting_slots xs)) (queues_none n priority now ss others)
        ∙ put_last q (waiting_slots ss) (all_follow _ _ (waiting_slots ss) (λ (x : Slot) l. grind (arith, nat_tests)) early)
        ∙ sym (ap (λ b. in_order is_earlier (cond b (s ∷ those is_waiting ss) (those is_waiting ss)) ++ q ∷ []) out)
    go false e f h = one (is_waiting s) refl (h f r)

-- after it the next arrival is one later
pub before_of_queued : (n : ℕ) (priority : ℤ) (now : ℕ) (ss : List Slot) → AllByRecursion (IsBefore now) ss → AllByRecursion (IsBefore (now + 1)) (map (now_queued n priority now) ss)
before_of_queued n priority now [] a = tt
before_of_queued n priority now (s ∷ ss) a = (go (slot_numbered n s), before_of_queued n priority now ss a.1)
  where
    go : (b : Bool) → IsBefore (now + 1) (elim b as (λ b. Slot) [ true ↦ queued_slot priority now s | false ↦ s ])
    go true = λ e. omega arith
    go false = λ e. omega (arith, a.0 e)

-- a phase leaves the arrival, where it doesn't make the slot wait
pub before_of_phase : (phase : Phase) (n now : ℕ) (ss : List Slot) → AllByRecursion (λ (s : Slot). slot_numbered n s ≡ true → is_waiting (slot_in s phase) ≡ true → is_waiting s ≡ true) ss
    → AllByRecursion (IsBefore now) ss → AllByRecursion (IsBefore now) (map (in_phase phase n) ss)
before_of_phase phase n now [] w a = tt
before_of_phase phase n now (s ∷ ss) w a = (go (slot_numbered n s) w.0, before_of_phase phase n now ss w.1 a.1)
  where
    go : (b : Bool) → (b ≡ true → is_waiting (slot_in s phase) ≡ true → is_waiting s ≡ true) → IsBefore now (elim b as (λ b. Slot) [ true ↦ slot_in s phase | false ↦ s ])
    go true w = λ e. a.0 (w refl e)
    go false w = a.0

-- ---- the queue of a table

-- what the queue's order gives of the entries is the entry of the slot that is next
pub next_queued : (ss : List Slot) (limit : Option ℤ) → next_entry (queue_of ss) limit ≡ option_map entry_of (next ss limit)
unfolding next
next_queued ss limit = next_of_map entry_of (λ e. e.priority) (waiting_slots ss) limit

-- the queue is empty exactly where none waits
pub queue_is_empty : (ss : List Slot) → is_empty (queue_of ss) ≡ not (some_of is_waiting ss)
queue_is_empty [] = refl
queue_is_empty (s ∷ ss) = go (is_waiting s) (queue_is_empty ss)
  where
    go : (b : Bool) → is_empty (queue_of ss) ≡ not (some_of is_waiting ss)
        → is_empty (map entry_of (in_order is_earlier (cond b (s ∷ those is_waiting ss) (those is_waiting ss)))) ≡ not (b || some_of is_waiting ss)
    go true h = put_isn't_empty (in_order is_earlier (those is_waiting ss))
      where
        put_isn't_empty : (xs : List Slot) → is_empty (map entry_of (put_in_order is_earlier s xs)) ≡ false
        put_isn't_empty [] = refl
        put_isn't_empty (x ∷ xs) = one (is_earlier s x)
          where
            one : (c : Bool) → is_empty (map entry_of (elim c as (λ c. List Slot) [ true ↦ s ∷ x ∷ xs | false ↦ x ∷ put_in_order is_earlier s xs ])) ≡ false
            one true = refl
            one false = refl
    go false h = h
