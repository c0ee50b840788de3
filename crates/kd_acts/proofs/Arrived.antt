-- All that wait in a pool arrived before its next arrival number is given, whatever is done.
use Rattle.std.specs.Prelude.{◌≡◌, ◌+◌, ◌==◌, ◌&&◌, ℕ, ℤ, Bool, true, false, not, List, [], ◌∷◌, length, map, Option, Some, None, refl, pos}
use Rattle.std.specs.List.{AllByRecursion, find}
use Rattle.std.proofs.Common.{ap, arith, sym, ◌∙◌}
use Rattle.std.proofs.lemmas.Bool.{false≢true}
use Rattle.std.proofs.lemmas.Bool.Decides.{nat_tests}
use Rattle.kd_model.proofs.Lists.{all_follow, all_of_filter, all_of_put, all_over, all_under}
use Rattle.kd_model.proofs.Truth.{same_some}
use Rattle.kd_model.specs.Slices.{place, unused_number}
use Rattle.kd_model.specs.Words.{least, some_of, those}
use Rattle.kd_types.specs.declared.refusal.Refusal.{Refusal}
use Rattle.kd_types.specs.declared.refusal.Refusal.TheVariants.{Quota}
use Rattle.kd_acts.specs.Arriving.{ArrivalsStay, HaveArrived, IsBefore}
use Rattle.kd_acts.specs.Lasting.{AreNumbered}
use Rattle.kd_acts.specs.State.{Act, Answer, Content, Hold, Image, Pool, Slice, Visit, book_of, by_desk, bytes_of, close, done, drain, drained, free, freed, gone, got, idle, is_freed, is_reserved, is_waiting, offer, placed, post, publish, raise, read, receive, refused, settle, slice, slot_numbered, slots}
use Rattle.kd_acts.specs.Steps.{drain_step, drop_counted, fill_reserved, fill_step, filled, free_refusal, is_awaited, is_reserved_for, must_offer_step, next, of_lower_number, offer_step, open_step, over_quota, pool_step, post_step, queued_slot, receive_step, reserve_at, reserve_step, set_phase, settled, stands_lower, swept, visit_step, with_content, without_handed}
use Rattle.kd_acts.specs.declared.receive.RecvMode.{RecvMode}
use Rattle.kd_acts.specs.declared.slot.Phase.{Phase}
use Rattle.kd_acts.specs.declared.slot.Phase.TheVariants.{Freed, Handed, Peeked}
use Rattle.kd_acts.specs.declared.slot.Slot.{Slot}
use Rattle.kd_acts.proofs.Apart.{each_found, slot_of, slots_apart}
use Rattle.kd_acts.proofs.Cases.{acted_by, closed_by, drained_by, freed_by, none_received_by, published_by, received_by, taken_by}
use Rattle.kd_acts.proofs.Handing.{next_waits}
use Rattle.kd_acts.proofs.Receives.{all_of_next}

-- slices of which those that wait arrived before a number
abbrev AreBefore : ℕ → List Slice → Type 0
AreBefore now xs = AllByRecursion (λ (x : Slice). IsBefore now x.slot) xs

abbrev Arrived : Pool → Type 0
Arrived p = AreBefore p.next_arrival p.slices

-- ---- one more slice, and its content

sweep_arrived : (p : Pool) → Arrived p → Arrived (swept p)
sweep_arrived p a = all_of_filter _ (λ (x : Slice). not (is_freed x.slot)) p.slices a

fill_before : (n : ℕ) (c : Content) (now : ℕ) (xs : List Slice) → AreBefore now xs → AreBefore (now + 1) (map (with_content n c now) xs)
fill_before n c now [] a = tt
fill_before n c now (x ∷ xs) a = (go (slot_numbered n x.slot), fill_before n c now xs a.1)
  where
    go : (b : Bool) → IsBefore (now + 1) (elim b as (λ b. Slice) [ true ↦ record { slot = queued_slot c.priority now x.slot; bytes = c.image; shared = c.shared } | false ↦ x ]).slot
    go true = λ e. omega arith
    go false = λ e. omega (arith, a.0 e)

filled_arrived : (n : ℕ) (c : Content) (p : Pool) → Arrived p → Arrived (filled n c p)
unfolding filled
filled_arrived n c p a = fill_before n c p.next_arrival p.slices a

reserve_arrived : (len source : ℕ) (user : Option ℕ) (p : Pool) → Arrived p → Arrived (reserve_step len user source p).0
unfolding reserve_step
reserve_arrived len source user p a = go (unused_number (book_of p)) (place (book_of p) len)
  where
    go : (n at : Option ℕ) → Arrived (reserve_at n at len user source p).0
    go None at = a
    go (Some n) None = a
    go (Some n) (Some at) = all_of_put (λ (x : Slice). IsBefore p.next_arrival x.slot) stands_lower _ p.slices (λ e. absurd (false≢true e)) a

fill_arrived : (c : Content) (user : Option ℕ) (source : ℕ) (p : Pool) → Arrived p → Arrived (fill_step c user source p).0
unfolding fill_step
fill_arrived c user source p a =
    let s = reserve_step (length c.image) user source p in
    go s.0 s.1 (reserve_arrived (length c.image) source user p a)
  where
    go : (q : Pool) (r : Answer) → Arrived q → Arrived (fill_reserved c (q, r)).0
    go q (slice n) a = filled_arrived n c q a
    go q done a = a
    go q placed a = a
    go q gone a = a
    go q freed a = a
    go q (refused why) a = a
    go q (drained images) a = a
    go q (got n offset len dropped) a = a
    go q (bytes_of bytes) a = a

offer_arrived : (user len source : ℕ) (must : Bool) (p : Pool) → Arrived p → Arrived (offer_step user len source must p).0
unfolding offer_step must_offer_step
offer_arrived user len source must p a =
    let s = must_offer_step user len source p in
    counted must s.0 s.1 (bound (over_quota q.size (slots q) user len))
  where
    q : Pool
    q = swept (record p { offered = p.offered + 1 })

    bound : (b : Bool) → Arrived (elim b as (λ b. Pool × Answer) [ true ↦ (q, refused Quota) | false ↦ reserve_step len (Some user) source q ]).0
    bound true = sweep_arrived p a
    bound false = reserve_arrived len source (Some user) q (sweep_arrived p a)

    counted : (must : Bool) (q : Pool) (r : Answer) → Arrived q → Arrived (drop_counted must (q, r)).0
    counted true q r a = a
    counted false q (refused why) a = a
    counted false q done a = a
    counted false q placed a = a
    counted false q gone a = a
    counted false q freed a = a
    counted false q (slice n) a = a
    counted false q (drained images) a = a
    counted false q (got n offset len dropped) a = a
    counted false q (bytes_of bytes) a = a

post_arrived : (image : List ℕ) (p : Pool) → Arrived p → Arrived (post_step image p).0
unfolding post_step
post_arrived image p a = fill_arrived (record { image = image; shared = None; priority = pos 0 }) None 0 (swept p) (sweep_arrived p a)

settle_arrived : (images : List Image) (p : Pool) → Arrived p → Arrived (settled images p)
settle_arrived [] p a = a
settle_arrived (i ∷ is) p a = settle_arrived is (fill_step i.content i.user i.source p).0 (fill_arrived i.content i.user i.source p a)

-- ---- fewer slices, and other phases

drain_arrived : (p : Pool) → Arrived p → Arrived (drain_step p).0
unfolding drain_step
drain_arrived p a = go (least of_lower_number (those is_reserved (slots p)))
  where
    go : (o : Option Slot) → Arrived (drained_by p o).0
    go None = all_of_filter _ (λ (x : Slice). not (is_waiting x.slot)) p.slices a
    go (Some s) = a

-- a phase in which no slice waits that didn't
abbrev WaitsNoMore : Phase → ℕ → Slice → Type 0
WaitsNoMore phase n x = slot_numbered n x.slot ≡ true → is_waiting (record x.slot { phase = phase }) ≡ true → is_waiting x.slot ≡ true

phase_before : (phase : Phase) (n now : ℕ) (xs : List Slice) → AllByRecursion (WaitsNoMore phase n) xs → AreBefore now xs → AreBefore now (map (set_phase phase n) xs)
phase_before phase n now [] w a = tt
phase_before phase n now (x ∷ xs) w a = (go (slot_numbered n x.slot) w.0, phase_before phase n now xs w.1 a.1)
  where
    go : (b : Bool) → (b ≡ true → is_waiting (record x.slot { phase = phase }) ≡ true → is_waiting x.slot ≡ true)
        → IsBefore now (elim b as (λ b. Slice) [ true ↦ record x { slot = record x.slot { phase = phase } } | false ↦ x ]).slot
    go true w = λ e. a.0 (w refl e)
    go false w = a.0

pub each : {X : Type 0} (P : X → Type 0) → ((x : X) → P x) → (xs : List X) → AllByRecursion P xs
each P f [] = tt
each P f (x ∷ xs) = (f x, each P f xs)

-- the slice that is next waits, and no other has its number
next_waits_no_more : (p : Pool) (limit : Option ℤ) (s : Slot) → AreNumbered (Some p) → next (slots p) limit ≡ Some s → AllByRecursion (WaitsNoMore Peeked s.number) p.slices
next_waits_no_more p limit s d e = all_follow _ _ p.slices same (all_under (λ (x : Slot). find (slot_numbered x.number) (slots p) ≡ Some x) slot_of p.slices (each_found (slots p) (slots_apart p d)))
  where
    found : find (slot_numbered s.number) (slots p) ≡ Some s
    found = all_of_next (λ (s : Slot). find (slot_numbered s.number) (slots p) ≡ Some s) (slots p) limit s (each_found (slots p) (slots_apart p d)) e

    same : (x : Slice) → find (slot_numbered x.slot.number) (slots p) ≡ Some x.slot → WaitsNoMore Peeked s.number x
    same x f = λ h w.
        let number : x.slot.number ≡ s.number = grind (arith, nat_tests) in
        let one : Some x.slot ≡ Some s = sym f ∙ ap (λ n. find (slot_numbered n) (slots p)) number ∙ found in
        ap is_waiting (same_some x.slot s one) ∙ next_waits (slots p) limit s e

receive_arrived : (mode : RecvMode) (p : Pool) → AreNumbered (Some p) → Arrived p → Arrived (receive_step mode p).0
unfolding receive_step
receive_arrived mode p d a = go (next (slots p) mode.limit) refl
  where
    none : (b : Bool) → Arrived (none_received_by p b).0
    none true = a
    none false = a

    taken : (s : Slot) → next (slots p) mode.limit ≡ Some s → (drops peeks : Bool) → Arrived (taken_by drops peeks s.number p)
    taken s e true peeks = all_of_filter _ (λ (x : Slice). not (slot_numbered s.number x.slot)) p.slices a
    taken s e false true = phase_before Peeked s.number p.next_arrival p.slices (next_waits_no_more p mode.limit s d e) a
    taken s e false false = phase_before Handed s.number p.next_arrival p.slices (each (WaitsNoMore Handed s.number) (λ x h w. absurd (false≢true w)) p.slices) a

    go : (o : Option Slot) → next (slots p) mode.limit ≡ o → Arrived (received_by mode p o).0
    go (Some s) e = taken s e mode.drop_it mode.peek
    go None e = none (some_of is_waiting (slots p))

free_arrived : (n : ℕ) (p : Pool) → Arrived p → Arrived (without_handed n p)
free_arrived n p a = go (free_refusal n (slots p))
  where
    go : (o : Option Refusal) → Arrived (freed_by n p o)
    go None = phase_before Freed n p.next_arrival p.slices (each (WaitsNoMore Freed n) (λ x h w. absurd (false≢true w)) p.slices) a
    go (Some why) = a

-- ---- any act

visit_arrived : (p : Pool) (v : Visit) → Arrived p → Arrived (visit_step p v).0
unfolding visit_step
visit_arrived p (offer user len source must content) a = offer_arrived user len source must p a
visit_arrived p (post image) a = post_arrived image p a
visit_arrived p drain a = drain_arrived p a
visit_arrived p (settle images) a = settle_arrived images (swept p) (sweep_arrived p a)
visit_arrived p (raise size) a = a
visit_arrived p (close force) a = a

open_arrived : (g : ℕ) (p : Pool) (act : Act) → AreNumbered (Some p) → Arrived p → Arrived (open_step g p act).0
unfolding open_step
open_arrived g p (by_desk v) d a = visit_arrived p v a
open_arrived g p (publish generation n c) d a = go (generation == g && is_reserved_for n c p)
  where
    go : (b : Bool) → Arrived (published_by n c p b).0
    go true = filled_arrived n c p a
    go false = a
open_arrived g p (receive mode) d a = receive_arrived mode p d a
open_arrived g p (read n sealed) d a = a
open_arrived g p (free n) d a = free_arrived n p a
open_arrived g p idle d a = a

either_arrived : (g : ℕ) (o : Option Pool) (act : Act) → AreNumbered o → HaveArrived o → HaveArrived (acted_by g o act).0.pool
either_arrived g None act d a = tt
either_arrived g (Some p) act d a =
    let q : Pool = (open_step g p act).0 in
    all_over (IsBefore q.next_arrival) slot_of q.slices (open_arrived g p act d (all_under (IsBefore p.next_arrival) slot_of p.slices a))

close_arrived : (h : Hold) (b : Bool) → HaveArrived h.pool → HaveArrived (closed_by h b).0.pool
close_arrived h true a = a
close_arrived h false a = tt

pub arrivals_stay : ArrivalsStay
unfolding pool_step
arrivals_stay h (by_desk (raise size)) d a = tt
arrivals_stay h (by_desk (close force)) d a = close_arrived h (not force && is_awaited h) a
arrivals_stay h (by_desk (offer user len source must content)) d a = either_arrived h.generation h.pool (by_desk (offer user len source must content)) d a
arrivals_stay h (by_desk (post image)) d a = either_arrived h.generation h.pool (by_desk (post image)) d a
arrivals_stay h (by_desk drain) d a = either_arrived h.generation h.pool (by_desk drain) d a
arrivals_stay h (by_desk (settle images)) d a = either_arrived h.generation h.pool (by_desk (settle images)) d a
arrivals_stay h (publish generation n c) d a = either_arrived h.generation h.pool (publish generation n c) d a
arrivals_stay h (receive mode) d a = either_arrived h.generation h.pool (receive mode) d a
arrivals_stay h (read n sealed) d a = either_arrived h.generation h.pool (read n sealed) d a
arrivals_stay h (free n) d a = either_arrived h.generation h.pool (free n) d a
arrivals_stay h idle d a = either_arrived h.generation h.pool idle d a
