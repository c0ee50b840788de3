-- An act raises each count of a pool by at most one.
use Rattle.std.specs.Prelude.{◌≡◌, ◌≤◌, ◌+◌, ◌&&◌, ◌==◌, ℕ, Bool, true, false, List, [], ◌∷◌, not, Option, Some, None, refl, pos, length}
use Rattle.std.proofs.Common.{ap, arith, ◌∙◌, replicate, zero, suc}
use Rattle.std.specs.List.{AllByRecursion}
use Rattle.kd_world.specs.State.{closed_pool}
use Rattle.kd_model.specs.Slices.{place, unused_number}
use Rattle.kd_model.specs.Words.{least, some_of, those}
use Rattle.kd_types.specs.declared.refusal.Refusal.{Refusal}
use Rattle.kd_types.specs.declared.refusal.Refusal.TheVariants.{Busy, MessagesQueued, NoMessage, NoSuchPriority, Quota}
use Rattle.kd_acts.specs.declared.receive.RecvMode.{RecvMode}
use Rattle.kd_acts.specs.declared.slot.Phase.TheVariants as phase
use Rattle.kd_acts.specs.declared.slot.Slot.{Slot}
use Rattle.kd_acts.specs.State.{Act, Answer, Content, Hold, Image, Pool, Visit, book_of, by_desk, bytes_of, close, done, drain, drained, free, freed, gone, got, idle, is_reserved, is_waiting, offer, placed, post, publish, raise, read, receive, refused, settle, slice, slots}
use Rattle.kd_acts.specs.Steps.{after, after_miss, after_taking, closed_answer, drop_counted, drain_step, fill_reserved, fill_step, filled, free_refusal, is_awaited, is_reserved_for, must_offer_step, next, of_lower_number, offer_step, open_step, over_quota, pool_step, post_step, receive_step, reserve_at, reserve_step, settled, swept, visit_step, waiting_images, with_dropped, with_phase, pool_without, without_handed, without_waiting}
use Rattle.kd_tables.specs.declared.part.Part.TheVariants as part
use Rattle.kd_model.specs.declared.slice_no.TheConstants.{SLICES}
use Rattle.kd_holds.specs.Counts.{CountsByOne, IsBelow, IsOpenBelow, IsPoolBelow, VisitsCount, is_settle}
use Rattle.kd_holds.specs.Handing.{images_of}

-- a pool whose counts are those of another one
record HasCountsOf (p q : Pool) : Type 0 where
  pub arrivals : q.next_arrival ≡ p.next_arrival
  pub misses : q.dropped ≡ p.dropped
  pub offers : q.offered ≡ p.offered

-- a pool whose counts are those of another one, and an offer more
record HasOfferMore (p q : Pool) : Type 0 where
  pub arrivals : q.next_arrival ≡ p.next_arrival
  pub misses : q.dropped ≡ p.dropped
  pub offers : q.offered ≡ p.offered + 1

-- fewer than so many
pub weaker_below : (m n : ℕ) (h : Hold) → m ≤ n → IsBelow m h → IsBelow n h
weaker_below m n h le b = record { generation = omega (arith, le, b.generation); pool = go h.pool b.pool }
  where
    go : (o : Option Pool) → IsOpenBelow m o → IsOpenBelow n o
    go None b = b
    go (Some p) b = record { arrivals = omega (arith, le, b.arrivals); misses = omega (arith, le, b.misses); offers = omega (arith, le, b.offers) }

kept_below : (n : ℕ) (p : Pool) → IsPoolBelow n p → IsPoolBelow (n + 1) p
kept_below n p h = record { arrivals = omega (arith, h.arrivals); misses = omega (arith, h.misses); offers = omega (arith, h.offers) }

same_below : (n : ℕ) (p q : Pool) → HasCountsOf p q → IsPoolBelow n p → IsPoolBelow n q
same_below n p q c h = record { arrivals = omega (arith, h.arrivals, c.arrivals); misses = omega (arith, h.misses, c.misses); offers = omega (arith, h.offers, c.offers) }

-- a reservation leaves the counts
reserving : (len source : ℕ) (user : Option ℕ) (p : Pool) → HasCountsOf p (reserve_step len user source p).0
unfolding reserve_step
reserving len source user p = go (unused_number (book_of p)) (place (book_of p) len)
  where
    go : (n at : Option ℕ) → HasCountsOf p (reserve_at n at len user source p).0
    go None at = record { arrivals = refl; misses = refl; offers = refl }
    go (Some n) None = record { arrivals = refl; misses = refl; offers = refl }
    go (Some n) (Some at) = record { arrivals = refl; misses = refl; offers = refl }

-- an offer counts itself
offering : (user len source : ℕ) (p : Pool) → HasOfferMore p (must_offer_step user len source p).0
unfolding must_offer_step
offering user len source p = go (over_quota q.size (slots q) user len)
  where
    q : Pool
    q = swept (record p { offered = p.offered + 1 })

    go : (b : Bool) → HasOfferMore p (elim b as (λ b. Pool × Answer) [ true ↦ (q, refused Quota) | false ↦ reserve_step len (Some user) source q ]).0
    go true = record { arrivals = refl; misses = refl; offers = refl }
    go false = let r = reserving len source (Some user) q in record { arrivals = r.arrivals; misses = r.misses; offers = r.offers }

-- so the misses stay
pub misses_stay : (user len source : ℕ) (p q : Pool) → q ≡ (must_offer_step user len source p).0 → q.dropped ≡ p.dropped
misses_stay user len source p q e = ap (λ (x : Pool). x.dropped) e ∙ (offering user len source p).misses

more_below : (n : ℕ) (p q : Pool) → HasOfferMore p q → IsPoolBelow n p → IsPoolBelow (n + 1) q
more_below n p q c h = record { arrivals = omega (arith, h.arrivals, c.arrivals); misses = omega (arith, h.misses, c.misses); offers = omega (arith, h.offers, c.offers) }

counted_below : (n : ℕ) (p q : Pool) (must : Bool) (a : Answer) → HasOfferMore p q → IsPoolBelow n p → IsPoolBelow (n + 1) (drop_counted must (q, a)).0
counted_below n p q true a c h = more_below n p q c h
counted_below n p q false (refused why) c h = record { arrivals = omega (arith, h.arrivals, c.arrivals); misses = omega (arith, h.misses, c.misses); offers = omega (arith, h.offers, c.offers) }
counted_below n p q false done c h = more_below n p q c h
counted_below n p q false placed c h = more_below n p q c h
counted_below n p q false gone c h = more_below n p q c h
counted_below n p q false freed c h = more_below n p q c h
counted_below n p q false (slice k) c h = more_below n p q c h
counted_below n p q false (drained images) c h = more_below n p q c h
counted_below n p q false (got k offset len dropped) c h = more_below n p q c h
counted_below n p q false (bytes_of bytes) c h = more_below n p q c h

offer_below : (user len source n : ℕ) (must : Bool) (p : Pool) → IsPoolBelow n p → IsPoolBelow (n + 1) (offer_step user len source must p).0
unfolding offer_step
offer_below user len source n must p h =
    let x = must_offer_step user len source p in
    counted_below n p x.0 must x.1 (offering user len source p) h

filled_below : (k n : ℕ) (c : Content) (p : Pool) → IsPoolBelow n p → IsPoolBelow (n + 1) (filled k c p)
unfolding filled
filled_below k n c p h = record { arrivals = omega (arith, h.arrivals); misses = omega (arith, h.misses); offers = omega (arith, h.offers) }

missed_below : (n : ℕ) (p : Pool) → IsPoolBelow n p → IsPoolBelow (n + 1) (after_miss p)
missed_below n p h = record { arrivals = omega (arith, h.arrivals); misses = omega (arith, h.misses); offers = omega (arith, h.offers) }

fill_below : (n : ℕ) (c : Content) (p : Pool) (a : Answer) → IsPoolBelow n p → IsPoolBelow (n + 1) (fill_reserved c (p, a)).0
fill_below n c p (slice k) h = filled_below k n c p h
fill_below n c p (refused why) h = missed_below n p h
fill_below n c p done h = missed_below n p h
fill_below n c p placed h = missed_below n p h
fill_below n c p gone h = missed_below n p h
fill_below n c p freed h = missed_below n p h
fill_below n c p (drained images) h = missed_below n p h
fill_below n c p (got k offset len dropped) h = missed_below n p h
fill_below n c p (bytes_of bytes) h = missed_below n p h

post_below : (n : ℕ) (image : List ℕ) (p : Pool) → IsPoolBelow n p → IsPoolBelow (n + 1) (post_step image p).0
unfolding post_step fill_step
post_below n image p h =
    let q = swept p in
    let x = reserve_step (length image) None 0 q in
    fill_below n (record { image = image; shared = None; priority = pos 0 }) x.0 x.1 (same_below n q x.0 (reserving (length image) 0 None q) (record { arrivals = h.arrivals; misses = h.misses; offers = h.offers }))

drain_below : (n : ℕ) (p : Pool) → IsPoolBelow n p → IsPoolBelow (n + 1) (drain_step p).0
unfolding drain_step
drain_below n p h = go (least of_lower_number (those is_reserved (slots p)))
  where
    go : (o : Option Slot) → IsPoolBelow (n + 1) (elim o as (λ o. Pool × Answer) [ Some s ↦ (p, refused (Busy s.number)) | None ↦ (without_waiting p, drained (waiting_images p)) ]).0
    go None = let k = kept_below n p h in record { arrivals = k.arrivals; misses = k.misses; offers = k.offers }
    go (Some s) = kept_below n p h

taken_below : (n : ℕ) (mode : RecvMode) (k : ℕ) (p : Pool) → IsPoolBelow n p → IsPoolBelow (n + 1) (with_dropped 0 (after_taking mode k p))
taken_below n mode k p h = go mode.drop_it
  where
    go : (b : Bool) → IsPoolBelow (n + 1) (with_dropped 0 (elim b as (λ b. Pool) [ true ↦ pool_without k p | false ↦ with_phase (elim mode.peek [ true ↦ phase.Peeked | false ↦ phase.Handed ]) k p ]))
    go true = let b = kept_below n p h in record { arrivals = b.arrivals; misses = omega arith; offers = b.offers }
    go false = let b = kept_below n p h in record { arrivals = b.arrivals; misses = omega arith; offers = b.offers }

receive_below : (n : ℕ) (mode : RecvMode) (p : Pool) → IsPoolBelow n p → IsPoolBelow (n + 1) (receive_step mode p).0
unfolding receive_step
receive_below n mode p h = go (next (slots p) mode.limit)
  where
    none : (b : Bool) → IsPoolBelow (n + 1) (elim b as (λ b. Pool × Answer) [ true ↦ (p, refused NoSuchPriority) | false ↦ (with_dropped 0 p, refused (NoMessage p.dropped)) ]).0
    none true = kept_below n p h
    none false = let b = kept_below n p h in record { arrivals = b.arrivals; misses = omega arith; offers = b.offers }

    go : (o : Option Slot) → IsPoolBelow (n + 1) (elim o as (λ o. Pool × Answer) [ Some s ↦ (with_dropped 0 (after_taking mode s.number p), got s.number s.offset s.len p.dropped) | None ↦ elim (some_of is_waiting (slots p)) as (λ b. Pool × Answer) [ true ↦ (p, refused NoSuchPriority) | false ↦ (with_dropped 0 p, refused (NoMessage p.dropped)) ] ]).0
    go (Some s) = taken_below n mode s.number p h
    go None = none (some_of is_waiting (slots p))

publish_below : (n g k : ℕ) (c : Content) (p : Pool) (b : Bool) → IsPoolBelow n p → IsPoolBelow (n + 1) (elim b as (λ b. Pool × Answer) [ false ↦ (p, gone) | true ↦ (filled k c p, placed) ]).0
publish_below n g k c p false h = kept_below n p h
publish_below n g k c p true h = filled_below k n c p h

free_below : (n k : ℕ) (p : Pool) → IsPoolBelow n p → IsPoolBelow (n + 1) (without_handed k p)
free_below n k p h = go (free_refusal k (slots p))
  where
    go : (o : Option Refusal) → IsPoolBelow (n + 1) (elim o as (λ o. Pool) [ None ↦ with_phase phase.Freed k p | Some why ↦ p ])
    go None = let b = kept_below n p h in record { arrivals = b.arrivals; misses = b.misses; offers = b.offers }
    go (Some why) = kept_below n p h

visit_below : (n : ℕ) (p : Pool) (v : Visit) → is_settle (by_desk v) ≡ false → IsPoolBelow n p → IsPoolBelow (n + 1) (visit_step p v).0
unfolding visit_step
visit_below n p (offer user len source must content) s h = offer_below user len source n must p h
visit_below n p (post image) s h = post_below n image p h
visit_below n p drain s h = drain_below n p h
visit_below n p (raise size) s h = kept_below n p h
visit_below n p (close force) s h = kept_below n p h
visit_below n p (settle images) s h = cc

-- an act on an open pool
open_below : (n g : ℕ) (p : Pool) (a : Act) → is_settle a ≡ false → IsPoolBelow n p → IsPoolBelow (n + 1) (open_step g p a).0
unfolding open_step
open_below n g p (by_desk v) s h = visit_below n p v s h
open_below n g p (publish generation k c) s h = publish_below n g k c p (generation == g && is_reserved_for k c p) h
open_below n g p (receive mode) s h = receive_below n mode p h
open_below n g p (read k sealed) s h = kept_below n p h
open_below n g p (free k) s h = free_below n k p h
open_below n g p idle s h = kept_below n p h

hold_kept : (n : ℕ) (h : Hold) → IsBelow n h → IsBelow (n + 1) h
hold_kept n h b = weaker_below n (n + 1) h (omega arith) b

-- an act that goes by whether the pool is open
either_below : (n : ℕ) (h : Hold) (a : Act) → is_settle a ≡ false → IsBelow n h
    → IsBelow (n + 1) (elim h.pool as (λ o. Hold × Answer) [ None ↦ (h, closed_answer a) | Some p ↦ let s = open_step h.generation p a in (record { generation = h.generation; pool = Some s.0 }, s.1) ]).0
either_below n h a s b = go h.pool b.pool
  where
    go : (o : Option Pool) → IsOpenBelow n o → IsBelow (n + 1) (elim o as (λ o. Hold × Answer) [ None ↦ (h, closed_answer a) | Some p ↦ let s = open_step h.generation p a in (record { generation = h.generation; pool = Some s.0 }, s.1) ]).0
    go None below = hold_kept n h b
    go (Some p) below = record { generation = omega (arith, b.generation); pool = open_below n h.generation p a s below }

close_below : (n : ℕ) (h : Hold) (x : Bool) → IsBelow n h → IsBelow (n + 1) (elim x as (λ x. Hold × Answer) [ true ↦ (h, refused MessagesQueued) | false ↦ (record { generation = h.generation + 1; pool = None }, done) ]).0
close_below n h true b = hold_kept n h b
close_below n h false b = record { generation = omega (arith, b.generation); pool = tt }

pub counts_by_one : CountsByOne
unfolding pool_step
counts_by_one n h (by_desk (raise size)) s b = record { generation = omega (arith, b.generation); pool = record { arrivals = omega arith; misses = omega arith; offers = omega arith } }
counts_by_one n h (by_desk (close force)) s b = close_below n h (not force && is_awaited h) b
counts_by_one n h (by_desk (offer user len source must content)) s b = either_below n h (by_desk (offer user len source must content)) s b
counts_by_one n h (by_desk (post image)) s b = either_below n h (by_desk (post image)) s b
counts_by_one n h (by_desk drain) s b = either_below n h (by_desk drain) s b
counts_by_one n h (by_desk (settle images)) s b = cc
counts_by_one n h (publish generation k c) s b = either_below n h (publish generation k c) s b
counts_by_one n h (receive mode) s b = either_below n h (receive mode) s b
counts_by_one n h (read k sealed) s b = either_below n h (read k sealed) s b
counts_by_one n h (free k) s b = either_below n h (free k) s b
counts_by_one n h idle s b = either_below n h idle s b

-- ---- visits

more_room : (m n : ℕ) (p : Pool) → m ≤ n → IsPoolBelow m p → IsPoolBelow n p
more_room m n p le b = record { arrivals = omega (arith, le, b.arrivals); misses = omega (arith, le, b.misses); offers = omega (arith, le, b.offers) }

-- a message that settles
one_below : (n : ℕ) (c : Content) (user : Option ℕ) (source : ℕ) (p : Pool) → IsPoolBelow n p → IsPoolBelow (n + 1) (fill_step c user source p).0
unfolding fill_step
one_below n c user source p h =
    let x = reserve_step (length c.image) user source p in
    fill_below n c x.0 x.1 (same_below n p x.0 (reserving (length c.image) source user p) h)

-- each of them
all_below : (is : List Image) (n : ℕ) (p : Pool) → IsPoolBelow n p → IsPoolBelow (n + length is) (settled is p)
all_below [] n p h = more_room n (n + 0) p (omega arith) h
all_below (i ∷ is) n p h =
    let one : Pool = (fill_step i.content i.user i.source p).0 in
    more_room (n + 1 + length is) (n + length (i ∷ is)) (settled is one) (omega arith) (all_below is (n + 1) one (one_below n i.content i.user i.source p h))

settles_below : (n : ℕ) (h : Hold) (is : List Image) → length is ≤ SLICES → IsBelow n h → IsBelow (n + SLICES) (after h (by_desk (settle is)))
unfolding pool_step open_step visit_step
settles_below n h is few b = go h.pool b.pool
  where
    go : (o : Option Pool) → IsOpenBelow n o → IsBelow (n + SLICES) (elim o as (λ o. Hold × Answer) [ None ↦ (h, closed_answer (by_desk (settle is))) | Some p ↦ let s = open_step h.generation p (by_desk (settle is)) in (record { generation = h.generation; pool = Some s.0 }, s.1) ]).0
    go None below = weaker_below n (n + SLICES) h (omega arith) b
    go (Some p) below =
        let start : IsPoolBelow n (swept p) = same_below n p (swept p) (record { arrivals = refl; misses = refl; offers = refl }) below in
        record {
          generation = omega (arith, b.generation);
          pool = more_room (n + length is) (n + SLICES) (settled is (swept p)) (omega (arith, few)) (all_below is n (swept p) start);
        }

by_one : (n : ℕ) (h : Hold) (v : Visit) → is_settle (by_desk v) ≡ false → IsBelow n h → IsBelow (n + SLICES) (after h (by_desk v))
by_one n h v e b = weaker_below (n + 1) (n + SLICES) (after h (by_desk v)) (omega arith) (counts_by_one n h (by_desk v) e b)

pub visits_count : VisitsCount
visits_count n h c (part.Raise seat size) took few b = by_one n h (raise size) refl b
visits_count n h c (part.Close seat force) took few b = by_one n h (close force) refl b
visits_count n h c (part.Offer seat user len from must) took few b = by_one n h _ refl b
visits_count n h c (part.Post seat image) took few b = by_one n h (post image) refl b
visits_count n h c (part.Drain seat size) took few b = by_one n h drain refl b
visits_count n h c (part.Settle seat) took few b = settles_below n h (images_of took) few b

-- closed pools that were never open
pub closed_below : (k n : ℕ) → AllByRecursion (IsBelow n) (replicate k closed_pool)
closed_below zero n = tt
closed_below (suc k) n = (record { generation = omega arith; pool = tt }, closed_below k n)
