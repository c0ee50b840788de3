-- What each step of a pool makes of its counts.
use Rattle.std.proofs.Common.{◌≡◌, ◌≤◌, ◌+◌, ℕ, Bool, true, false, List, [], ◌∷◌, length, Option, Some, None, pos, refl, subst, sym, ap, ◌∙◌, arith}
use Rattle.std.specs.Prelude.{◌==◌, ◌&&◌, not, option_map}
use Rattle.kd_model.specs.Slices.{place, unused_number}
use Rattle.kd_model.specs.Words.{first, least, some_of, those}
use Rattle.kd_types.specs.declared.refusal.Refusal.{Refusal}
use Rattle.kd_types.specs.declared.refusal.Refusal.TheVariants.{Quota}
use Rattle.kd_acts.specs.declared.receive.RecvMode.{RecvMode}
use Rattle.kd_acts.specs.declared.slot.Phase.TheVariants.{Freed}
use Rattle.kd_acts.specs.declared.slot.Slot.{Slot}
use Rattle.kd_acts.specs.State.{Act, Answer, Content, Hold, Image, Pool, Visit, book_of, bytes_of, by_desk, close, done, drain, drained, free, freed, gone, got, idle, is_reserved, is_waiting, offer, placed, post, publish, raise, read, receive, refused, settle, slice, slots}
use Rattle.kd_acts.specs.Steps.{after, drain_step, drop_counted, fill_reserved, fill_step, filled, free_refusal, is_awaited, is_reserved_for, must_offer_step, next, of_lower_number, offer_step, open_step, over_quota, pool_step, pool_without, post_step, receive_step, reserve_at, reserve_step, settled, swept, visit_step, with_phase, without_handed}
use Rattle.kd_acts.proofs.Cases.{acted_by, closed_by, drained_by, freed_by, none_received_by, phase_by, published_by, received_by, taken_by}
use Rattle.kd_counts.specs.Counts.{CountsGoOn, GenerationsGoOn, GoesOnBy, is_raise, messages_in, offers_in}
use Rattle.kd_counts.specs.Sizes.{SizesFollow, size_by, size_of}

-- so many offers and messages on
record Moves (o n : ℕ) (p q : Pool) : Type 0 where
  pub size : q.size ≡ p.size
  pub offered : q.offered ≡ p.offered + o
  pub arrivals : p.next_arrival ≤ q.next_arrival
  pub few_arrivals : q.next_arrival ≤ p.next_arrival + n
  pub few_dropped : q.dropped ≤ p.dropped + n

-- with other slices alone
alike : (p q : Pool) → q.size ≡ p.size → q.offered ≡ p.offered → q.next_arrival ≡ p.next_arrival → q.dropped ≡ p.dropped → Moves 0 0 p q
alike p q size offered arrival dropped = record {
  size = size;
  offered = omega (arith, offered);
  arrivals = omega (arith, arrival);
  few_arrivals = omega (arith, arrival);
  few_dropped = omega (arith, dropped);
}

on : (a b m n : ℕ) (p q r : Pool) → Moves a m p q → Moves b n q r → Moves (a + b) (m + n) p r
on a b m n p q r s t = record {
  size = t.size ∙ s.size;
  offered = omega (arith, s.offered, t.offered);
  arrivals = omega (arith, s.arrivals, t.arrivals);
  few_arrivals = omega (arith, s.few_arrivals, t.few_arrivals);
  few_dropped = omega (arith, s.few_dropped, t.few_dropped);
}

wider : (o m n : ℕ) (p q : Pool) → m ≤ n → Moves o m p q → Moves o n p q
wider o m n p q le t = record {
  size = t.size;
  offered = t.offered;
  arrivals = t.arrivals;
  few_arrivals = omega (arith, le, t.few_arrivals);
  few_dropped = omega (arith, le, t.few_dropped);
}

-- ---- placing

reserved : (len : ℕ) (user : Option ℕ) (source : ℕ) (p : Pool) → Moves 0 0 p (reserve_step len user source p).0
unfolding reserve_step
reserved len user source p = go (unused_number (book_of p)) (place (book_of p) len)
  where
    go : (number offset : Option ℕ) → Moves 0 0 p (reserve_at number offset len user source p).0
    go None offset = alike p p refl refl refl refl
    go (Some number) None = alike p p refl refl refl refl
    go (Some number) (Some offset) = alike p _ refl refl refl refl

missed : (p q : Pool) → Moves 0 0 p q → Moves 0 1 p (record q { dropped = q.dropped + 1 })
missed p q t = record {
  size = t.size;
  offered = t.offered;
  arrivals = t.arrivals;
  few_arrivals = omega (arith, t.few_arrivals);
  few_dropped = omega (arith, t.few_dropped);
}

filling : (n : ℕ) (c : Content) (p q : Pool) → Moves 0 0 p q → Moves 0 1 p (filled n c q)
unfolding filled
filling n c p q t = record {
  size = t.size;
  offered = t.offered;
  arrivals = omega (arith, t.arrivals);
  few_arrivals = omega (arith, t.few_arrivals);
  few_dropped = omega (arith, t.few_dropped);
}

fills : (c : Content) (p q : Pool) (a : Answer) → Moves 0 0 p q → Moves 0 1 p (fill_reserved c (q, a)).0
fills c p q (slice n) t = filling n c p q t
fills c p q a t = missed p q t

fill : (c : Content) (user : Option ℕ) (source : ℕ) (p : Pool) → Moves 0 1 p (fill_step c user source p).0
unfolding fill_step
fill c user source p = fills c p (reserve_step (length c.image) user source p).0 (reserve_step (length c.image) user source p).1 (reserved (length c.image) user source p)

settles : (is : List Image) (p : Pool) → Moves 0 (length is) p (settled is p)
settles [] p = alike p p refl refl refl refl
settles (i ∷ is) p =
    let q : Pool = (fill_step i.content i.user i.source p).0 in
    wider 0 (1 + length is) (length (i ∷ is)) p (settled is q) (omega arith) (on 0 0 1 (length is) p q (settled is q) (fill i.content i.user i.source p) (settles is q))

-- ---- offers

counted : (must : Bool) (p q : Pool) (a : Answer) → Moves 1 0 p q → Moves 1 1 p (drop_counted must (q, a)).0
counted true p q a t = wider 1 0 1 p q (omega arith) t
counted false p q (refused why) t = record {
  size = t.size;
  offered = t.offered;
  arrivals = t.arrivals;
  few_arrivals = omega (arith, t.few_arrivals);
  few_dropped = omega (arith, t.few_dropped);
}
counted false p q a t = wider 1 0 1 p q (omega arith) t

must_offer : (user len source : ℕ) (p : Pool) → Moves 1 0 p (must_offer_step user len source p).0
unfolding must_offer_step
must_offer user len source p = go (over_quota q.size (slots q) user len)
  where
    q : Pool
    q = swept (record p { offered = p.offered + 1 })

    first_one : Moves 1 0 p q
    first_one = record { size = refl; offered = refl; arrivals = omega arith; few_arrivals = omega arith; few_dropped = omega arith }

    go : (b : Bool) → Moves 1 0 p ((elim b as (λ b. Pool × Answer) [ true ↦ (q, refused Quota) | false ↦ reserve_step len (Some user) source q ]).0)
    go true = first_one
    go false = on 1 0 0 0 p q (reserve_step len (Some user) source q).0 first_one (reserved len (Some user) source q)

offers : (user len source : ℕ) (must : Bool) (p : Pool) → Moves 1 1 p (offer_step user len source must p).0
unfolding offer_step
offers user len source must p = counted must p (must_offer_step user len source p).0 (must_offer_step user len source p).1 (must_offer user len source p)

-- ---- other acts

drains : (p : Pool) → Moves 0 0 p (drain_step p).0
unfolding drain_step
drains p = go (least of_lower_number (those is_reserved (slots p)))
  where
    go : (o : Option Slot) → Moves 0 0 p (drained_by p o).0
    go None = alike p _ refl refl refl refl
    go (Some s) = alike p p refl refl refl refl

told : (p q : Pool) → q.size ≡ p.size → q.offered ≡ p.offered → q.next_arrival ≡ p.next_arrival → Moves 0 0 p (record q { dropped = 0 })
told p q size offered arrival = record {
  size = size;
  offered = omega (arith, offered);
  arrivals = omega (arith, arrival);
  few_arrivals = omega (arith, arrival);
  few_dropped = omega arith;
}

receives : (mode : RecvMode) (p : Pool) → Moves 0 0 p (receive_step mode p).0
unfolding receive_step
receives mode p = go (next (slots p) mode.limit)
  where
    taken : (drops peeks : Bool) (n : ℕ) → Moves 0 0 p (record (taken_by drops peeks n p) { dropped = 0 })
    taken true peeks n = told p (pool_without n p) refl refl refl
    taken false peeks n = told p (with_phase (phase_by peeks) n p) refl refl refl

    none : (b : Bool) → Moves 0 0 p (none_received_by p b).0
    none true = alike p p refl refl refl refl
    none false = told p p refl refl refl

    go : (o : Option Slot) → Moves 0 0 p (received_by mode p o).0
    go None = none (some_of is_waiting (slots p))
    go (Some s) = taken mode.drop_it mode.peek s.number

frees : (n : ℕ) (p : Pool) → Moves 0 0 p (without_handed n p)
frees n p = go (free_refusal n (slots p))
  where
    go : (o : Option Refusal) → Moves 0 0 p (freed_by n p o)
    go None = alike p _ refl refl refl refl
    go (Some why) = alike p p refl refl refl refl

publishes : (n : ℕ) (c : Content) (p : Pool) (b : Bool) → Moves 0 1 p (published_by n c p b).0
publishes n c p true = filling n c p p (alike p p refl refl refl refl)
publishes n c p false = wider 0 0 1 p p (omega arith) (alike p p refl refl refl refl)

-- ---- any

moves : (g : ℕ) (p : Pool) (a : Act) → Moves (offers_in a) (messages_in a) p (open_step g p a).0
unfolding open_step visit_step post_step
moves g p (by_desk (raise size)) = alike p p refl refl refl refl
moves g p (by_desk (close force)) = alike p p refl refl refl refl
moves g p (by_desk (offer user len source must content)) = offers user len source must p
moves g p (by_desk (post image)) = on 0 0 0 1 p (swept p) _ (alike p (swept p) refl refl refl refl) (fill (record { image = image; shared = None; priority = pos 0 }) None 0 (swept p))
moves g p (by_desk drain) = drains p
moves g p (by_desk (settle images)) = wider 0 (0 + length images) (length images) p (settled images (swept p)) (omega arith) (on 0 0 0 (length images) p (swept p) (settled images (swept p)) (alike p (swept p) refl refl refl refl) (settles images (swept p)))
moves g p (publish generation n c) = publishes n c p (generation == g && is_reserved_for n c p)
moves g p (receive mode) = receives mode p
moves g p (read n sealed) = alike p p refl refl refl refl
moves g p (free n) = frees n p
moves g p idle = alike p p refl refl refl refl

goes_on : (a : Act) (p q : Pool) → Moves (offers_in a) (messages_in a) p q → GoesOnBy a p q
goes_on a p q t = record { size = t.size; offered = t.offered; arrivals = t.arrivals; few_arrivals = t.few_arrivals; few_dropped = t.few_dropped }

acted : (g : ℕ) (o : Option Pool) (a : Act) (p q : Pool) → o ≡ Some p → (acted_by g o a).0.pool ≡ Some q → GoesOnBy a p q
acted g None a p q e f = absurd cc
acted g (Some x) a p q e f =
    let one : x ≡ p = cc in
    let two : (open_step g x a).0 ≡ q = cc in
    goes_on a p q (subst (λ y. Moves (offers_in a) (messages_in a) p y) two (subst (λ y. Moves (offers_in a) (messages_in a) y (open_step g x a).0) one (moves g x a)))

same_on : (a : Act) (p q : Pool) → p ≡ q → offers_in a ≡ 0 → messages_in a ≡ 0 → GoesOnBy a p q
same_on a p q one none few = goes_on a p q (subst (λ y. Moves (offers_in a) (messages_in a) p y) one (rw (none, few) (alike p p refl refl refl refl)))

closed : (h : Hold) (force b : Bool) (p q : Pool) → h.pool ≡ Some p → (closed_by h b).0.pool ≡ Some q → GoesOnBy (by_desk (close force)) p q
closed h force true p q e f = let one : p ≡ q = cc in same_on (by_desk (close force)) p q one refl refl
closed h force false p q e f = absurd cc

pub counts_go_on : CountsGoOn
unfolding pool_step
counts_go_on h (by_desk (raise size)) p q e f other = absurd cc
counts_go_on h (by_desk (close force)) p q e f other = closed h force (not force && is_awaited h) p q e f
counts_go_on h (by_desk (offer user len source must content)) p q e f other = acted h.generation h.pool (by_desk (offer user len source must content)) p q e f
counts_go_on h (by_desk (post image)) p q e f other = acted h.generation h.pool (by_desk (post image)) p q e f
counts_go_on h (by_desk drain) p q e f other = acted h.generation h.pool (by_desk drain) p q e f
counts_go_on h (by_desk (settle images)) p q e f other = acted h.generation h.pool (by_desk (settle images)) p q e f
counts_go_on h (publish generation n c) p q e f other = acted h.generation h.pool (publish generation n c) p q e f
counts_go_on h (receive mode) p q e f other = acted h.generation h.pool (receive mode) p q e f
counts_go_on h (read n sealed) p q e f other = acted h.generation h.pool (read n sealed) p q e f
counts_go_on h (free n) p q e f other = acted h.generation h.pool (free n) p q e f
counts_go_on h idle p q e f other = acted h.generation h.pool idle p q e f

-- ---- generations

closed_on : (h : Hold) (b : Bool) → (h.generation ≤ (closed_by h b).0.generation) × ((closed_by h b).0.generation ≤ h.generation + 1)
closed_on h true = (omega arith, omega arith)
closed_on h false = (omega arith, omega arith)

stays_on : (g : ℕ) (o : Option Pool) (a : Act) → (g ≤ (acted_by g o a).0.generation) × ((acted_by g o a).0.generation ≤ g + 1)
stays_on g None a = (omega arith, omega arith)
stays_on g (Some p) a = (omega arith, omega arith)

pub generations_go_on : GenerationsGoOn
unfolding pool_step
generations_go_on h (by_desk (raise size)) = (omega arith, omega arith)
generations_go_on h (by_desk (close force)) = closed_on h (not force && is_awaited h)
generations_go_on h (by_desk (offer user len source must content)) = stays_on h.generation h.pool (by_desk (offer user len source must content))
generations_go_on h (by_desk (post image)) = stays_on h.generation h.pool (by_desk (post image))
generations_go_on h (by_desk drain) = stays_on h.generation h.pool (by_desk drain)
generations_go_on h (by_desk (settle images)) = stays_on h.generation h.pool (by_desk (settle images))
generations_go_on h (publish generation n c) = stays_on h.generation h.pool (publish generation n c)
generations_go_on h (receive mode) = stays_on h.generation h.pool (receive mode)
generations_go_on h (read n sealed) = stays_on h.generation h.pool (read n sealed)
generations_go_on h (free n) = stays_on h.generation h.pool (free n)
generations_go_on h idle = stays_on h.generation h.pool idle

-- ---- sizes

closed_size : (h : Hold) (force awaited : Bool) → (let s = closed_by h (not force && awaited) in size_of s.0 ≡ size_by (by_desk (close force)) s.1 (size_of h))
closed_size h true awaited = refl
closed_size h false true = refl
closed_size h false false = refl

keeps_size : (g : ℕ) (o : Option Pool) (a : Act) → size_of (acted_by g o a).0 ≡ option_map (λ (p : Pool). p.size) o
keeps_size g None a = refl
keeps_size g (Some p) a = ap Some (moves g p a).size

pub sizes_follow : SizesFollow
unfolding pool_step
sizes_follow h (by_desk (raise size)) = refl
sizes_follow h (by_desk (close force)) = closed_size h force (is_awaited h)
sizes_follow h (by_desk (offer user len source must content)) = keeps_size h.generation h.pool (by_desk (offer user len source must content))
sizes_follow h (by_desk (post image)) = keeps_size h.generation h.pool (by_desk (post image))
sizes_follow h (by_desk drain) = keeps_size h.generation h.pool (by_desk drain)
sizes_follow h (by_desk (settle images)) = keeps_size h.generation h.pool (by_desk (settle images))
sizes_follow h (publish generation n c) = keeps_size h.generation h.pool (publish generation n c)
sizes_follow h (receive mode) = keeps_size h.generation h.pool (receive mode)
sizes_follow h (read n sealed) = keeps_size h.generation h.pool (read n sealed)
sizes_follow h (free n) = keeps_size h.generation h.pool (free n)
sizes_follow h idle = keeps_size h.generation h.pool idle
