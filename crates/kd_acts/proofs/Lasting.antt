-- Whether a pool is open after an act, and that its slices keep numbers of their own.
use Rattle.std.specs.Prelude.{◌≡◌, ◌+◌, ◌==◌, ◌&&◌, ℕ, Bool, true, false, is_some, not, Option, Some, None, refl}
use Rattle.std.specs.List.{IsDistinct}
use Rattle.kd_model.specs.Words.{least, some_of, those}
use Rattle.kd_types.specs.declared.refusal.Refusal.{Refusal}
use Rattle.kd_acts.specs.declared.receive.RecvMode.{RecvMode}
use Rattle.kd_acts.specs.declared.slot.Phase.TheVariants.{Freed}
use Rattle.kd_acts.specs.declared.slot.Slot.{Slot}
use Rattle.kd_acts.specs.Lasting.{AreNumbered, NumbersStay, OpenFollows, is_let_be, is_open}
use Rattle.kd_acts.specs.State.{Act, Content, Hold, Pool, Visit, by_desk, close, drain, free, idle, is_reserved, is_waiting, offer, post, publish, raise, read, receive, settle, slots}
use Rattle.kd_acts.specs.Steps.{drain_step, filled, free_refusal, is_awaited, is_reserved_for, next, of_lower_number, open_step, pool_step, receive_step, visit_step, without_handed}
use Rattle.kd_acts.proofs.Added.{IsKeptByAdding, offer_keeps, post_keeps, settle_keeps}
use Rattle.kd_acts.proofs.Apart.{HaveNumbers, numbered_of_filter, numbered_of_map, numbered_of_put, pool_numbered, slices_numbered}
use Rattle.kd_acts.proofs.Cases.{acted_by, closed_by, drained_by, freed_by, hold, none_received_by, phase_by, published_by, received_by, taken_by}
use Rattle.kd_acts.proofs.Changes.{content_is_of_one, phase_is_of_one}

-- ---- open pools

-- an act that goes by whether the pool is open leaves it so
stays_open : (g : ℕ) (o : Option Pool) (a : Act) → is_open (acted_by g o a).0 ≡ is_some o
stays_open g None a = refl
stays_open g (Some p) a = refl

-- what is false of closed pools holds after a close as before it where it is refused, and else not
pub closes : (test : Hold → Bool) → ((g : ℕ) → test (hold g None) ≡ false) → (h : Hold) (force awaited : Bool)
    → (let s = closed_by h (not force && awaited) in test s.0 ≡ (is_let_be force s.1 && test h))
closes test closed h true awaited = closed (h.generation + 1)
closes test closed h false true = refl
closes test closed h false false = closed (h.generation + 1)

-- whether a pool is open follows from the acts and their answers
pub open_follows : OpenFollows
unfolding pool_step
open_follows h (by_desk (raise size)) = refl
open_follows h (by_desk (close force)) = closes is_open (λ g. refl) h force (is_awaited h)
open_follows h (by_desk (offer user len source must content)) = stays_open h.generation h.pool (by_desk (offer user len source must content))
open_follows h (by_desk (post image)) = stays_open h.generation h.pool (by_desk (post image))
open_follows h (by_desk drain) = stays_open h.generation h.pool (by_desk drain)
open_follows h (by_desk (settle images)) = stays_open h.generation h.pool (by_desk (settle images))
open_follows h (publish generation n c) = stays_open h.generation h.pool (publish generation n c)
open_follows h (receive mode) = stays_open h.generation h.pool (receive mode)
open_follows h (read n sealed) = stays_open h.generation h.pool (read n sealed)
open_follows h (free n) = stays_open h.generation h.pool (free n)
open_follows h idle = stays_open h.generation h.pool idle

-- ---- numbers of their own

numbers_kept_by_adding : IsKeptByAdding HaveNumbers
numbers_kept_by_adding = record {
  sweeping = λ xs d. numbered_of_filter _ xs d;
  reserving = λ xs s new d. numbered_of_put s xs new d;
  filling = λ xs s c arrival new d. numbered_of_map _ (content_is_of_one s.slot.number c arrival).number _ (numbered_of_put s xs new d);
}

drain_numbers : (p : Pool) → HaveNumbers p.slices → HaveNumbers (drain_step p).0.slices
unfolding drain_step
drain_numbers p d = go (least of_lower_number (those is_reserved (slots p)))
  where
    go : (o : Option Slot) → HaveNumbers (drained_by p o).0.slices
    go None = numbered_of_filter _ p.slices d
    go (Some s) = d

receive_numbers : (mode : RecvMode) (p : Pool) → HaveNumbers p.slices → HaveNumbers (receive_step mode p).0.slices
unfolding receive_step
receive_numbers mode p d = go (next (slots p) mode.limit)
  where
    none : (b : Bool) → HaveNumbers (none_received_by p b).0.slices
    none true = d
    none false = d

    taken : (drops : Bool) (n : ℕ) → HaveNumbers (taken_by drops mode.peek n p).slices
    taken true n = numbered_of_filter _ p.slices d
    taken false n = numbered_of_map _ (phase_is_of_one (phase_by mode.peek) n).number p.slices d

    go : (o : Option Slot) → HaveNumbers (received_by mode p o).0.slices
    go (Some s) = taken mode.drop_it s.number
    go None = none (some_of is_waiting (slots p))

free_numbers : (n : ℕ) (p : Pool) → HaveNumbers p.slices → HaveNumbers (without_handed n p).slices
free_numbers n p d = go (free_refusal n (slots p))
  where
    go : (o : Option Refusal) → HaveNumbers (freed_by n p o).slices
    go None = numbered_of_map _ (phase_is_of_one Freed n).number p.slices d
    go (Some why) = d

publish_numbers : (n : ℕ) (c : Content) (p : Pool) (b : Bool) → HaveNumbers p.slices → HaveNumbers (published_by n c p b).0.slices
unfolding filled
publish_numbers n c p true d = numbered_of_map _ (content_is_of_one n c p.next_arrival).number p.slices d
publish_numbers n c p false d = d

visit_numbers : (p : Pool) (v : Visit) → HaveNumbers p.slices → HaveNumbers (visit_step p v).0.slices
unfolding visit_step
visit_numbers p (offer user len source must content) d = offer_keeps HaveNumbers numbers_kept_by_adding user len source must p d
visit_numbers p (post image) d = post_keeps HaveNumbers numbers_kept_by_adding image p d
visit_numbers p drain d = drain_numbers p d
visit_numbers p (settle images) d = settle_keeps HaveNumbers numbers_kept_by_adding images p d
visit_numbers p (raise size) d = d
visit_numbers p (close force) d = d

open_numbers : (g : ℕ) (p : Pool) (a : Act) → HaveNumbers p.slices → HaveNumbers (open_step g p a).0.slices
unfolding open_step
open_numbers g p (by_desk v) d = visit_numbers p v d
open_numbers g p (publish generation n c) d = publish_numbers n c p (generation == g && is_reserved_for n c p) d
open_numbers g p (receive mode) d = receive_numbers mode p d
open_numbers g p (read n sealed) d = d
open_numbers g p (free n) d = free_numbers n p d
open_numbers g p idle d = d

either_numbers : (g : ℕ) (o : Option Pool) (a : Act) → AreNumbered o → AreNumbered (acted_by g o a).0.pool
either_numbers g None a d = tt
either_numbers g (Some p) a d = pool_numbered (open_step g p a).0 (open_numbers g p a (slices_numbered p d))

close_numbers : (h : Hold) (b : Bool) → AreNumbered h.pool → AreNumbered (closed_by h b).0.pool
close_numbers h true d = d
close_numbers h false d = tt

-- the slices of a pool keep numbers of their own
pub numbers_stay : NumbersStay
unfolding pool_step IsDistinct
numbers_stay h (by_desk (raise size)) d = record { distinct = tt; below = tt }
numbers_stay h (by_desk (close force)) d = close_numbers h (not force && is_awaited h) d
numbers_stay h (by_desk (offer user len source must content)) d = either_numbers h.generation h.pool (by_desk (offer user len source must content)) d
numbers_stay h (by_desk (post image)) d = either_numbers h.generation h.pool (by_desk (post image)) d
numbers_stay h (by_desk drain) d = either_numbers h.generation h.pool (by_desk drain) d
numbers_stay h (by_desk (settle images)) d = either_numbers h.generation h.pool (by_desk (settle images)) d
numbers_stay h (publish generation n c) d = either_numbers h.generation h.pool (publish generation n c) d
numbers_stay h (receive mode) d = either_numbers h.generation h.pool (receive mode) d
numbers_stay h (read n sealed) d = either_numbers h.generation h.pool (read n sealed) d
numbers_stay h (free n) d = either_numbers h.generation h.pool (free n) d
numbers_stay h idle d = either_numbers h.generation h.pool idle d
