-- A pool never wants memory: what ends a plan at its first visit is a refusal of the pool's own.
use Rattle.std.specs.Prelude.{◌≡◌, ◌≢◌, ◌+◌, ◌&&◌, ℕ, Bool, true, false, not, List, [], ◌∷◌, Option, Some, None, refl}
use Rattle.std.proofs.Common.{sym, ap, ◌∙◌, subst}
use Rattle.kd_model.proofs.Truth.{same_some}
use Rattle.kd_model.specs.Slices.{place, unused_number}
use Rattle.kd_model.specs.Words.{least, those}
use Rattle.kd_types.specs.declared.refusal.Refusal.{Refusal}
use Rattle.kd_types.specs.declared.refusal.Refusal.TheVariants.{Busy, MessagesQueued, OutOfMemory, Quota}
use Rattle.kd_acts.specs.declared.slot.Slot.{Slot}
use Rattle.kd_acts.specs.State.{Answer, Hold, Image, Pool, Visit, book_of, by_desk, bytes_of, close, done, drain, drained, freed, gone, got, is_reserved, offer, placed, post, raise, refused, settle, slice, slots}
use Rattle.kd_acts.specs.Steps.{answer, closed_answer, drain_step, drop_counted, is_awaited, must_offer_step, of_lower_number, offer_step, open_step, over_quota, pool_step, reserve_at, reserve_step, swept, visit_step, waiting_images, without_waiting}
use Rattle.kd_commands.specs.Plans.{Part}
use Rattle.kd_commands.specs.Visits.{first_ends, is_must, met, parts_visited, with_images}
use Rattle.kd_hands.specs.declared.views.View.{View}
use Rattle.kd_histories.specs.Turns.{Did, Turn}
use Rattle.kd_histories.specs.Pools.{IsAnswered, hold_met, hold_of}
use Rattle.kd_bus.specs.Visited.{AreVisits, OneVisit, answers_in}

abbrev IsOwnRefusal : Answer → Type 0
IsOwnRefusal (refused OutOfMemory) = ⊥
IsOwnRefusal _ = Unit {0}

not_memory : (a : Answer) (why : Refusal) → IsOwnRefusal a → a ≡ refused why → why ≢ OutOfMemory
not_memory a why own e z = subst IsOwnRefusal (e ∙ ap (λ r. refused r) z) own

counted : (must : Bool) (x : Pool × Answer) → IsOwnRefusal x.1 → IsOwnRefusal (drop_counted must x).1
counted true x own = own
counted false (p, refused why) own = own
counted false (p, done) own = own
counted false (p, placed) own = own
counted false (p, gone) own = own
counted false (p, freed) own = own
counted false (p, slice n) own = own
counted false (p, drained images) own = own
counted false (p, got n offset len dropped) own = own
counted false (p, bytes_of bytes) own = own

reserves : (n at : Option ℕ) (len source : ℕ) (user : Option ℕ) (p : Pool) → IsOwnRefusal (reserve_at n at len user source p).1
reserves None at len source user p = tt
reserves (Some n) None len source user p = tt
reserves (Some n) (Some at) len source user p = tt

offers : (user len source : ℕ) (must : Bool) (p : Pool) → IsOwnRefusal (offer_step user len source must p).1
unfolding offer_step must_offer_step reserve_step
offers user len source must p = counted must (must_offer_step user len source p) (go (over_quota q.size (slots q) user len))
  where
    q : Pool
    q = swept (record p { offered = p.offered + 1 })

    go : (b : Bool) → IsOwnRefusal (elim b as (λ b. Pool × Answer) [ true ↦ (q, refused Quota) | false ↦ reserve_step len (Some user) source q ]).1
    go true = tt
    go false = reserves (unused_number (book_of q)) (place (book_of q) len) len source (Some user) q

drains : (p : Pool) → IsOwnRefusal (drain_step p).1
unfolding drain_step
drains p = go (least of_lower_number (those is_reserved (slots p)))
  where
    go : (o : Option Slot) → IsOwnRefusal (elim o as (λ o. Pool × Answer) [ Some s ↦ (p, refused (Busy s.number)) | None ↦ (without_waiting p, drained (waiting_images p)) ]).1
    go None = tt
    go (Some s) = tt

needed : (h : Hold) (v : Visit) → is_must v ≡ true → IsOwnRefusal (answer h (by_desk v))
unfolding pool_step open_step visit_step closed_answer
needed h (offer user len source must c) m = go h.pool
  where
    go : (o : Option Pool) → IsOwnRefusal (elim o as (λ o. Hold × Answer) [ None ↦ (h, closed_answer (by_desk (offer user len source must c))) | Some p ↦ let s = open_step h.generation p (by_desk (offer user len source must c)) in (record { generation = h.generation; pool = Some s.0 }, s.1) ]).1
    go None = tt
    go (Some p) = offers user len source must p
needed h drain m = go h.pool
  where
    go : (o : Option Pool) → IsOwnRefusal (elim o as (λ o. Hold × Answer) [ None ↦ (h, closed_answer (by_desk drain)) | Some p ↦ let s = open_step h.generation p (by_desk drain) in (record { generation = h.generation; pool = Some s.0 }, s.1) ]).1
    go None = tt
    go (Some p) = drains p
needed h (close force) m = go (not force && is_awaited h)
  where
    go : (b : Bool) → IsOwnRefusal (elim b as (λ b. Hold × Answer) [ true ↦ (h, refused MessagesQueued) | false ↦ (record { generation = h.generation + 1; pool = None }, done) ]).1
    go true = tt
    go false = tt
needed h (raise size) m = absurd cc
needed h (post image) m = absurd cc
needed h (settle images) m = absurd cc

met_must : (is : List Image) (v : Visit) → is_must (with_images is v) ≡ is_must v
met_must is (offer user len source must c) = refl
met_must is drain = refl
met_must is (close force) = refl
met_must is (raise size) = refl
met_must is (post image) = refl
met_must is (settle images) = refl

ends_must : (p : Part) (ps : List Part) (a : Answer) (os : List Answer) (why : Refusal) → first_ends (p ∷ ps) (a ∷ os) ≡ Some why → (a ≡ refused why) × (is_must p.act ≡ true)
unfolding first_ends
ends_must p ps (refused y) os why e = go (is_must p.act) refl e
  where
    go : (b : Bool) → is_must p.act ≡ b → elim b as (λ b. Option Refusal) [ true ↦ Some y | false ↦ None ] ≡ Some why → (refused y ≡ refused why) × (is_must p.act ≡ true)
    go true m q = (ap (λ r. refused r) (same_some y why q), m)
    go false m q = absurd cc
ends_must p ps done os why e = absurd cc
ends_must p ps placed os why e = absurd cc
ends_must p ps gone os why e = absurd cc
ends_must p ps freed os why e = absurd cc
ends_must p ps (slice n) os why e = absurd cc
ends_must p ps (drained images) os why e = absurd cc
ends_must p ps (got n offset len dropped) os why e = absurd cc
ends_must p ps (bytes_of bytes) os why e = absurd cc

-- the refusal that ends a plan
pub ends_without_memory : (ps : List Part) (ds : List Did) (v v' : View Turn) (why : Refusal) → AreVisits (parts_visited [] ps (answers_in ds)) ds v v' → first_ends ps (answers_in ds) ≡ Some why → why ≢ OutOfMemory
unfolding parts_visited first_ends
ends_without_memory [] ds v v' why each e = absurd cc
ends_without_memory (p ∷ ps) [] v v' why each e = absurd cc
ends_without_memory (p ∷ ps) (d ∷ ds) v v' why each e =
    let one : OneVisit (met [] p).seat (met [] p).act d v each.0 = each.1 in
    let f = ends_must p ps d.answer (answers_in ds) why e in
    let told : d.answer ≡ answer (hold_met d (hold_of one.list)) (by_desk (met [] p).act) = subst (λ a. IsAnswered (hold_met d (hold_of one.list)) a d.answer) one.act one.is.answer in
    not_memory (answer (hold_met d (hold_of one.list)) (by_desk (met [] p).act)) why (needed (hold_met d (hold_of one.list)) (met [] p).act (met_must [] p.act ∙ f.1)) (sym told ∙ f.0)
