-- What a receive comes to, case by case.
use Rattle.std.specs.Prelude.{◌≡◌, ◌||◌, ℕ, Bool, true, false, List, [], ◌∷◌, Option, Some, None, refl, ℤ}
use Rattle.std.specs.List.{AllByRecursion}
use Rattle.std.proofs.Common.{ap, arith, ◌∙◌}
use Rattle.std.proofs.lemmas.Bool.Decides.{nat_tests}
use Rattle.kd_types.specs.declared.refusal.Refusal.TheVariants.{NoMessage, NoSuchPriority}
use Rattle.kd_model.proofs.Lists.{all_follow}
use Rattle.kd_model.specs.Words.{some_of}
use Rattle.kd_queue.proofs.Next.{all_of_next_by}
use Rattle.kd_acts.specs.State.{Answer, Pool, got, slot_numbered, is_waiting, refused, slots, waiting_slots}
use Rattle.kd_acts.specs.Steps.{after_taking, next, receive_step, with_dropped, with_phase, pool_without}
use Rattle.kd_acts.specs.declared.slot.Slot.{Slot}
use Rattle.kd_acts.specs.declared.slot.Phase.TheVariants.{Handed, Peeked}
use Rattle.kd_acts.proofs.Arrivals.{all_of_waiting}
use Rattle.kd_acts.specs.declared.receive.RecvMode.{RecvMode}

-- a slot of the table is among them by its number
pub each_among : (ss : List Slot) → AllByRecursion (λ (s : Slot). some_of (slot_numbered s.number) ss ≡ true) ss
each_among [] = tt
each_among (s ∷ ss) =
    let here : slot_numbered s.number s ≡ true = grind (arith, nat_tests) in
    (ap (λ b. b || some_of (slot_numbered s.number) ss) here, all_follow _ _ ss (λ x h. later x h) (each_among ss))
  where
    later : (x : Slot) → some_of (slot_numbered x.number) ss ≡ true → (slot_numbered x.number s || some_of (slot_numbered x.number) ss) ≡ true
    later x h = go (slot_numbered x.number s)
      where
        go : (b : Bool) → (b || some_of (slot_numbered x.number) ss) ≡ true
        go true = refl
        go false = h

-- by the slot that is next, if any, and by whether any waits
pub receives : (mode : RecvMode) (p : Pool) (ss : List Slot) (o : Option Slot) (b : Bool) → slots p ≡ ss → next ss mode.limit ≡ o → some_of is_waiting ss ≡ b
    → receive_step mode p ≡ elim o [ Some s ↦ (with_dropped 0 (after_taking mode s.number p), got s.number s.offset s.len p.dropped) | None ↦ elim b [ true ↦ (p, refused NoSuchPriority) | false ↦ (with_dropped 0 p, refused (NoMessage p.dropped)) ] ]
unfolding receive_step
receives mode p ss o b e n w =
    ap (λ x. told x (some_of is_waiting (slots p))) (ap (λ xs. next xs mode.limit) e ∙ n) ∙ ap (told o) (ap (some_of is_waiting) e ∙ w)
  where
    told : Option Slot → Bool → Pool × Answer
    told o b = elim o [ Some s ↦ (with_dropped 0 (after_taking mode s.number p), got s.number s.offset s.len p.dropped) | None ↦ elim b [ true ↦ (p, refused NoSuchPriority) | false ↦ (with_dropped 0 p, refused (NoMessage p.dropped)) ] ]

-- what holds of each slot of the table holds of the one that is next
pub all_of_next : (P : Slot → Type 0) (ss : List Slot) (limit : Option ℤ) (s : Slot) → AllByRecursion P ss → next ss limit ≡ Some s → P s
unfolding next
all_of_next P ss limit s a e = all_of_next_by P (λ (s : Slot). s.priority) (waiting_slots ss) limit s (all_of_waiting P ss a) e

-- it is in the table
pub next_among : (ss : List Slot) (limit : Option ℤ) (s : Slot) → next ss limit ≡ Some s → some_of (slot_numbered s.number) ss ≡ true
next_among ss limit s e = all_of_next (λ (x : Slot). some_of (slot_numbered x.number) ss ≡ true) ss limit s (each_among ss) e

-- counting anew and taking the slice go in either order
pub takes_either_way : (mode : RecvMode) (n : ℕ) (p : Pool) → with_dropped 0 (after_taking mode n p) ≡ after_taking mode n (with_dropped 0 p)
takes_either_way mode n p = go mode.drop_it
  where
    go : (b : Bool) → with_dropped 0 (elim b [ true ↦ pool_without n p | false ↦ with_phase (elim mode.peek [ true ↦ Peeked | false ↦ Handed ]) n p ]) ≡ elim b [ true ↦ pool_without n (with_dropped 0 p) | false ↦ with_phase (elim mode.peek [ true ↦ Peeked | false ↦ Handed ]) n (with_dropped 0 p) ]
    go true = refl
    go false = refl
