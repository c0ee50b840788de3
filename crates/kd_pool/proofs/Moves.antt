-- What waits in a queue becomes rows, one by one.
use Rattle.std.specs.Prelude.{◌≡◌, ◌<◌, ◌==◌, ℕ, true, false, List, [], ◌∷◌, ◌++◌, length, map, Some, None, option_map, refl}
use Rattle.std.specs.List.{AllByRecursion, IsDistinct, find}
use Rattle.std.proofs.lemmas.Bool.Decides.{nat_tests}
use Rattle.std.proofs.lemmas.List.{append-nil, append_assoc}
use Rattle.std.proofs.Common.{ap, arith, length-append, sym, ◌∙◌}
use Rattle.kd_model.specs.Words.{but_those}
use Rattle.kd_queue.specs.Order.{entry_number, is_entry_of, oldest}
use Rattle.kd_queue.specs.declared.entry.Entry.{Entry}
use Rattle.kd_acts.specs.State.{entry_of, queue_of, slot_numbered, waiting_slots}
use Rattle.kd_acts.proofs.Apart.{AreApart}
use Rattle.kd_acts.proofs.Arrivals.{all_of_waiting}
use Rattle.kd_acts.specs.declared.slot.Slot.{Slot}
use Rattle.kd_pool.specs.Table.{AreFound}
use Rattle.kd_pool.proofs.Drains.{few_arrive}
use Rattle.kd_pool.proofs.Sharing.{waiting_apart}

-- the rows so far, and the slots whose entries are left
pub record Moves (ss rows : List Slot) (q : List Entry) : Type 0 where
  pub left : List Slot
  pub all : rows ++ left ≡ waiting_slots ss
  pub queued : q ≡ map entry_of left
  pub found : AllByRecursion (λ (s : Slot). find (slot_numbered s.number) ss ≡ Some s) left
  pub apart : AreApart left

-- at first all that wait are left
pub moves_start : (ss rows : List Slot) (q : List Entry) → AreFound ss → AreApart ss → q ≡ queue_of ss → rows ≡ [] → Moves ss rows q
moves_start ss rows q found apart queued none = record {
  left = waiting_slots ss;
  all = ap (λ xs. xs ++ waiting_slots ss) none;
  queued = queued;
  found = all_of_waiting _ ss found;
  apart = waiting_apart ss apart;
}

-- the oldest of them as the next row
pub record Step (ss rows : List Slot) (q : List Entry) (n : ℕ) : Type 0 where
  pub slot : Slot
  pub found : find (slot_numbered n) ss ≡ Some slot
  pub moved : Moves ss (rows ++ slot ∷ []) (but_those (is_entry_of n) q)
  pub fewer : length (but_those (is_entry_of n) q) < length q
  pub room : length rows < length ss

-- no other entry has its number
others : (n : ℕ) (ss : List Slot) → AllByRecursion (λ (s : Slot). (n == s.number) ≡ false) ss → but_those (is_entry_of n) (map entry_of ss) ≡ map entry_of ss
others n [] a = refl
others n (s ∷ ss) a =
    let out : (s.number == n) ≡ false = let apart = a.0 in grind (arith, nat_tests) in
    rw out (ap (entry_of s ∷◌) (others n ss a.1))

pub moves_on : (ss rows : List Slot) (q : List Entry) (n : ℕ) → Moves ss rows q → option_map entry_number (oldest q) ≡ Some n → Step ss rows q n
unfolding IsDistinct
moves_on ss rows q n m e = go m.left m.all m.queued m.found m.apart
  where
    go : (left : List Slot) → rows ++ left ≡ waiting_slots ss → q ≡ map entry_of left
        → AllByRecursion (λ (s : Slot). find (slot_numbered s.number) ss ≡ Some s) left → AreApart left → Step ss rows q n
    go [] all queued found apart = absurd (let none : option_map entry_number (oldest []) ≡ Some n = rw queued at e in cc)
    go (s ∷ left) all queued found apart =
        let number : s.number ≡ n = let same = rw queued at e in cc in
        let own : (s.number == s.number) ≡ true = grind (arith, nat_tests) in
        let rest : but_those (is_entry_of n) q ≡ map entry_of left =
        ap (but_those (is_entry_of n)) queued
        ∙ ap (λ k. but_those (is_entry_of k) (map entry_of (s ∷ left))) (sym number)
        ∙ rw own (others s.number left apart.0) in
        let many = ap length all in
        record {
          slot = s;
          found = ap (λ k. find (slot_numbered k) ss) (sym number) ∙ found.0;
          moved = record {
            left = left;
            all = append_assoc rows (s ∷ []) left ∙ all;
            queued = rest;
            found = found.1;
            apart = apart.1;
          };
          fewer = (let now = ap length rest in let before = ap length queued in omega (arith, now, before));
          room = omega (arith, few_arrive ss, many, length-append rows (s ∷ left));
        }

-- where the queue is empty, all are rows
pub moves_end : (ss rows : List Slot) (q : List Entry) → Moves ss rows q → option_map entry_number (oldest q) ≡ None → (rows ≡ waiting_slots ss) × (q ≡ [])
moves_end ss rows q m e = go m.left m.all m.queued
  where
    go : (left : List Slot) → rows ++ left ≡ waiting_slots ss → q ≡ map entry_of left → (rows ≡ waiting_slots ss) × (q ≡ [])
    go [] all queued = (sym (append-nil rows) ∙ all, queued)
    go (s ∷ left) all queued = absurd (let none : option_map entry_number (oldest (map entry_of (s ∷ left))) ≡ None = rw queued at e in cc)
