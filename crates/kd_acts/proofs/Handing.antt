-- Which slices are received and not freed, after any act.
use Rattle.std.specs.Prelude.{◌≡◌, ◌==◌, ◌&&◌, ◌||◌, ℕ, Bool, true, false, List, [], ◌∷◌, cond, map, not, Option, Some, None, refl, ℤ}
use Rattle.std.specs.List.{AllByRecursion, IsDistinct, find}
use Rattle.std.proofs.Common.{subst, ap, arith, sym, ◌∙◌}
use Rattle.std.proofs.lemmas.Bool.{or_right, false≢true, and_right, not_from_true, not_from_false}
use Rattle.std.proofs.lemmas.Bool.Decides.{nat_tests}
use Rattle.std.proofs.lemmas.Map.Views.{any-filter_same}
use Rattle.kd_types.specs.declared.refusal.Refusal.{Refusal}
use Rattle.kd_model.proofs.Lists.{all_follow, map_of_filter}
use Rattle.kd_model.specs.Words.{but_those, put_in_order, some_of}
use Rattle.kd_acts.specs.declared.slot.Phase.{Phase}
use Rattle.kd_acts.specs.declared.slot.Phase.TheVariants.{Freed, Handed, Peeked, Queued, Reserved}
use Rattle.kd_acts.specs.declared.slot.Slot.{Slot}
use Rattle.kd_acts.specs.Lasting.{is_handed}
use Rattle.kd_acts.specs.State.{Slice, slot_numbered, is_freed, is_reserved, is_waiting, waiting_slots}
use Rattle.kd_acts.specs.Steps.{next, set_phase, stands_lower}
use Rattle.kd_queue.proofs.Next.{all_of_next_by}
use Rattle.kd_acts.proofs.Arrivals.{all_wait}
use Rattle.kd_acts.proofs.Apart.{AreApart, each_found, slot_of}
use Rattle.kd_acts.proofs.Cases.{refused_by}
use Rattle.kd_acts.proofs.Changes.{IsOfOne, phase_is_of_one}
use Rattle.kd_acts.proofs.Receives.{all_of_next}

-- the slot of the number is handed
abbrev pub hands : ℕ → Slot → Bool
hands n s = slot_numbered n s && is_handed s

-- one of some slices is
abbrev pub hands_one : ℕ → List Slice → Bool
hands_one n xs = some_of (hands n) (map slot_of xs)

-- the slot that was found, if any, is
abbrev pub is_found_handed : Option Slot → Bool
is_found_handed o = elim o [ None ↦ false | Some s ↦ is_handed s ]

-- ---- by its phase no slot is two things

-- a slot in a phase
abbrev slot_in : Slot → Phase → Slot
slot_in s phase = record s { phase = phase }

-- what is handed isn't freed and doesn't wait
pub handed_stays : (s : Slot) → is_handed s ≡ true → (is_freed s ≡ false) × (is_waiting s ≡ false)
handed_stays s e = go s.phase e
  where
    go : (phase : Phase) → is_handed (slot_in s phase) ≡ true → (is_freed (slot_in s phase) ≡ false) × (is_waiting (slot_in s phase) ≡ false)
    go Reserved e = (refl, refl)
    go Queued e = absurd (false≢true e)
    go Peeked e = absurd (false≢true e)
    go Handed e = (refl, refl)
    go Freed e = absurd (false≢true e)

-- what is reserved isn't handed, nor what waits
pub reserved_isn't : (s : Slot) → is_reserved s ≡ true → is_handed s ≡ false
reserved_isn't s e = go s.phase e
  where
    go : (phase : Phase) → is_reserved (slot_in s phase) ≡ true → is_handed (slot_in s phase) ≡ false
    go Reserved e = refl
    go Queued e = refl
    go Peeked e = refl
    go Handed e = sym e
    go Freed e = refl

waiting_isn't : (s : Slot) → is_waiting s ≡ true → is_handed s ≡ false
waiting_isn't s e = go s.phase e
  where
    go : (phase : Phase) → is_waiting (slot_in s phase) ≡ true → is_handed (slot_in s phase) ≡ false
    go Reserved e = refl
    go Queued e = refl
    go Peeked e = refl
    go Handed e = sym e
    go Freed e = refl

-- where a free is refused, the slice of the number isn't handed
pub refused_isn't : (o : Option Slot) (why : Refusal) → refused_by o ≡ Some why → is_found_handed o ≡ false
refused_isn't None why e = refl
refused_isn't (Some s) why e = go s.phase e
  where
    go : (phase : Phase) → refused_by (Some (slot_in s phase)) ≡ Some why → is_handed (slot_in s phase) ≡ false
    go Reserved e = refl
    go Queued e = refl
    go Peeked e = refl
    go Handed e = absurd cc
    go Freed e = refl

-- ---- changes of a list

-- where what goes isn't handed, as much is handed
pub stays_by_filter : (n : ℕ) (goes : Slot → Bool) (xs : List Slice) → ((s : Slot) → hands n s ≡ true → goes s ≡ false)
    → hands_one n (but_those (λ (x : Slice). goes x.slot) xs) ≡ hands_one n xs
stays_by_filter n goes xs stays =
    ap (some_of (hands n)) (map_of_filter slot_of (λ (x : Slice). not (goes x.slot)) (λ s. not (goes s)) (λ x. refl) xs)
    ∙ any-filter_same (hands n) (λ s. not (goes s)) true (λ s h. not_from_false (goes s) (stays s h)) (map slot_of xs)

-- where all of a number go, none of it is handed
pub ends_by_filter : (n : ℕ) (goes : Slot → Bool) (xs : List Slice) → ((s : Slot) → hands n s ≡ true → goes s ≡ true)
    → hands_one n (but_those (λ (x : Slice). goes x.slot) xs) ≡ false
ends_by_filter n goes xs all =
    ap (some_of (hands n)) (map_of_filter slot_of (λ (x : Slice). not (goes x.slot)) (λ s. not (goes s)) (λ x. refl) xs)
    ∙ any-filter_same (hands n) (λ s. not (goes s)) false (λ s h. not_from_true (goes s) (all s h)) (map slot_of xs)

-- a slice more that isn't handed
pub stays_by_put : (n : ℕ) (x : Slice) (xs : List Slice) → hands n x.slot ≡ false → hands_one n (put_in_order stands_lower x xs) ≡ hands_one n xs
stays_by_put n x [] out = ap (λ b. b || false) out
stays_by_put n x (y ∷ ys) out = go (stands_lower x y) (stays_by_put n x ys out)
  where
    go : (b : Bool) → hands_one n (put_in_order stands_lower x ys) ≡ hands_one n ys
        → hands_one n (elim b [ true ↦ x ∷ y ∷ ys | false ↦ y ∷ put_in_order stands_lower x ys ]) ≡ hands_one n (y ∷ ys)
    go true e = ap (λ b. b || hands_one n (y ∷ ys)) out
    go false e = ap (λ b. hands n y.slot || b) e

-- a change of slices that are handed after it as before
pub stays_by_map : (n : ℕ) (f : Slice → Slice) (xs : List Slice) → AllByRecursion (λ (x : Slice). hands n (f x).slot ≡ hands n x.slot) xs
    → hands_one n (map f xs) ≡ hands_one n xs
stays_by_map n f [] a = refl
stays_by_map n f (x ∷ xs) a = ap (λ b. b || hands_one n (map f xs)) a.0 ∙ ap (λ b. hands n x.slot || b) (stays_by_map n f xs a.1)

-- what has another number doesn't have this one
other_number : (m n : ℕ) (s : Slot) → (m == n) ≡ false → slot_numbered m s ≡ true → slot_numbered n s ≡ false
other_number m n s apart e = grind (arith, nat_tests)

-- as much of one number is handed where it is so of another one that may be the same
pub by_number : (m n : ℕ) (xs ys : List Slice) → hands_one m ys ≡ hands_one m xs → ((m == n) ≡ false → hands_one n ys ≡ hands_one n xs)
    → hands_one n ys ≡ hands_one n xs
by_number m n xs ys own other = go (m == n) refl
  where
    go : (b : Bool) → (m == n) ≡ b → hands_one n ys ≡ hands_one n xs
    go true e = let same : m ≡ n = grind (arith, nat_tests) in subst (λ k. hands_one k ys ≡ hands_one k xs) same own
    go false e = other e

-- a change of the slice of another number
pub stays_elsewhere : (m n : ℕ) (f change : Slice → Slice) → IsOfOne m f change → (m == n) ≡ false → (xs : List Slice) → hands_one n (map f xs) ≡ hands_one n xs
stays_elsewhere m n f change one apart xs = stays_by_map n f xs (each xs)
  where
    same : (x : Slice) (b : Bool) → slot_numbered m x.slot ≡ b → hands n (f x).slot ≡ hands n x.slot
    same x false e = ap (λ (y : Slice). hands n y.slot) (one.others x e)
    same x true e =
        let out : slot_numbered n x.slot ≡ false = other_number m n x.slot apart e in
        let still : slot_numbered n (f x).slot ≡ false = ap (λ k. k == n) (one.number x) ∙ out in
        ap (λ b. b && is_handed (f x).slot) still ∙ sym (ap (λ b. b && is_handed x.slot) out)

    each : (ys : List Slice) → AllByRecursion (λ (x : Slice). hands n (f x).slot ≡ hands n x.slot) ys
    each [] = tt
    each (y ∷ ys) = (same y (slot_numbered m y.slot) refl, each ys)

-- a change after which no slice of the number is handed
pub ends_by_map : (n : ℕ) (f change : Slice → Slice) → IsOfOne n f change → ((x : Slice) → is_handed (change x).slot ≡ false) → (xs : List Slice)
    → hands_one n (map f xs) ≡ false
ends_by_map n f change one ends [] = refl
ends_by_map n f change one ends (x ∷ xs) = ap (λ b. b || hands_one n (map f xs)) (go (slot_numbered n x.slot) refl) ∙ ends_by_map n f change one ends xs
  where
    go : (b : Bool) → slot_numbered n x.slot ≡ b → hands n (f x).slot ≡ false
    go true e = and_right (slot_numbered n (f x).slot) (is_handed (f x).slot) (ap (λ (y : Slice). is_handed y.slot) (one.own x e) ∙ ends x)
    go false e = ap (λ b. b && is_handed (f x).slot) (ap (λ k. k == n) (one.number x) ∙ e)

-- one of the number is handed where it comes into that phase
pub begins_by_phase : (n : ℕ) (xs : List Slice) → some_of (slot_numbered n) (map slot_of xs) ≡ true → hands_one n (map (set_phase Handed n) xs) ≡ true
begins_by_phase n [] h = h
begins_by_phase n (x ∷ xs) h = go (slot_numbered n x.slot) refl (begins_by_phase n xs) h
  where
    later : List Slice
    later = map (set_phase Handed n) xs

    go : (b : Bool) → slot_numbered n x.slot ≡ b → (some_of (slot_numbered n) (map slot_of xs) ≡ true → hands_one n later ≡ true)
        → (b || some_of (slot_numbered n) (map slot_of xs)) ≡ true → hands_one n (set_phase Handed n x ∷ later) ≡ true
    go true e ih h = ap (λ (y : Slice). hands_one n (y ∷ later)) ((phase_is_of_one Handed n).own x e) ∙ ap (λ b. (b && true) || hands_one n later) e
    go false e ih h = or_right (hands n (set_phase Handed n x).slot) (hands_one n later) (ih h)

-- ---- the slot of a number

none_hands : (n : ℕ) (ss : List Slot) → AllByRecursion (λ (s : Slot). slot_numbered n s ≡ false) ss → some_of (hands n) ss ≡ false
none_hands n [] a = refl
none_hands n (s ∷ ss) a = ap (λ b. (b && is_handed s) || some_of (hands n) ss) a.0 ∙ none_hands n ss a.1

-- in slots that lie apart it is handed as the one is that is found
pub hands_found : (n : ℕ) (ss : List Slot) → AreApart ss → some_of (hands n) ss ≡ is_found_handed (find (slot_numbered n) ss)
unfolding IsDistinct
hands_found n [] d = refl
hands_found n (s ∷ ss) d = go (slot_numbered n s) refl (hands_found n ss d.1)
  where
    or_false : (b : Bool) → (b || false) ≡ b
    or_false true = refl
    or_false false = refl

    go : (b : Bool) → slot_numbered n s ≡ b → some_of (hands n) ss ≡ is_found_handed (find (slot_numbered n) ss)
        → ((b && is_handed s) || some_of (hands n) ss) ≡ is_found_handed (cond b (Some s) (find (slot_numbered n) ss))
    go true e ih = ap (λ b. is_handed s || b) (none_hands n ss (all_follow _ _ ss (λ (x : Slot) f. grind (arith, nat_tests)) d.0)) ∙ or_false (is_handed s)
    go false e ih = ih

-- ---- the slot that a receive takes

pub next_waits : (ss : List Slot) (limit : Option ℤ) (s : Slot) → next ss limit ≡ Some s → is_waiting s ≡ true
unfolding next
next_waits ss limit s e = all_of_next_by (λ (s : Slot). is_waiting s ≡ true) (λ (s : Slot). s.priority) (waiting_slots ss) limit s (all_wait ss) e

-- it isn't handed
pub next_isn't_handed : (ss : List Slot) (limit : Option ℤ) (s : Slot) → AreApart ss → next ss limit ≡ Some s → some_of (hands s.number) ss ≡ false
next_isn't_handed ss limit s d e =
    let found : find (slot_numbered s.number) ss ≡ Some s = all_of_next (λ (s : Slot). find (slot_numbered s.number) ss ≡ Some s) ss limit s (each_found ss d) e in
    hands_found s.number ss d ∙ ap is_found_handed found ∙ waiting_isn't s (next_waits ss limit s e)
