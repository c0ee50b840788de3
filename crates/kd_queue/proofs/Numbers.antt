-- No number has_entry twice, so a queue has no more entries than a pool has slices.
use Rattle.std.proofs.Common.{◌≡◌, ℕ, ◌<◌, ◌≤◌, Bool, true, false, cond, eqb, ◌||◌, List, [], ◌∷◌, ◌++◌, length, refl, ap, arith, length-append}
use Rattle.std.specs.List.{AllByRecursion, IsDistinct, filter}
use Rattle.std.proofs.lemmas.Bool.{eqb-true}
use Rattle.std.proofs.lemmas.Cmp.{nat_eq_equiv}
use Rattle.std.proofs.lemmas.List.{length-map}
use Rattle.std.proofs.lemmas.Map.Keys.{IsDistinct-push, IsDistinct-head, IsDistinct-tail, IsDistinct-cons}
use Rattle.std.proofs.lemmas.Map.Steps.{length-le_from_distinct_below}
use Rattle.kd_model.specs.declared.slice_no.TheConstants.{SLICES}
use Rattle.kd_queue.specs.declared.entry.Entry.{Entry}
use Rattle.kd_queue.specs.Order.{entry_number, entry_numbers, has_entry}
use Rattle.kd_queue.specs.Room.{AreSlices}

abbrev IsBelow : Entry → Type 0
IsBelow e = e.number < SLICES

waiting_is_below : (es : List Entry) (n : ℕ) → AllByRecursion IsBelow es → has_entry n es ≡ true → n < SLICES
waiting_is_below [] n all h = absurd (cc)
waiting_is_below (e ∷ es) n all h = one (waiting_is_below es n all.1) (eqb n e.number) refl h
  where
    one : (has_entry n es ≡ true → n < SLICES) → (t : Bool) → eqb n e.number ≡ t → (t || has_entry n es) ≡ true → n < SLICES
    one later true q h = let s : n ≡ e.number = eqb-true n e.number q in let lt : e.number < SLICES = all.0 in omega arith
    one later false q h = later h

pub at_most : (es : List Entry) → AreSlices es → length es ≤ SLICES
at_most es s = omega (arith, length-map es entry_number, length-le_from_distinct_below (entry_numbers es) SLICES s.apart (λ q h. waiting_is_below es q s.below h))

below_append : (es : List Entry) (e : Entry) → AllByRecursion IsBelow es → IsBelow e → AllByRecursion IsBelow (es ++ e ∷ [])
below_append [] e all lt = (lt, tt)
below_append (x ∷ es) e all lt = (all.0, below_append es e all.1 lt)

numbers_append : (es : List Entry) (e : Entry) → entry_numbers (es ++ e ∷ []) ≡ entry_numbers es ++ e.number ∷ []
numbers_append [] e = refl
numbers_append (x ∷ es) e = ap (x.number ∷◌) (numbers_append es e)

pub more : (es : List Entry) (e : Entry) → AreSlices es → has_entry e.number es ≡ false → e.number < SLICES → AreSlices (es ++ e ∷ [])
more es e s new lt = record { apart = rw (numbers_append es e) (IsDistinct-push nat_eq_equiv (entry_numbers es) e.number s.apart new); below = below_append es e s.below lt }

apart_fewer : (keeps : Entry → Bool) (n : ℕ) (es : List Entry) → AllByRecursion (λ m. eqb n m ≡ false) (entry_numbers es) → AllByRecursion (λ m. eqb n m ≡ false) (entry_numbers (filter keeps es))
apart_fewer keeps n [] all = tt
apart_fewer keeps n (e ∷ es) all = one (apart_fewer keeps n es all.1) (keeps e)
  where
    one : AllByRecursion (λ m. eqb n m ≡ false) (entry_numbers (filter keeps es)) → (t : Bool) → AllByRecursion (λ m. eqb n m ≡ false) (entry_numbers (cond t (e ∷ filter keeps es) (filter keeps es)))
    one rest true = (all.0, rest)
    one rest false = rest

pub fewer : (keeps : Entry → Bool) (es : List Entry) → AreSlices es → AreSlices (filter keeps es)
fewer keeps [] s = s
fewer keeps (e ∷ es) s = one (fewer keeps es (record { apart = IsDistinct-tail eqb e.number (entry_numbers es) s.apart; below = s.below.1 })) (keeps e)
  where
    one : AreSlices (filter keeps es) → (t : Bool) → AreSlices (cond t (e ∷ filter keeps es) (filter keeps es))
    one rest true = record { apart = IsDistinct-cons eqb e.number (entry_numbers (filter keeps es)) (apart_fewer keeps e.number es (IsDistinct-head eqb e.number (entry_numbers es) s.apart)) rest.apart; below = (s.below.0, rest.below) }
    one rest false = rest

pub none : AreSlices []
unfolding IsDistinct
none = record { apart = tt; below = tt }

-- a number that has no entry yet leaves room for one
pub room_for : (es now : List Entry) (e : Entry) → es ≡ now → AreSlices es → has_entry e.number now ≡ false → e.number < SLICES → length es < SLICES
room_for es now e same s new lt = omega (arith, length-append es (e ∷ []), at_most (es ++ e ∷ []) (more es e s (rw same new) lt))
