-- Placing a slice and giving one back keep a book sound.
use Rattle.std.specs.Prelude.{◌≡◌, ◌<◌, ◌≤◌, ◌%◌, ◌+◌, ◌-◌, ◌||◌, ◌⊎◌, ℕ, Bool, true, false, not, List, [], ◌∷◌, ◌++◌, map, length, Option, Some, None, nat_le, nat_lt, option_map, filter, cond, refl, sum_by}
use Rattle.std.specs.List.{AllByRecursion, IsDistinct, list_any, range_with_len}
use Rattle.std.proofs.Common.{arith, inl, inr, eqb, suc, zero}
use Rattle.std.proofs.lemmas.Bool.{lt-ltb}
use Rattle.std.proofs.lemmas.Bool.Decides.{nat_tests}
use Rattle.std.proofs.lemmas.List.{length-map}
use Rattle.std.proofs.lemmas.List.Elements.{filter-append}
use Rattle.std.proofs.lemmas.List.Sums.{sum_by-append, sum_by-cons}
use Rattle.std.proofs.lemmas.Map.Steps.{length-le_from_distinct_below}
use Rattle.kd_model.specs.Words.{but_those, put_in_order, those}
use Rattle.kd_model.specs.declared.slice_no.TheConstants.{SLICES}
use Rattle.kd_model.specs.declared.placed.Gap.{Gap}
use Rattle.kd_model.specs.declared.placed.Placed.{Placed}
use Rattle.kd_model.specs.Slices.{AreInOrder, Book, IsEven, IsSound, best_gap, between, empty_book, slice_end, gaps, gaps_from, has_number, has_same_number, is_better, is_lower, is_placed, lowest_unused, place, unused_number, with_slice, without_slice}
use Rattle.kd_model.proofs.Lists.{all_follow, all_of_append, all_of_filter, all_of_found, all_of_put, distinct_of_filter, distinct_of_put, found_passes, range_below}
use Rattle.kd_model.proofs.Least.{IsRanking, all_of_least}

-- gaps rank by length, then start
pub gaps_rank : IsRanking is_better
gaps_rank = record { chains = chains; levels = levels }
  where
    chains : (a b c : Gap) → is_better a b ≡ true → is_better b c ≡ true → is_better a c ≡ true
    chains a b c p q = grind (arith, nat_tests)

    levels : (a b c : Gap) → is_better a b ≡ false → is_better b c ≡ false → is_better a c ≡ false
    levels a b c p q = grind (arith, nat_tests)

-- from a place on, one of the gaps begins at a place and holds a length
abbrev pub HasRoom : ℕ → ℕ → List Placed → ℕ → ℕ → Type 0
HasRoom from size [] at len = (at ≡ from) × (at + len ≤ size)
HasRoom from size (s ∷ ss) at len = ((at ≡ from) × (at + len ≤ s.offset)) ⊎ HasRoom (slice_end s) size ss at len

abbrev pub holds : ℕ → Gap → Bool
holds len g = nat_le len g.len

between_holds : (from upto len : ℕ) → 0 < len → AllByRecursion (λ (g : Gap). (g.start ≡ from) × (g.start + len ≤ upto)) (those (holds len) (between from upto))
between_holds from upto len h = outer (nat_lt from upto) refl
  where
    inner : (b : Bool) → nat_le len (upto - from) ≡ b → AllByRecursion (λ (g : Gap). (g.start ≡ from) × (g.start + len ≤ upto)) (cond b (record { start = from; len = upto - from } ∷ []) [])
    inner true e = ((refl, grind (arith, nat_tests)), tt)
    inner false e = tt

    outer : (b : Bool) → nat_lt from upto ≡ b → AllByRecursion (λ (g : Gap). (g.start ≡ from) × (g.start + len ≤ upto)) (those (holds len) (elim b [ true ↦ record { start = from; len = upto - from } ∷ [] | false ↦ [] ]))
    outer true e = inner (nat_le len (upto - from)) refl
    outer false e = tt

-- the front of each gap that holds a length has room for it
pub gaps_have_room : (from size len : ℕ) (ss : List Placed) → 0 < len → AllByRecursion (λ (g : Gap). HasRoom from size ss g.start len) (those (holds len) (gaps_from from size ss))
gaps_have_room from size len [] h = between_holds from size len h
gaps_have_room from size len (s ∷ ss) h =
    rw filter-append (all_of_append _ (those (holds len) (between from s.offset)) (those (holds len) (gaps_from (slice_end s) size ss))
    (all_follow _ _ _ (λ g p. inl p) (between_holds from s.offset len h))
    (all_follow _ _ _ (λ g p. inr p) (gaps_have_room (slice_end s) size len ss h)))

-- what begins in one of the gaps from a place on begins there or behind
room_above : (from size at len : ℕ) (ss : List Placed) → AreInOrder from size ss → HasRoom from size ss at len → from ≤ at
room_above from size at len [] o r = omega arith
room_above from size at len (s ∷ ss) o (inl r) = omega arith
room_above from size at len (s ∷ ss) o (inr r) = let above = room_above (slice_end s) size at len ss o.2 r in omega arith

gap_between : (from upto : ℕ) → sum_by (λ (g : Gap). g.len) (between from upto) ≡ upto - from
gap_between from upto = go (nat_lt from upto) refl
  where
    go : (b : Bool) → nat_lt from upto ≡ b → sum_by (λ (g : Gap). g.len) (elim b [ true ↦ record { start = from; len = upto - from } ∷ [] | false ↦ [] ]) ≡ upto - from
    go true e = omega arith
    go false e = grind (arith, nat_tests)

all_in_middle : {X : Type 0} (P : X → Type 0) (x : X) (xs ys : List X) → AllByRecursion P (xs ++ x ∷ ys) → P x
all_in_middle P x [] ys a = a.0
all_in_middle P x (y ∷ xs) ys a = all_in_middle P x xs ys a.1

-- slices stay in order with one more in a gap
pub order_with : (from size : ℕ) (s : Placed) (ss : List Placed) → 0 < s.len → AreInOrder from size ss → HasRoom from size ss s.offset s.len → AreInOrder from size (put_in_order is_lower s ss)
order_with from size s [] h o r = (omega arith, h, r.1)
order_with from size s (t ∷ ts) h o (inl r) =
    let low : is_lower s t ≡ true = lt-ltb s.offset t.offset (omega arith) in
    rw (low, put_in_order) (omega arith, h, (r.1, o.1, o.2))
order_with from size s (t ∷ ts) h o (inr r) =
    let above = room_above (slice_end t) size s.offset s.len ts o.2 r in
    let high : is_lower s t ≡ false = grind (arith, nat_tests) in
    rw (high, put_in_order) (o.0, o.1, order_with (slice_end t) size s ts h o.2 r)

-- slices stay in order from a lower place on
order_below : (low from size : ℕ) (ss : List Placed) → low ≤ from → AreInOrder from size ss → AreInOrder low size ss
order_below low from size [] h o = omega arith
order_below low from size (s ∷ ss) h o = (omega arith, o.1, o.2)

-- slices stay in order with fewer of them
pub order_of_filter : (from size : ℕ) (p : Placed → Bool) (ss : List Placed) → AreInOrder from size ss → AreInOrder from size (filter p ss)
order_of_filter from size p [] o = o
order_of_filter from size p (s ∷ ss) o =
    let rest = order_of_filter (slice_end s) size p ss o.2 in
    elim (p s) as (λ b. AreInOrder from size (cond b (s ∷ filter p ss) (filter p ss))) [
      | true ↦ (o.0, o.1, rest)
      | false ↦ order_below from (slice_end s) size (filter p ss) (omega arith) rest
    ]

-- the gaps of slices at multiples of 8 begin at multiples of 8
gaps_are_even : (from size : ℕ) (ss : List Placed) → from % 8 ≡ 0 → AllByRecursion IsEven ss → AllByRecursion (λ (g : Gap). g.start % 8 ≡ 0) (gaps_from from size ss)
gaps_are_even from size [] h e = one (nat_lt from size)
  where
    one : (b : Bool) → AllByRecursion (λ (g : Gap). g.start % 8 ≡ 0) (elim b [ true ↦ record { start = from; len = size - from } ∷ [] | false ↦ [] ])
    one true = (h, tt)
    one false = tt
gaps_are_even from size (s ∷ ss) h e =
    all_of_append _ (between from s.offset) (gaps_from (slice_end s) size ss) (one (nat_lt from s.offset)) (gaps_are_even (slice_end s) size ss (omega arith) e.1)
  where
    one : (b : Bool) → AllByRecursion (λ (g : Gap). g.start % 8 ≡ 0) (elim b [ true ↦ record { start = from; len = s.offset - from } ∷ [] | false ↦ [] ])
    one true = (h, tt)
    one false = tt

-- an unused number is one of the pool's numbers
pub unused_below : (b : Book) (n : ℕ) → unused_number b ≡ Some n → n < SLICES
unfolding lowest_unused
unused_below b n h = all_of_found (λ k. k < SLICES) (λ k. not (is_placed k b)) (range_with_len 0 SLICES) n (range_below SLICES 0) h

none_has : (n : ℕ) (ss : List Placed) → not (list_any (has_number n) ss) ≡ true → AllByRecursion (λ (s : Placed). has_number n s ≡ false) ss
none_has n [] h = tt
none_has n (s ∷ ss) h = go (has_number n s) refl (list_any (has_number n) ss) (none_has n ss) h
  where
    go : (b : Bool) → has_number n s ≡ b → (c : Bool) → (not c ≡ true → AllByRecursion (λ (t : Placed). has_number n t ≡ false) ss) → not (b || c) ≡ true → AllByRecursion (λ (t : Placed). has_number n t ≡ false) (s ∷ ss)
    go true e c f h = cc
    go false e c f h = (e, f h)

-- no slice has an unused number
pub unused_is_free : (b : Book) (n : ℕ) → unused_number b ≡ Some n → AllByRecursion (λ (s : Placed). has_number n s ≡ false) b.slices
unfolding lowest_unused
unused_is_free b n h = none_has n b.slices (found_passes (λ k. not (is_placed k b)) (range_with_len 0 SLICES) n h)

-- the numbers of slices
abbrev pub numbers : List Placed → List ℕ
numbers ss = map (λ (s : Placed). s.number) ss

all_of_numbers : (P : ℕ → Type 0) (ss : List Placed) → AllByRecursion (λ (s : Placed). P s.number) ss → AllByRecursion P (numbers ss)
all_of_numbers P [] a = tt
all_of_numbers P (s ∷ ss) a = (a.0, all_of_numbers P ss a.1)

distinct_numbers : (ss : List Placed) → IsDistinct has_same_number ss → IsDistinct eqb (numbers ss)
unfolding IsDistinct
distinct_numbers [] d = tt
distinct_numbers (s ∷ ss) d = (all_of_numbers (λ n. eqb s.number n ≡ false) ss d.0, distinct_numbers ss d.1)

among_below : (limit q : ℕ) (ns : List ℕ) → AllByRecursion (λ n. n < limit) ns → list_any (eqb q) ns ≡ true → q < limit
among_below limit q [] a h = cc
among_below limit q (n ∷ ns) a h = go (eqb q n) refl (list_any (eqb q) ns) (among_below limit q ns a.1) h
  where
    go : (b : Bool) → eqb q n ≡ b → (c : Bool) → (c ≡ true → q < limit) → (b || c) ≡ true → q < limit
    go true e c f h = let first : n < limit = a.0 in grind (arith, nat_tests)
    go false e c f h = f h

-- while a number is unused there are fewer slices than numbers
pub fewer_than_numbers : (b : Book) (n : ℕ) → IsSound b → unused_number b ≡ Some n → length b.slices < SLICES
unfolding IsDistinct
fewer_than_numbers b n s h =
    let below : AllByRecursion (λ k. k < SLICES) (n ∷ numbers b.slices) = (unused_below b n h, all_of_numbers _ b.slices s.numbers) in
    let apart : AllByRecursion (λ k. eqb n k ≡ false) (numbers b.slices) = all_of_numbers _ b.slices (all_follow _ _ _ (λ t e. grind (arith, nat_tests)) (unused_is_free b n h)) in
    let most : length (n ∷ numbers b.slices) ≤ SLICES = length-le_from_distinct_below (n ∷ numbers b.slices) SLICES (apart, distinct_numbers b.slices s.distinct) (λ q. among_below SLICES q (n ∷ numbers b.slices) below) in
    omega (arith, length-map b.slices (λ (t : Placed). t.number))

-- there are at most as many slices as numbers
pub at_most_numbers : (b : Book) → IsSound b → length b.slices ≤ SLICES
at_most_numbers b s =
    let below : AllByRecursion (λ k. k < SLICES) (numbers b.slices) = all_of_numbers _ b.slices s.numbers in
    let most : length (numbers b.slices) ≤ SLICES = length-le_from_distinct_below (numbers b.slices) SLICES (distinct_numbers b.slices s.distinct) (λ q. among_below SLICES q (numbers b.slices) below) in
    omega (arith, length-map b.slices (λ (t : Placed). t.number))

pub sound_empty : (size : ℕ) → size % 8 ≡ 0 → IsSound (empty_book size)
unfolding IsDistinct
sound_empty size h = record { eights = h; order = omega arith; even = tt; numbers = tt; distinct = tt }

place_start : (o : Option Gap) (at : ℕ) → option_map (λ (g : Gap). g.start) o ≡ Some at → (g : Gap) × (o ≡ Some g) × (g.start ≡ at)
place_start None at h = cc
place_start (Some g) at h = (g, refl, cc)

-- a book stays sound with a slice at its place
pub sound_with : (b : Book) (n at len : ℕ) → IsSound b → 0 < len → len % 8 ≡ 0 → unused_number b ≡ Some n → place b len ≡ Some at → IsSound (with_slice (record { number = n; offset = at; len = len }) b)
unfolding place best_gap gaps
sound_with b n at len s some eights num pl =
    let g = place_start (best_gap b len) at pl in
    let new : Placed = record { number = n; offset = at; len = len } in
    let room : HasRoom 0 b.size b.slices g.0.start len = all_of_least (λ (g : Gap). HasRoom 0 b.size b.slices g.start len) is_better _ g.0 (gaps_have_room 0 b.size len b.slices some) g.1 in
    let even : g.0.start % 8 ≡ 0 = all_of_least (λ (g : Gap). g.start % 8 ≡ 0) is_better _ g.0 (all_of_filter _ (holds len) _ (gaps_are_even 0 b.size b.slices refl s.even)) g.1 in
    let free = unused_is_free b n num in
    record {
      eights = s.eights;
      order = order_with 0 b.size new b.slices some s.order (rw g.2 at room);
      even = all_of_put IsEven is_lower new b.slices (rw g.2 at even, eights) s.even;
      numbers = all_of_put (λ (t : Placed). t.number < SLICES) is_lower new b.slices (unused_below b n num) s.numbers;
      distinct = distinct_of_put has_same_number is_lower new b.slices (all_follow _ _ _ (λ t e. grind (arith, nat_tests)) free) free s.distinct;
    }

-- a book stays sound without a slice
pub sound_without : (b : Book) (n : ℕ) → IsSound b → IsSound (without_slice n b)
sound_without b n s = record {
  eights = s.eights;
  order = order_of_filter 0 b.size _ b.slices s.order;
  even = all_of_filter _ _ b.slices s.even;
  numbers = all_of_filter _ _ b.slices s.numbers;
  distinct = distinct_of_filter _ _ b.slices s.distinct;
}

left_of : (s : Placed) (xs : List Placed) → AllByRecursion (λ x. has_same_number x s ≡ false) xs → but_those (has_number s.number) xs ≡ xs
left_of s [] a = refl
left_of s (x ∷ xs) a = let out : has_number s.number x ≡ false = a.0 in rw (out, left_of s xs a.1) refl

right_of : (s : Placed) (ys : List Placed) → AllByRecursion (λ y. has_same_number s y ≡ false) ys → but_those (has_number s.number) ys ≡ ys
right_of s [] a = refl
right_of s (y ∷ ys) a = let out : has_number s.number y ≡ false = grind (arith, nat_tests) in rw (out, right_of s ys a.1) refl

-- the slice of a number goes alone
pub taken_out : (s : Placed) (xs ys : List Placed) → IsDistinct has_same_number (xs ++ s ∷ ys) → but_those (has_number s.number) (xs ++ s ∷ ys) ≡ xs ++ ys
unfolding IsDistinct
taken_out s [] ys d = let here : has_number s.number s ≡ true = grind (arith, nat_tests) in rw (here, right_of s ys d.0) refl
taken_out s (x ∷ xs) ys d = let out : has_number s.number x ≡ false = all_in_middle (λ z. has_same_number x z ≡ false) s xs ys d.0 in rw (out, taken_out s xs ys d.1) refl

-- what is in a list is found by its number
pub number_in_middle : (s : Placed) (xs ys : List Placed) → list_any (has_number s.number) (xs ++ s ∷ ys) ≡ true
number_in_middle s [] ys = let here : has_number s.number s ≡ true = grind (arith, nat_tests) in rw here refl
number_in_middle s (x ∷ xs) ys = go (has_number s.number x) (number_in_middle s xs ys)
  where
    go : (b : Bool) → list_any (has_number s.number) (xs ++ s ∷ ys) ≡ true → (b || list_any (has_number s.number) (xs ++ s ∷ ys)) ≡ true
    go true e = refl
    go false e = e

-- slices and gaps from a place on make up what there is
pub order_is_whole : (from size : ℕ) (ss : List Placed) → AreInOrder from size ss → from + (sum_by (λ (s : Placed). s.len) ss + sum_by (λ (g : Gap). g.len) (gaps_from from size ss)) ≡ size
order_is_whole from size [] o = rw (gap_between from size) (omega arith)
order_is_whole from size (s ∷ ss) o =
    let rest = order_is_whole (slice_end s) size ss o.2 in
    let here = gap_between from s.offset in
    rw (sum_by-cons, sum_by-append, here) (omega arith)
