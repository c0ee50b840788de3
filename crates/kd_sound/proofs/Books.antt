-- Changes of slices that leave their book sound.
use Rattle.std.specs.Prelude.{◌≡◌, ◌<◌, ◌≤◌, ◌+◌, ◌⊎◌, ℕ, Bool, true, false, cond, filter, List, [], ◌∷◌, length, map, Some, refl}
use Rattle.std.specs.List.{AllByRecursion, find}
use Rattle.std.proofs.Common.{ap, arith, inl, inr, sym, ◌∙◌}
use Rattle.std.proofs.lemmas.Bool.{false≢true}
use Rattle.kd_model.proofs.Lists.{all_follow, all_of_filter, all_of_found, all_over, all_under, map_of_put}
use Rattle.kd_model.proofs.Places.{order_is_whole}
use Rattle.kd_model.specs.Slices.{AreInOrder, Book, IsEven, IsSound, gaps, is_lower, slice_end, with_slice}
use Rattle.kd_model.specs.Words.{put_in_order}
use Rattle.kd_model.specs.declared.placed.Placed.{Placed}
use Rattle.kd_acts.specs.Lasting.{AreNumbered}
use Rattle.kd_acts.specs.Sound.{IsKept, IsSoundPool}
use Rattle.kd_acts.specs.State.{Pool, Slice, book_of, lies_lower, placed_of, slot_numbered, slots}
use Rattle.kd_acts.specs.Steps.{pool_with_slice, stands_lower}
use Rattle.kd_acts.specs.declared.slot.Slot.{Slot}
use Rattle.kd_acts.proofs.Apart.{numbered_of_filter, pool_numbered, slices_numbered, slot_of}

-- where slices lie
abbrev pub places : List Slice → List Placed
places xs = map placed_of (map slot_of xs)

-- what holds of each place holds of each slice's, and back
pub under : (P : Placed → Type 0) (xs : List Slice) → AllByRecursion P (places xs) → AllByRecursion (λ (x : Slice). P (placed_of x.slot)) xs
under P xs a = all_under (λ (s : Slot). P (placed_of s)) slot_of xs (all_under P placed_of (map slot_of xs) a)

pub over : (P : Placed → Type 0) (xs : List Slice) → AllByRecursion (λ (x : Slice). P (placed_of x.slot)) xs → AllByRecursion P (places xs)
over P xs a = all_over P placed_of (map slot_of xs) (all_over (λ (s : Slot). P (placed_of s)) slot_of xs a)

-- a pool of a sound book is sound where its memory has its size and each slice its bytes
pub made : (p : Pool) → length p.memory ≡ p.size → IsSound (book_of p) → AllByRecursion (IsKept p.memory) p.slices → IsSoundPool p
unfolding gaps
made p memory book bytes = record { memory = memory; book = book; whole = omega (arith, order_is_whole 0 p.size (places p.slices) book.order); bytes = bytes }

-- the slices of a sound pool have numbers of their own
pub numbered : (p : Pool) → IsSound (book_of p) → AreNumbered (Some p)
numbered p s = record { distinct = s.distinct; below = s.numbers }

-- ---- fewer slices

-- slices stay in order with fewer of them, from any lower place on
order_of_those : (low from size : ℕ) (keeps : Slice → Bool) (xs : List Slice) → low ≤ from → AreInOrder from size (places xs) → AreInOrder low size (places (filter keeps xs))
order_of_those low from size keeps [] h o = omega (arith, h, o)
order_of_those low from size keeps (x ∷ xs) h o =
    let end : ℕ = slice_end (placed_of x.slot) in
    elim (keeps x) as (λ b. AreInOrder low size (places (cond b (x ∷ filter keeps xs) (filter keeps xs)))) [
      | true ↦ (omega (arith, h, o.0), o.1, order_of_those end end size keeps xs (omega arith) o.2)
      | false ↦ order_of_those low end size keeps xs (omega (arith, h, o.0)) o.2
    ]

pub sound_of_those : (p : Pool) (keeps : Slice → Bool) → IsSoundPool p → IsSoundPool (record p { slices = filter keeps p.slices })
sound_of_those p keeps s =
    let q : Pool = record p { slices = filter keeps p.slices } in
    let numbers = pool_numbered q (numbered_of_filter keeps p.slices (slices_numbered p (numbered p s.book))) in
    made q s.memory (record {
      eights = s.book.eights;
      order = order_of_those 0 0 p.size keeps p.slices (omega arith) s.book.order;
      even = over IsEven q.slices (all_of_filter _ keeps p.slices (under IsEven p.slices s.book.even));
      numbers = numbers.below;
      distinct = numbers.distinct;
    }) (all_of_filter _ keeps p.slices s.bytes)

-- ---- one more

-- the book of a pool with a slice more
pub book_with : (s : Slice) (p : Pool) → book_of (pool_with_slice s p) ≡ with_slice (placed_of s.slot) (book_of p)
book_with s p =
    let B : List Placed → Book = λ xs. record { size = p.size; slices = xs } in
    ap (λ ss. B (map placed_of ss)) (map_of_put slot_of stands_lower lies_lower (λ a b. refl) s p.slices)
    ∙ ap B (map_of_put placed_of lies_lower is_lower (λ a b. refl) s.slot (slots p))

-- what holds of each, with one put among them, holds of that one
pub of_put : {X : Type 0} (P : X → Type 0) (below : X → X → Bool) (x : X) (xs : List X) → AllByRecursion P (put_in_order below x xs) → P x
of_put P below x [] a = a.0
of_put {X = X} P below x (y ∷ ys) a = go (below x y) (of_put P below x ys) a
  where
    go : (b : Bool) → (AllByRecursion P (put_in_order below x ys) → P x) → AllByRecursion P (elim b as (λ b. List X) [ true ↦ x ∷ y ∷ ys | false ↦ y ∷ put_in_order below x ys ]) → P x
    go true ih a = a.0
    go false ih a = ih a.1

-- ---- slices that stay where they are

-- the book of changed slices that stay where they are
pub book_stays : (f : Slice → Slice) → ((x : Slice) → placed_of (f x).slot ≡ placed_of x.slot) → (p : Pool) → book_of (record p { slices = map f p.slices }) ≡ book_of p
book_stays f stays p = ap (λ xs. let b : Book = record { size = p.size; slices = xs } in b) (each p.slices)
  where
    each : (xs : List Slice) → places (map f xs) ≡ places xs
    each [] = refl
    each (x ∷ xs) = ap (λ s. s ∷ places (map f xs)) (stays x) ∙ ap (placed_of x.slot ∷◌) (each xs)

-- ---- where slices lie

-- from a place on, within a size
pub record LiesIn (from size : ℕ) (s : Slot) : Type 0 where
  pub low : from ≤ s.offset
  pub some : 0 < s.len
  pub inside : s.offset + s.len ≤ size

ends : (from size : ℕ) (ss : List Slot) → AreInOrder from size (map placed_of ss) → from ≤ size
ends from size [] o = o
ends from size (s ∷ ss) o = let more = ends (slice_end (placed_of s)) size ss o.2 in omega (arith, o.0, more)

-- slots in order from a place on lie there
pub behind : (from size : ℕ) (ss : List Slot) → AreInOrder from size (map placed_of ss) → AllByRecursion (LiesIn from size) ss
behind from size [] o = tt
behind from size (s ∷ ss) o =
    let end : ℕ = slice_end (placed_of s) in (
      record { low = o.0; some = o.1; inside = ends end size ss o.2 },
      all_follow (LiesIn end size) (LiesIn from size) ss (λ x l. record { low = omega (arith, o.0, l.low); some = l.some; inside = l.inside }) (behind end size ss o.2),
    )

-- those of a sound pool lie inside it
pub all_inside : (p : Pool) → IsSoundPool p → AllByRecursion (λ (s : Slot). LiesIn 0 (length p.memory) s) (slots p)
all_inside p s =
    all_follow (LiesIn 0 p.size) (LiesIn 0 (length p.memory)) (slots p) (λ x l. record { low = l.low; some = l.some; inside = omega (arith, l.inside, s.memory) }) (behind 0 p.size (slots p) s.book.order)

-- a slot doesn't meet what is as long from a place on
abbrev pub IsAway : ℕ → ℕ → Slot → Type 0
IsAway at len s = (s.offset + s.len ≤ at) ⊎ (at + len ≤ s.offset)

-- one of another number doesn't meet it
abbrev pub IsAsideOf : ℕ → Slot → Slot → Type 0
IsAsideOf n t s = slot_numbered n s ≡ false → IsAway t.offset t.len s

-- so it is of each beside the one that is found by the number
pub all_aside : (n from size : ℕ) (t : Slot) (ss : List Slot) → AreInOrder from size (map placed_of ss) → find (slot_numbered n) ss ≡ Some t → AllByRecursion (IsAsideOf n t) ss
all_aside n from size t [] o e = tt
all_aside n from size t (s ∷ ss) o e = go (slot_numbered n s) refl e (all_aside n end size t ss o.2)
  where
    end : ℕ
    end = slice_end (placed_of s)

    later : AllByRecursion (LiesIn end size) ss
    later = behind end size ss o.2

    go : (b : Bool) → slot_numbered n s ≡ b → cond b (Some s) (find (slot_numbered n) ss) ≡ Some t → (find (slot_numbered n) ss ≡ Some t → AllByRecursion (IsAsideOf n t) ss) → AllByRecursion (IsAsideOf n t) (s ∷ ss)
    go true h f ih =
        let same : s ≡ t = cc in
        (λ out. absurd (false≢true (sym out ∙ h)), all_follow (LiesIn end size) (IsAsideOf n t) ss (λ x l out. inr (rw (sym same) l.low)) later)
    go false h f ih = let found = all_of_found (LiesIn end size) (slot_numbered n) ss t later f in (λ out. inl found.low, ih f)
