-- Slices, the gaps between them, and where the next slice goes.
use Rattle.std.specs.Prelude.{◌⊎◌, ◌≡◌, ◌<◌, ◌≤◌, ◌%◌, ◌+◌, ◌-◌, ◌==◌, ◌&&◌, ◌||◌, ℕ, Bool, true, false, not, List, [], ◌∷◌, ◌++◌, Option, nat_eq, nat_le, nat_lt, option_map, sum_by, max}
use Rattle.std.specs.List.{AllByRecursion, IsDistinct, fold, range_with_len}
use Rattle.kd_model.specs.Words.{AnyOf, but_those, first, least, put_in_order, some_of, those}
use Rattle.kd_model.specs.declared.slice_no.TheConstants.{SLICES}
use Rattle.kd_model.specs.declared.placed.Gap.{Gap}
use Rattle.kd_model.specs.declared.placed.Placed.{Placed}

-- a pool's size, and the slices in it by rising offset
pub record Book : Type 0 where
  pub size : ℕ
  pub slices : List Placed

abbrev pub empty_book : ℕ → Book
empty_book size = record { size = size; slices = [] }

-- the first place behind a slice
abbrev pub slice_end : Placed → ℕ
slice_end s = s.offset + s.len

-- what lies from one place up to another: a gap, or nothing where they meet
abbrev pub between : ℕ → ℕ → List Gap
between from upto =
    elim (nat_lt from upto) [ true ↦ record { start = from; len = upto - from } ∷ [] | false ↦ [] ]

-- the gaps from a place on, by rising start: before each slice, and behind the last
abbrev pub gaps_from : ℕ → ℕ → List Placed → List Gap
gaps_from at size [] = between at size
gaps_from at size (s ∷ ss) = between at s.offset ++ gaps_from (slice_end s) size ss

-- the gaps of a pool
unfoldable pub gaps : Book → List Gap
gaps b = gaps_from 0 b.size b.slices

-- the smaller gap, and the lower one of two as small
abbrev pub is_better : Gap → Gap → Bool
is_better a b = nat_lt a.len b.len || (nat_eq a.len b.len && nat_lt a.start b.start)

-- the smallest gap that holds a length, the lowest among equals
unfoldable pub best_gap : Book → ℕ → Option Gap
best_gap b len = least is_better (those (λ (g : Gap). nat_le len g.len) (gaps b))

-- where a slice of a length goes: to the front of that gap
unfoldable pub place : Book → ℕ → Option ℕ
place b len = option_map (λ (g : Gap). g.start) (best_gap b len)

-- two slices of one number
abbrev pub has_same_number : Placed → Placed → Bool
has_same_number a b = a.number == b.number

-- whether a slice has the number
abbrev pub has_number : ℕ → Placed → Bool
has_number n s = s.number == n

abbrev pub is_placed : ℕ → Book → Bool
is_placed n b = some_of (has_number n) b.slices

-- the slice of a number
abbrev pub slice_entry : ℕ → Book → Option Placed
slice_entry n b = first (has_number n) b.slices

-- the lowest number that none of some slices has; none where all are in use
unfoldable pub lowest_unused : List Placed → Option ℕ
lowest_unused ss = first (λ n. not (some_of (has_number n) ss)) (range_with_len 0 SLICES)

abbrev pub unused_number : Book → Option ℕ
unused_number b = lowest_unused b.slices

abbrev pub is_lower : Placed → Placed → Bool
is_lower a b = nat_lt a.offset b.offset

-- the book with one slice more
abbrev pub with_slice : Placed → Book → Book
with_slice s b = record b { slices = put_in_order is_lower s b.slices }

-- the book without a slice
abbrev pub without_slice : ℕ → Book → Book
without_slice n b = record b { slices = but_those (has_number n) b.slices }

-- how many bytes the slices take
abbrev pub used : Book → ℕ
used b = sum_by (λ (s : Placed). s.len) b.slices

-- the length of the largest gap, 0 where there is none
unfoldable pub largest_gap : Book → ℕ
largest_gap b = fold (λ most (g : Gap). max most g.len) 0 (gaps b)

-- from a place on, each slice has some bytes and begins where the one before it ends or behind
-- that, and the last one ends within the size
abbrev pub AreInOrder : ℕ → ℕ → List Placed → Type 0
AreInOrder at size [] = at ≤ size
AreInOrder at size (s ∷ ss) = (at ≤ s.offset) × (0 < s.len) × AreInOrder (slice_end s) size ss

-- a slice lies at a multiple of 8 and takes a multiple of 8 bytes
abbrev pub IsEven : Placed → Type 0
IsEven s = (s.offset % 8 ≡ 0) × (s.len % 8 ≡ 0)

-- what each book keeps: ranges inside the pool that don't meet, at multiples of 8, under numbers
-- that differ
pub record IsSound (b : Book) : Type 0 where
  pub eights : b.size % 8 ≡ 0
  pub order : AreInOrder 0 b.size b.slices
  pub even : AllByRecursion IsEven b.slices
  pub numbers : AllByRecursion (λ (s : Placed). s.number < SLICES) b.slices
  pub distinct : IsDistinct has_same_number b.slices

-- a gap and a slice don't meet
abbrev pub IsClear : Gap → Placed → Type 0
IsClear g s = (slice_end s ≤ g.start) ⊎ (g.start + g.len ≤ s.offset)

-- a range of some bytes that meets no slice, and can't be longer: on both sides a slice or the pool
-- ends it
pub record IsMaximal (b : Book) (g : Gap) : Type 0 where
  pub some : 0 < g.len
  pub inside : g.start + g.len ≤ b.size
  pub clear : AllByRecursion (IsClear g) b.slices
  pub below : (g.start ≡ 0) ⊎ AnyOf (λ (s : Placed). slice_end s ≡ g.start) b.slices
  pub above :
      (g.start + g.len ≡ b.size) ⊎ AnyOf (λ (s : Placed). s.offset ≡ g.start + g.len) b.slices
