-- What each open pool keeps.
use Rattle.std.specs.Prelude.{◌≡◌, ◌+◌, ℕ, drop, length, List, sum_by, take}
use Rattle.std.specs.List.{AllByRecursion}
use Rattle.kd_model.specs.Slices.{IsSound, gaps, used}
use Rattle.kd_model.specs.declared.placed.Gap.{Gap}
use Rattle.kd_acts.specs.State.{Pool, Slice, book_of}
use Rattle.kd_acts.specs.declared.slot.Slot.{Slot}

-- the bytes of a memory over a slot's range
abbrev pub slot_range : List ℕ → Slot → List ℕ
slot_range memory s = take s.len (drop s.offset memory)

-- a slice's bytes lie in its range
abbrev pub IsKept : List ℕ → Slice → Type 0
IsKept memory s = slot_range memory s.slot ≡ s.bytes

-- the memory has the pool's size, the slices lie inside at multiples of 8, don't meet and have
-- numbers of their own below 256, they and the gaps between them make up the size, and each has its
-- bytes
pub record IsSoundPool (p : Pool) : Type 0 where
  pub memory : length p.memory ≡ p.size
  pub book : IsSound (book_of p)
  pub whole : used (book_of p) + sum_by (λ (g : Gap). g.len) (gaps (book_of p)) ≡ p.size
  pub bytes : AllByRecursion (IsKept p.memory) p.slices
