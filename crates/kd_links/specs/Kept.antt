-- The book that a chain of slices is, and what is kept of it.
use Rattle.std.specs.Prelude.{◌≡◌, ◌<◌, ◌≤◌, ◌+◌, ◌^◌, ℕ, true, false, List, ◌∷◌, map, length, slice_index_or}
use Rattle.kd_model.specs.Slices.{Book, IsSound, slice_end, used}
use Rattle.kd_model.specs.Words.{contains}
use Rattle.kd_model.specs.declared.placed.Gap.{Gap}
use Rattle.kd_model.specs.declared.placed.Placed.{Placed}
use Rattle.kd_links.specs.Chains.{Chained, no_span}
use Rattle.kd_links.specs.Filed.{AreBehind, IsFiled, no_gap, rank}
use Rattle.kd_links.specs.declared.node.Span.{Span}
use Rattle.kd_rings.specs.declared.heads.TheConstants.{START}
use Rattle.kd_links.specs.declared.node.TheConstants.{GAPS, NODES}

-- the slice of a number
abbrev pub slice_of : List Span → ℕ → Placed
slice_of spans n = let s = slice_index_or spans n no_span in
    record { number = n; offset = s.offset; len = s.len }

-- the slices in a chain, in its order
abbrev pub slices_of : Chained → List Placed
slices_of c = map (slice_of c.spans) c.order

abbrev pub chain_book : ℕ → Chained → Book
chain_book size c = record { size = size; slices = slices_of c }

-- a number's span ends where a gap begins
pub record IsBehind (c : Chained) (number : ℕ) (gap : Gap) : Type 0 where
  pub among : contains number (START ∷ c.order) ≡ true
  pub ends : slice_end (slice_of c.spans number) ≡ gap.start

pub record IsKept (size : ℕ) (c : Chained) : Type 0 where
  pub fits : size < 2 ^ 32
  -- the slices in order are a sound book
  pub sound : IsSound (chain_book size c)
  -- each number has a span
  pub count : length c.spans ≡ NODES
  -- what isn't in the order is no slice
  pub unused : (n : ℕ) → n ≤ START → contains n c.order ≡ false → slice_index_or c.spans n no_span ≡ no_span

-- the gaps are what lies behind the slices and the start, and stand in order of size
pub record IsBinned (size : ℕ) (c : Chained) : Type 0 where
  pub filed : IsFiled c
  pub behind : AreBehind (rank c.spans) (slice_of c.spans) size 0 START c.order
  -- what isn't in the order has no gap
  pub free : (n : ℕ) → n < START → contains n c.order ≡ false → rank c.spans (GAPS + n) ≡ no_gap

-- a chain of slices and gaps, and how many bytes the slices take
pub record IsLinked (size bytes : ℕ) (c : Chained) : Type 0 where
  pub kept : IsKept size c
  pub binned : IsBinned size c
  pub total : bytes ≡ used (chain_book size c)
