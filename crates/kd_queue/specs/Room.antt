-- Why the vector of a queue never grows: no number waits twice, and a pool has only so many.
use Rattle.std.specs.Prelude.{List, ◌<◌, ◌≤◌, nat_eq, vec_capacity}
use Rattle.std.specs.List.{AllByRecursion, IsDistinct}
use Rattle.kd_model.specs.declared.slice_no.TheConstants.{SLICES}
use Rattle.kd_queue.specs.declared.entry.Entry.{Entry}
use Rattle.kd_queue.specs.declared.queue.Queue.TheInside.{Inside}
use Rattle.kd_queue.specs.Order.{entry_numbers}

-- the numbers are below the count of a pool's slices, each of them once
pub record AreSlices (es : List Entry) : Type 0 where
  pub apart : IsDistinct nat_eq (entry_numbers es)
  pub below : AllByRecursion (λ (e : Entry). e.number < SLICES) es

-- the vector has room for each number that a pool has
pub record IsQueue (q : Inside) : Type 0 where
  pub slices : AreSlices q.entries.items
  pub room : SLICES ≤ vec_capacity q.entries
