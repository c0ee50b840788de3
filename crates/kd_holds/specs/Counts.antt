-- What a pool with its generation counts.
use Rattle.std.specs.Prelude.{◌≤◌, ◌+◌, ◌≡◌, ℕ, Bool, true, false, length, Option, Some, None}
use Rattle.kd_model.specs.declared.slice_no.TheConstants.{SLICES}
use Rattle.kd_acts.specs.State.{Act, Batch, Content, Hold, Pool, by_desk, settle}
use Rattle.kd_acts.specs.Steps.{after}
use Rattle.kd_tables.specs.declared.part.Part as code
use Rattle.kd_holds.specs.Handing.{images_of, visit_met}

-- the counts of an open pool are at most so many
pub record IsPoolBelow (n : ℕ) (p : Pool) : Type 0 where
  pub arrivals : p.next_arrival ≤ n
  pub misses : p.dropped ≤ n
  pub offers : p.offered ≤ n

-- the same where it is open
abbrev pub IsOpenBelow : ℕ → Option Pool → Type 0
IsOpenBelow n None = Unit {0}
IsOpenBelow n (Some p) = IsPoolBelow n p

-- the generation too
pub record IsBelow (n : ℕ) (h : Hold) : Type 0 where
  pub generation : h.generation ≤ n
  pub pool : IsOpenBelow n h.pool

-- whether an act brings drained messages
abbrev pub is_settle : Act → Bool
is_settle (by_desk (settle images)) = true
is_settle _ = false

-- any other act raises each count by at most one
abbrev pub CountsByOne : Type 0
CountsByOne =
    (n : ℕ) (h : Hold) (a : Act) → is_settle a ≡ false → IsBelow n h → IsBelow (n + 1) (after h a)

-- a visit raises each by at most as many as there are slices, which no more messages have
abbrev pub VisitsCount : Type 0
VisitsCount =
    (n : ℕ) (h : Hold) (c : Option Content) (p : code.Part) (drained : Option Batch)
    → length (images_of drained) ≤ SLICES → IsBelow n h
    → IsBelow (n + SLICES) (after h (by_desk (visit_met c p drained)))
