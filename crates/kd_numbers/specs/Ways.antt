-- How far the slice of a number is, and what each act may make of it.
use Rattle.std.specs.Prelude.{◌≡◌, ◌⊎◌, ℕ, Bool, true, false, List, Option, Some, None, option_map}
use Rattle.kd_model.specs.Words.{first}
use Rattle.kd_acts.specs.declared.receive.RecvMode.{RecvMode}
use Rattle.kd_acts.specs.declared.slot.Phase.{Phase}
use Rattle.kd_acts.specs.declared.slot.Phase.TheVariants.{Reserved, Queued, Peeked, Handed, Freed}
use Rattle.kd_acts.specs.Lasting.{AreNumbered}
use Rattle.kd_acts.specs.State.{Act, Hold, Slice, by_desk, close, drain, free, idle, offer, post, publish, raise, read, receive, settle, slot_numbered}
use Rattle.kd_acts.specs.Steps.{after}

-- the phase of the slice of a number; none where no slice has it
abbrev pub phase_among : ℕ → List Slice → Option Phase
phase_among n xs =
    option_map (λ (s : Slice). s.slot.phase) (first (λ (s : Slice). slot_numbered n s.slot) xs)

abbrev pub phase_in : ℕ → Hold → Option Phase
phase_in n h = elim h.pool [ None ↦ None | Some p ↦ phase_among n p.slices ]

-- it waits for its receiver, looked at or not
abbrev pub waits : Option Phase → Bool
waits (Some Queued) = true
waits (Some Peeked) = true
waits _ = false

-- nobody's, or given back
abbrev pub is_spent : Option Phase → Bool
is_spent None = true
is_spent (Some Freed) = true
is_spent _ = false

-- nobody's, or of a new slice
abbrev pub is_begun : Option Phase → Bool
is_begun None = true
is_begun (Some Reserved) = true
is_begun (Some Queued) = true
is_begun _ = false

-- what is put into a pool: a number that is spent is swept, and may come to a new slice
abbrev pub MayBegin : Option Phase → Option Phase → Type 0
MayBegin was now = (now ≡ was) ⊎ ((is_spent was ≡ true) × (is_begun now ≡ true))

-- what a receive makes of the number that it tells
abbrev pub taken_by : RecvMode → Option Phase
taken_by mode = elim mode.drop_it [
  | true ↦ None
  | false ↦ Some (elim mode.peek [ true ↦ Peeked | false ↦ Handed ])
]

-- what an act may make of a number
abbrev pub GoesOn : Act → ℕ → Option Phase → Option Phase → Type 0
GoesOn (by_desk (offer user len source must content)) n was now = MayBegin was now
GoesOn (by_desk (post image)) n was now = MayBegin was now
GoesOn (by_desk (settle images)) n was now = MayBegin was now
GoesOn (by_desk drain) n was now = (now ≡ was) ⊎ ((waits was ≡ true) × (now ≡ None))
GoesOn (by_desk (raise size)) n was now = now ≡ None
GoesOn (by_desk (close force)) n was now = (now ≡ was) ⊎ (now ≡ None)
GoesOn (publish generation m content) n was now =
    (now ≡ was) ⊎ ((m ≡ n) × (was ≡ Some Reserved) × (now ≡ Some Queued))
GoesOn (receive mode) n was now = (now ≡ was) ⊎ ((waits was ≡ true) × (now ≡ taken_by mode))
GoesOn (read m sealed) n was now = now ≡ was
GoesOn (free m) n was now = (now ≡ was) ⊎ ((m ≡ n) × (was ≡ Some Handed) × (now ≡ Some Freed))
GoesOn idle n was now = now ≡ was

-- so each number goes
abbrev pub NumbersGoOneWay : Type 0
NumbersGoOneWay =
    (h : Hold) (a : Act) (n : ℕ) → AreNumbered h.pool
    → GoesOn a n (phase_in n h) (phase_in n (after h a))
