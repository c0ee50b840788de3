-- What a caller was told of the slice numbers of its pool.
use Rattle.std.specs.Prelude.{ℕ, true, false, List, replicate, set, Option, Some, None}
use Rattle.kd_acts.specs.declared.receive.RecvMode.{RecvMode}
use Rattle.kd_acts.specs.State.{Answer, got}
use Rattle.kd_world.specs.declared.told.Told.{Told}
use Rattle.kd_world.specs.declared.told.Told.TheVariants.{Peeked, Handed}

-- nothing was told of any of the 256 slice numbers
abbrev pub empty_hand : List (Option Told)
empty_hand = replicate 256 None

-- what was told of a number is another thing, or nothing
abbrev pub with_told : ℕ → Option Told → List (Option Told) → List (Option Told)
with_told n t hand = set hand n t

-- a received number comes into the hand, a dropped one doesn't
abbrev pub told_by : RecvMode → Option Told
told_by mode =
    elim mode.drop_it [
      | true ↦ None
      | false ↦ Some (elim mode.peek [ true ↦ Peeked | false ↦ Handed ])
    ]

abbrev pub hand_received : RecvMode → Answer → List (Option Told) → List (Option Told)
hand_received mode (got n offset len dropped) hand = with_told n (told_by mode) hand
hand_received mode _ hand = hand

-- a freed number leaves the hand
abbrev pub hand_freed : ℕ → Option Told → List (Option Told) → List (Option Told)
hand_freed n None hand = hand
hand_freed n (Some Peeked) hand = hand
hand_freed n (Some Handed) hand = with_told n None hand
