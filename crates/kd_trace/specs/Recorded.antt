-- What a recorder has written down of what it was told.
use Rattle.std.specs.Prelude.{◌≡◌, ℕ, ◌^◌, ◌<◌, List, [], ◌∷◌, ◌++◌, ⊤}
use Rattle.kd_world.specs.Legal.{Event, visit, publishes, reads, frees}
use Rattle.kd_replay.specs.Hearing.{Heard}
use Rattle.kd_trace.specs.Items.{MayStand, caller_of}
use Rattle.kd_trace.specs.Trace.{ArePairs, Pair, event_bytes, trace_bytes}
use Rattle.kd_trace.specs.Right.{outcome_of}
use Rattle.kd_trace.specs.Judging.{number_with}

-- the pairs of what was heard; the number is that of the command with which the desk was last taken
abbrev pub pairs_heard : ℕ → List Heard → List Pair
pairs_heard k [] = []
pairs_heard k (h ∷ hs) =
    record { event = h.event; outcome = outcome_of (number_with h.event k) h.answer }
    ∷ pairs_heard (number_with h.event k) hs

-- the number behind what was heard
abbrev pub number_heard : ℕ → List Heard → ℕ
number_heard k [] = k
number_heard k (h ∷ hs) = number_heard (number_with h.event k) hs

-- all that was heard is written down
pub record IsWritten (bytes : List ℕ) (number : ℕ) (hs : List Heard) : Type 0 where
  pub bytes_are : bytes ≡ trace_bytes (pairs_heard 0 hs)
  pub each : ArePairs (pairs_heard 0 hs)
  pub number_is : number ≡ number_heard 0 hs

-- and behind it an event that wasn't answered yet
pub record IsAwaited (bytes : List ℕ) (caller number : ℕ) (hs : List Heard) (e : Event) : Type 0 where
  pub bytes_are : bytes ≡ trace_bytes (pairs_heard 0 hs) ++ event_bytes e
  pub each : ArePairs (pairs_heard 0 hs)
  pub stands : MayStand e
  pub caller_is : caller ≡ caller_of e
  pub number_is : number ≡ number_with e (number_heard 0 hs)

-- the seat and the slice number of an event are within their bounds
abbrev pub HasPlace : Event → Type 0
HasPlace (visit n seat) = seat < 64
HasPlace (publishes n seat number) = (seat < 64) × (number < 2 ^ 32)
HasPlace (reads n number sealed) = number < 2 ^ 32
HasPlace (frees n number) = number < 2 ^ 32
HasPlace e = ⊤
