-- What whoever is told of a run has heard.
use Rattle.std.specs.Prelude.{◌≡◌, true, ℤ, List, [], ◌∷◌, ◌++◌, Option, Some, None, ⊤}
use Rattle.std.specs.Int.{w64}
use Rattle.std.specs.Int.RustNames.{FitsSigned}
use Rattle.kd_wire.specs.Typed.{IsTyped}
use Rattle.kd_core.specs.declared.event.Answer.{Answer}
use Rattle.kd_core.specs.Running.{said}
use Rattle.kd_world.specs.State.{World}
use Rattle.kd_world.specs.Legal.{Event, take, receives, legal}
use Rattle.kd_world.specs.Answers.{says}
use Rattle.kd_world.specs.Step.{step}

-- an event, and what it was answered
pub record Heard : Type 0 where
  pub event : Event
  pub answer : Answer

-- along events: what the world answers to each
unfoldable pub heard_along : World → List Event → List Heard
heard_along w [] = []
heard_along w (e ∷ es) =
    record { event = e; answer = said e (says w e) } ∷ heard_along (step w e) es

-- whoever had heard some events has heard these behind them
abbrev pub Hears : (List Heard → Type 0) → (List Heard → Type 0) → List Heard → Type 0
Hears before now more = (hs : List Heard) → before hs → now (hs ++ more)

-- a limit is a signed number of 64 bits
abbrev pub IsLimit : Option ℤ → Type 0
IsLimit None = ⊤
IsLimit (Some limit) = FitsSigned w64 limit

-- what an event has of a command is of its type
abbrev pub IsTypedEvent : Event → Type 0
IsTypedEvent (take n x) = IsTyped x
IsTypedEvent (receives n mode) = IsLimit mode.limit
IsTypedEvent e = ⊤

-- an event that is legal in some world
pub record MayHappen (e : Event) : Type 0 where
  pub world : World
  pub legal : legal world e ≡ true
  pub typed : IsTypedEvent e
