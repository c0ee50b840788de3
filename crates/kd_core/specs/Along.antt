-- Lists of events: which may happen, what they change and what they are answered.
use Rattle.std.specs.Prelude.{ℕ, ◌+◌, Bool, true, false, List, [], ◌∷◌, Option, Some, None, Result, Ok, Err, option_map, take}
use Rattle.kd_core.specs.declared.events.RunError.{RunError}
use Rattle.kd_core.specs.declared.events.RunError.TheVariants.{Illegal, OutOfMemory}
use Rattle.kd_core.specs.declared.event.Answer.{Answer}
use Rattle.kd_world.specs.State.{World}
use Rattle.kd_world.specs.Legal.{Event, legal}
use Rattle.kd_world.specs.Step.{step}
use Rattle.kd_world.specs.Answers.{says}
use Rattle.kd_core.specs.Running.{Running, said, stepped}

-- an event that may not happen is the first, else the one behind it
abbrev pub barred_by : Bool → Option ℕ → Option ℕ
barred_by false later = Some 0
barred_by true later = option_map (λ n. n + 1) later

-- the place of the first event that may not happen, those before it run
unfoldable pub first_barred : World → List Event → Option ℕ
first_barred w [] = None
first_barred w (e ∷ es) = barred_by (legal w e) (first_barred (step w e) es)

-- a world after some events
unfoldable pub ran : Running → List Event → Running
ran r [] = r
ran r (e ∷ es) = ran (stepped r e) es

-- what they are answered
unfoldable pub said_along : World → List Event → List Answer
said_along w [] = []
said_along w (e ∷ es) = said e (says w e) ∷ said_along (step w e) es

-- those before the one that is told
abbrev pub events_before : RunError → List Event → List Event
events_before (Illegal index) es = take index es
events_before (OutOfMemory index) es = take index es

-- those that were run, all or a front
abbrev pub events_run : {A : Type 0} → Result A RunError → List Event → List Event
events_run (Ok answers) es = es
events_run (Err e) es = events_before e es
