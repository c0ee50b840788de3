-- The events that a frame is run by, and what they tell.
use Rattle.std.specs.Prelude.{◌≡◌, ℕ, zero, suc, true, List, [], ◌∷◌, ◌++◌, Some, None}
use Rattle.kd_wire.specs.declared.command.Command.{Command}
use Rattle.kd_wire.specs.declared.command.Command.TheVariants as cmd
use Rattle.kd_wire.specs.declared.reply.Reply.{Reply}
use Rattle.kd_wire.specs.declared.reply.Reply.TheVariants as reply
use Rattle.kd_world.specs.State.{World}
use Rattle.kd_world.specs.Legal.{Event, take, visit, leave, publishes, receives, reads, frees}
use Rattle.kd_world.specs.Step.{step}
use Rattle.kd_world.specs.Runs.{all_legal, world_after}
use Rattle.kd_world.specs.Answers.{Says, says, turned_away}
use Rattle.kd_world.specs.Whole.{next_publish, next_seat, part_count, pending_count, visits_run}
use Rattle.kd_replay.specs.Turns.{mode_of, reply_of, slice_number}

-- ---- which they are

-- the holder's visits as long as one is left, at most so many
unfoldable pub visits_of : ℕ → ℕ → World → List Event
visits_of zero n w = []
visits_of (suc k) n w =
    elim (next_seat w) [
      | None ↦ []
      | Some s ↦ visit n s ∷ visits_of k n (step w (visit n s))
    ]

-- the publishes of what a caller has pending, at most so many
unfoldable pub publishes_of : ℕ → ℕ → World → List Event
publishes_of zero n w = []
publishes_of (suc k) n w =
    elim (next_publish w n) [
      | None ↦ []
      | Some p ↦ publishes n p.0 p.1 ∷ publishes_of k n (step w (publishes n p.0 p.1))
    ]

-- what follows a take that isn't refused: all visits, the leave, and a publish of each message
abbrev pub events_held : World → ℕ → List Event
events_held w n =
    let gone : World = step (visits_run w n) (leave n) in
    visits_of (part_count w) n w ++ leave n ∷ publishes_of (pending_count gone n) n gone

-- of a command at the desk; one that is refused ends with its take
unfoldable pub events_at_desk : World → ℕ → Command → List Event
events_at_desk w n x =
    let held : World = step w (take n x) in
    elim held.holder [ None ↦ take n x ∷ [] | Some h ↦ take n x ∷ events_held held n ]

-- a receive, a read and a free are one
unfoldable pub events_of : World → ℕ → Command → List Event
events_of w n (cmd.Recv flags limit) = receives n (mode_of flags limit) ∷ []
events_of w n (cmd.Read sealed number) = reads n (slice_number number) sealed ∷ []
events_of w n (cmd.Free number) = frees n (slice_number number) ∷ []
events_of w n x = events_at_desk w n x

-- ---- what they tell

-- the reply of an event: of a leave, of a take that is refused, and of whatever needs no desk; with
-- the others no command ends
abbrev pub told_by : Event → Says → List Reply
told_by (take n x) (turned_away why) = reply.Refused why ∷ []
told_by (leave n) s = reply_of s ∷ []
told_by (receives n mode) s = reply_of s ∷ []
told_by (reads n number sealed) s = reply_of s ∷ []
told_by (frees n number) s = reply_of s ∷ []
told_by _ s = []

-- along events
unfoldable pub replies_along : World → List Event → List Reply
replies_along w [] = []
replies_along w (e ∷ es) = told_by e (says w e) ++ replies_along (step w e) es

-- they are legal one after the other, tell these replies, and end in this world
pub record IsRunBy (w : World) (es : List Event) (rs : List Reply) (end : World) : Type 0 where
  pub legal : all_legal w es ≡ true
  pub ends : end ≡ world_after w es
  pub replies : rs ≡ replies_along w es
