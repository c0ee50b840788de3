-- A command run whole: the take, all visits, the leave and the publishes, with nothing between.
use Rattle.std.specs.Prelude.{ℕ, zero, suc, List, [], ◌∷◌, length, Option, Some, None, option_map}
use Rattle.kd_wire.specs.declared.command.Command.{Command}
use Rattle.kd_commands.specs.Plans.{Part}
use Rattle.kd_world.specs.State.{Pending, World, caller_at}
use Rattle.kd_world.specs.Holding.{next_visit, parts_held}
use Rattle.kd_world.specs.Legal.{Event, take, visit, leave, publishes}
use Rattle.kd_world.specs.Step.{step}
use Rattle.kd_world.specs.Answers.{Says, says}

-- the world after it, and what its caller was answered
pub record Whole : Type 0 where
  pub next : World
  pub answer : Says

-- one event that is all of a command
abbrev pub alone : World → Event → Whole
alone w e = record { next = step w e; answer = says w e }

-- ---- the visits

-- the seat that the holder of the desk visits next
abbrev pub next_seat : World → Option ℕ
next_seat w =
    elim w.holder [ None ↦ None | Some h ↦ option_map (λ (p : Part). p.seat) (next_visit w h) ]

-- the holder's visits as long as one is left, at most so many
unfoldable pub visits : ℕ → ℕ → World → World
visits zero n w = w
visits (suc k) n w = elim (next_seat w) [ None ↦ w | Some s ↦ visits k n (step w (visit n s)) ]

-- how many parts the holder's plan has
abbrev pub part_count : World → ℕ
part_count w = elim w.holder [ None ↦ 0 | Some h ↦ length (parts_held w h) ]

-- all visits of whoever holds the desk
abbrev pub visits_run : World → ℕ → World
visits_run w n = visits (part_count w) n w

-- ---- the publishes

-- for which seat and slice a caller publishes next: its oldest
abbrev pub publish_place : List Pending → Option (ℕ × ℕ)
publish_place [] = None
publish_place (p ∷ ps) = Some (p.seat, p.number)

abbrev pub next_publish : World → ℕ → Option (ℕ × ℕ)
next_publish w n = publish_place (caller_at w n).pendings

-- what a caller has yet to publish, at most so many
unfoldable pub publishings : ℕ → ℕ → World → World
publishings zero n w = w
publishings (suc k) n w =
    elim (next_publish w n) [ None ↦ w | Some p ↦ publishings k n (step w (publishes n p.0 p.1)) ]

-- how much a caller has yet to publish
abbrev pub pending_count : World → ℕ → ℕ
pending_count w n = length (caller_at w n).pendings

-- all that a caller has yet to publish
abbrev pub published : World → ℕ → World
published w n = publishings (pending_count w n) n w

-- ---- the command

-- behind the visits its caller leaves the desk and publishes
abbrev pub left_and_published : World → ℕ → Whole
left_and_published w n =
    record { next = published (step w (leave n)) n; answer = says w (leave n) }

-- a command that the desk refuses ends with its take
unfoldable pub whole : World → ℕ → Command → Whole
whole w n x =
    let held : World = step w (take n x) in
    elim held.holder [
      | None ↦ alone w (take n x)
      | Some h ↦ left_and_published (visits_run held n) n
    ]
