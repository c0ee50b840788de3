-- Events one after the other.
use Rattle.std.specs.Prelude.{◌≡◌, ℕ, Bool, true, ◌&&◌, List, [], ◌∷◌, IsTrue}
use Rattle.kd_world.specs.State.{World, new_world}
use Rattle.kd_world.specs.Legal.{Event, legal}
use Rattle.kd_world.specs.Step.{step}

unfoldable pub world_after : World → List Event → World
world_after w [] = w
world_after w (e ∷ es) = world_after (step w e) es

unfoldable pub all_legal : World → List Event → Bool
all_legal w [] = true
all_legal w (e ∷ es) = legal w e && all_legal (step w e) es

-- the events are legal one after the other from the opening of a bus
abbrev pub AreLegal : ℕ → ℕ → ℕ → List Event → Type 0
AreLegal creator size hashes es = IsTrue (all_legal (new_world creator size hashes) es)

-- legal events lead to it from the opening of a bus
pub record IsReached (w : World) : Type 0 where
  pub creator : ℕ
  pub size : ℕ
  pub hashes : ℕ
  pub events : List Event
  pub legal : AreLegal creator size hashes events
  pub world : world_after (new_world creator size hashes) events ≡ w
