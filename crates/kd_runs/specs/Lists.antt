-- The world, the desk and the pools along lists, and with one event more at the end.
use Rattle.std.specs.Prelude.{◌≡◌, ℕ, ◌&&◌, List, [], ◌∷◌, ◌++◌}
use Rattle.kd_acts.specs.State.{Act, Hold}
use Rattle.kd_acts.specs.Steps.{after}
use Rattle.kd_commands.specs.State.{Desk, opening_desk}
use Rattle.kd_world.specs.Addressed.{DeskEntry, desk_behind, parts_addressed, visited_by}
use Rattle.kd_world.specs.Legal.{Event, legal}
use Rattle.kd_world.specs.Planner.{planned}
use Rattle.kd_world.specs.Runs.{AreLegal, all_legal, world_after}
use Rattle.kd_world.specs.State.{World, closed_pool, new_world, pool_at}
use Rattle.kd_world.specs.Step.{step}
use Rattle.kd_world.specs.Tie.{desk_adds, desk_history, pool_adds, pool_history}

-- ---- along lists of entries

-- the desk along its history
unfoldable pub desk_along : Desk → List DeskEntry → Desk
desk_along d [] = d
desk_along d (e ∷ es) = desk_along (desk_behind planned d e) es

-- a pool along what is done to it
unfoldable pub hold_along : Hold → List Act → Hold
hold_along h [] = h
hold_along h (a ∷ acts) = hold_along (after h a) acts

-- each with one entry more
abbrev pub DeskWithOneMore : Type 0
DeskWithOneMore =
    (d : Desk) (es : List DeskEntry) (e : DeskEntry)
    → desk_along d (es ++ e ∷ []) ≡ desk_behind planned (desk_along d es) e

abbrev pub HoldWithOneMore : Type 0
HoldWithOneMore =
    (h : Hold) (acts : List Act) (a : Act)
    → hold_along h (acts ++ a ∷ []) ≡ after (hold_along h acts) a

-- and what the history addresses to a seat
abbrev pub AddressedWithOneMore : Type 0
AddressedWithOneMore =
    (d : Desk) (c : ℕ) (es : List DeskEntry) (e : DeskEntry)
    → parts_addressed planned d c (es ++ e ∷ [])
    ≡ parts_addressed planned d c es ++ visited_by planned (desk_along d es) c e

-- ---- along lists of events

-- the world, whether events are legal, and both histories, with one event more
pub record GoesOn (w : World) (es : List Event) (e : Event) : Type 0 where
  pub world : world_after w (es ++ e ∷ []) ≡ step (world_after w es) e
  pub are_legal : all_legal w (es ++ e ∷ []) ≡ (all_legal w es && legal (world_after w es) e)
  pub desk : desk_history w (es ++ e ∷ []) ≡ desk_history w es ++ desk_adds (world_after w es) e
  pub pools :
      (c : ℕ)
      → pool_history w c (es ++ e ∷ []) ≡ pool_history w c es ++ pool_adds (world_after w es) c e

abbrev pub WorldsGoOn : Type 0
WorldsGoOn = (w : World) (es : List Event) (e : Event) → GoesOn w es e

-- the desk of a world is what its history makes of it, and so is each pool
abbrev pub DeskIsAlong : Type 0
DeskIsAlong =
    (creator size hashes : ℕ) (es : List Event)
    → (world_after (new_world creator size hashes) es).desk
    ≡ desk_along (opening_desk creator size hashes)
    (desk_history (new_world creator size hashes) es)

abbrev pub PoolsAreAlong : Type 0
PoolsAreAlong =
    (creator size hashes : ℕ) (es : List Event) (c : ℕ) → AreLegal creator size hashes es
    → pool_at (world_after (new_world creator size hashes) es) c
    ≡ hold_along closed_pool (pool_history (new_world creator size hashes) c es)
