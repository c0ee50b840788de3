-- Each publishing that isn't gone is of the last offer before it that reserved its number.
use Rattle.std.specs.Prelude.{ℕ, ◌==◌, true, false, List, [], ◌∷◌, ◌++◌, Option, Some, None}
use Rattle.kd_acts.specs.Steps.{answer}
use Rattle.kd_world.specs.State.{World, new_world, pool_at}
use Rattle.kd_world.specs.Legal.{Event, frees, leave, publishes, reads, receives, take, visit}
use Rattle.kd_world.specs.Pools.{Aimed, act_of}
use Rattle.kd_world.specs.Step.{step}
use Rattle.kd_world.specs.Runs.{AreLegal}
use Rattle.kd_histories.specs.Turns.{Turn, did}
use Rattle.kd_histories.specs.Pairs.{ArePaired}

-- who does it
abbrev pub caller_of : Event → ℕ
caller_of (take n x) = n
caller_of (visit n seat) = n
caller_of (leave n) = n
caller_of (publishes n seat number) = n
caller_of (receives n mode) = n
caller_of (reads n number sealed) = n
caller_of (frees n number) = n

-- an act at a pool as an entry of its list; no marks are swept before it
abbrev pub turn_of : World → Aimed → Turn
turn_of w a = did (record {
  generation = (pool_at w a.seat).generation;
  freed = [];
  act = a.act;
  answer = answer (pool_at w a.seat) a.act;
})

-- what is done at a seat, with who does it
abbrev pub turns_at : World → ℕ → ℕ → Option Aimed → List (ℕ × Turn)
turns_at w c n None = []
turns_at w c n (Some a) = elim (a.seat == c) [ true ↦ (n, turn_of w a) ∷ [] | false ↦ [] ]

-- what an event adds to the list of a seat's pool
unfoldable pub turns_added : World → ℕ → Event → List (ℕ × Turn)
turns_added w c e = turns_at w c (caller_of e) (act_of w e)

-- the list along events
unfoldable pub turns_along : World → ℕ → List Event → List (ℕ × Turn)
turns_along w c [] = []
turns_along w c (e ∷ es) = turns_added w c e ++ turns_along (step w e) c es

-- from the opening of a bus
abbrev pub turns_from : ℕ → ℕ → ℕ → ℕ → List Event → List (ℕ × Turn)
turns_from creator size hashes c es = turns_along (new_world creator size hashes) c es

-- of each seat and each number
abbrev pub IsPairedAlong : ℕ → ℕ → ℕ → List Event → Type 0
IsPairedAlong creator size hashes es =
    (c n : ℕ) → ArePaired n None (turns_from creator size hashes c es)

abbrev pub PublishesArePaired : Type 0
PublishesArePaired =
    (creator size hashes : ℕ) (es : List Event) → AreLegal creator size hashes es
    → IsPairedAlong creator size hashes es
