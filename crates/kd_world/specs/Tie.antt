-- Each pool is offered exactly what the desk addresses to it.
--
-- Who wants to believe this law reads, in this order:
--   Addressed   what a desk's history addresses to a seat
--   State       the world and its opening
--   Planner     what the desk of a world plans
--   Holding     what the holder of the desk visits next, and how its command ends
--   Legal       the events, and which are legal
--   Pools       the act that an event does at a pool; all but the visits are no part of the law
--   Step, Runs  the world after an event, and after many
--   Tie         the two histories, and the law
use Rattle.std.specs.Prelude.{◌≡◌, ℕ, true, false, List, [], ◌∷◌, ◌++◌, Option, Some, None, Result, Ok, Err, ◌==◌, IsNone}
use Rattle.kd_types.specs.declared.refusal.Refusal.{Refusal}
use Rattle.kd_wire.specs.declared.command.Command.{Command}
use Rattle.kd_acts.specs.State.{Visit, Act, by_desk}
use Rattle.kd_commands.specs.declared.who.Who.{Who}
use Rattle.kd_commands.specs.State.{opening_desk}
use Rattle.kd_commands.specs.Plans.{Plan}
use Rattle.kd_world.specs.Addressed.{DeskEntry, Planner, desk_entry, parts_addressed, visited_by}
use Rattle.kd_world.specs.State.{Holder, World, new_world, caller_at}
use Rattle.kd_world.specs.Planner.{planned}
use Rattle.kd_world.specs.Legal.{Event, take, leave}
use Rattle.kd_world.specs.Pools.{Aimed, act_of}
use Rattle.kd_world.specs.Step.{step}
use Rattle.kd_world.specs.Runs.{AreLegal, world_after}

-- ---- the desk's history

-- a refused command leaves an entry at once
abbrev pub taken_adds : ℕ → Who → Command → Result Plan Refusal → List DeskEntry
taken_adds n w x (Err r) = desk_entry n w x [] ∷ []
taken_adds n w x (Ok p) = []

abbrev pub held_entry : Holder → DeskEntry
held_entry h = desk_entry h.caller h.who h.command h.outs

-- what an event adds
unfoldable pub desk_adds : World → Event → List DeskEntry
desk_adds w (take n x) = taken_adds n (caller_at w n).who x (planned w.desk (caller_at w n).who x)
desk_adds w (leave n) = elim w.holder [ None ↦ [] | Some h ↦ held_entry h ∷ [] ]
desk_adds w _ = []

unfoldable pub desk_history : World → List Event → List DeskEntry
desk_history w [] = []
desk_history w (e ∷ es) = desk_adds w e ++ desk_history (step w e) es

-- ---- the history of a seat's pool

abbrev pub act_on : ℕ → Option Aimed → List Act
act_on c None = []
act_on c (Some p) = elim (p.seat == c) [ true ↦ p.act ∷ [] | false ↦ [] ]

-- what an event adds
unfoldable pub pool_adds : World → ℕ → Event → List Act
pool_adds w c e = act_on c (act_of w e)

unfoldable pub pool_history : World → ℕ → List Event → List Act
pool_history w c [] = []
pool_history w c (e ∷ es) = pool_adds w c e ++ pool_history (step w e) c es

-- what the desk's holders made it do
abbrev pub visit_in : Act → List Visit
visit_in (by_desk v) = v ∷ []
visit_in _ = []

unfoldable pub visits_made : List Act → List Visit
visits_made [] = []
visits_made (a ∷ acts) = visit_in a ++ visits_made acts

-- from the opening of a bus
abbrev pub made_at : ℕ → ℕ → ℕ → ℕ → List Event → List Visit
made_at creator size hashes c es =
    visits_made (pool_history (new_world creator size hashes) c es)

-- ---- the law

-- what the desk's history addresses to a seat, from the opening of a bus
abbrev pub addressed_to : ℕ → ℕ → ℕ → ℕ → List Event → List Visit
addressed_to creator size hashes c es =
    parts_addressed planned (opening_desk creator size hashes) c
    (desk_history (new_world creator size hashes) es)

-- a seat's pool was made just that, in order, each once
abbrev pub IsOffered : ℕ → ℕ → ℕ → ℕ → List Event → Type 0
IsOffered creator size hashes c es =
    made_at creator size hashes c es ≡ addressed_to creator size hashes c es

-- so it is whenever the desk is free
abbrev pub AddressedIsOffered : Type 0
AddressedIsOffered =
    (creator size hashes : ℕ) (es : List Event) (c : ℕ) → AreLegal creator size hashes es
    → IsNone ((world_after (new_world creator size hashes) es).holder)
    → IsOffered creator size hashes c es

-- ---- while somebody holds the desk

-- what the holder has visited at a seat so far
unfoldable pub visited_at : Planner → World → ℕ → List Visit
visited_at plans w c =
    elim w.holder [ None ↦ [] | Some h ↦ visited_by plans w.desk c (held_entry h) ]

-- a seat's pool was made what is addressed to it, followed by what the holder has visited there
abbrev pub IsOfferedSoFar : ℕ → ℕ → ℕ → ℕ → List Event → Type 0
IsOfferedSoFar creator size hashes c es =
    made_at creator size hashes c es
    ≡ addressed_to creator size hashes c es
    ++ visited_at planned (world_after (new_world creator size hashes) es) c

-- and so it is at any time
abbrev pub OfferedSoFar : Type 0
OfferedSoFar =
    (creator size hashes : ℕ) (es : List Event) (c : ℕ) → AreLegal creator size hashes es
    → IsOfferedSoFar creator size hashes c es
