-- Nobody is left out: who leaves the desk has visited every part of its plan, in order, or the
-- refusal of the first one ended all.
use Rattle.std.specs.Prelude.{◌≡◌, ◌⊎◌, ℕ, true, List, [], ◌∷◌, length, map, Some}
use Rattle.kd_types.specs.declared.refusal.Refusal.{Refusal}
use Rattle.kd_acts.specs.State.{Answer, Visit, settle}
use Rattle.kd_commands.specs.Plans.{Part}
use Rattle.kd_commands.specs.State.{Desk, opening_desk}
use Rattle.kd_commands.specs.Step.{parts_in}
use Rattle.kd_commands.specs.Visits.{first_ends, parts_visited}
use Rattle.kd_world.specs.Addressed.{DeskEntry, desk_behind}
use Rattle.kd_world.specs.Holding.{parts_held}
use Rattle.kd_world.specs.Legal.{Event, leave, legal}
use Rattle.kd_world.specs.Planner.{planned}
use Rattle.kd_world.specs.Runs.{AreLegal, IsReached}
use Rattle.kd_world.specs.State.{Holder, World, new_world}
use Rattle.kd_world.specs.Tie.{desk_history}

-- each part has its answer, or the first one has, and its refusal ended all
abbrev pub AreVisited : List Part → List Answer → Type 0
AreVisited parts outs =
    (length outs ≡ length parts)
    ⊎ ((why : Refusal) × (first_ends parts outs ≡ Some why) × (length outs ≡ 1))

-- who may leave the desk holds it, and has visited so
abbrev pub LeaversHaveVisited : Type 0
LeaversHaveVisited =
    (w : World) (n : ℕ) → IsReached w → legal w (leave n) ≡ true
    → (h : Holder) × (w.holder ≡ Some h) × (h.caller ≡ n) × AreVisited (parts_held w h) h.outs

-- of a desk's history each command has, from the desk at which it was planned
unfoldable pub HaveVisited : Desk → List DeskEntry → Type 0
HaveVisited d [] = Unit {0}
HaveVisited d (e ∷ es) =
    AreVisited (parts_in (planned d e.who e.command)) e.outs
    × HaveVisited (desk_behind planned d e) es

-- so it is along every list of legal events
abbrev pub NobodyIsLeftOut : Type 0
NobodyIsLeftOut =
    (creator size hashes : ℕ) (es : List Event) → AreLegal creator size hashes es
    → HaveVisited (opening_desk creator size hashes)
    (desk_history (new_world creator size hashes) es)

-- a part, but for the messages that its settle places
abbrev pub bare_visit : Visit → Visit
bare_visit (settle images) = settle []
bare_visit v = v

abbrev pub bare : Part → Part
bare p = record p { act = bare_visit p.act }

-- where each part has its answer, what was visited are the parts, in order, each once; a settle has
-- what was drained before it
abbrev pub VisitedAreAll : Type 0
VisitedAreAll =
    (parts : List Part) (outs : List Answer) → length outs ≡ length parts
    → map bare (parts_visited [] parts outs) ≡ map bare parts
