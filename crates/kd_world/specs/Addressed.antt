-- What a desk's history addresses to the pool of a seat, by whatever planner the desk has.
use Rattle.std.specs.Prelude.{ℕ, true, false, List, [], ◌∷◌, ◌++◌, Result, ◌==◌}
use Rattle.kd_types.specs.declared.refusal.Refusal.{Refusal}
use Rattle.kd_wire.specs.declared.command.Command.{Command}
use Rattle.kd_acts.specs.State.{Visit, Answer}
use Rattle.kd_commands.specs.declared.who.Who.{Who}
use Rattle.kd_commands.specs.State.{Desk}
use Rattle.kd_commands.specs.Plans.{Part, Plan}
use Rattle.kd_commands.specs.Visits.{parts_visited}
use Rattle.kd_commands.specs.Step.{ended_by, parts_in}

-- what a desk plans for a command, or its refusal
abbrev pub Planner : Type 0
Planner = Desk → Who → Command → Result Plan Refusal

-- a command that left the desk, or was refused by it, and what the pools answered to its visits
pub record DeskEntry : Type 0 where
  pub caller : ℕ
  pub who : Who
  pub command : Command
  pub outs : List Answer

abbrev pub desk_entry : ℕ → Who → Command → List Answer → DeskEntry
desk_entry n w x outs = record { caller = n; who = w; command = x; outs = outs }

-- the parts of one seat
abbrev pub at_seat : ℕ → Part → List Visit
at_seat c p = elim (p.seat == c) [ true ↦ p.act ∷ [] | false ↦ [] ]

unfoldable pub acts_at : ℕ → List Part → List Visit
acts_at c [] = []
acts_at c (p ∷ ps) = at_seat c p ++ acts_at c ps

-- what a command has visited at a seat, as far as it has answers
abbrev pub visited_by : Planner → Desk → ℕ → DeskEntry → List Visit
visited_by plans d c e = acts_at c (parts_visited [] (parts_in (plans d e.who e.command)) e.outs)

-- the desk after a command
abbrev pub desk_behind : Planner → Desk → DeskEntry → Desk
desk_behind plans d e = (ended_by d e.who (plans d e.who e.command) e.outs).next

-- what the desk's history addresses to a seat
unfoldable pub parts_addressed : Planner → Desk → ℕ → List DeskEntry → List Visit
parts_addressed plans d c [] = []
parts_addressed plans d c (e ∷ es) =
    visited_by plans d c e ++ parts_addressed plans (desk_behind plans d e) c es
