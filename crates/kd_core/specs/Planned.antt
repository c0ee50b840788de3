-- What a command comes to.
use Rattle.std.specs.Prelude.{Result}
use Rattle.kd_types.specs.declared.refusal.Refusal.{Refusal}
use Rattle.kd_wire.specs.declared.command.Command.{Command}
use Rattle.kd_commands.specs.declared.who.Who.{Who}
use Rattle.kd_commands.specs.State.{Desk}
use Rattle.kd_tables.specs.Drafts.{PlanResult, Draft}
use Rattle.kd_world.specs.Planner.{planned}

-- the code's plan is that of the world, or its refusal
abbrev pub IsPlanned : Desk → Who → Command → Result Draft Refusal → Type 0
IsPlanned d w x result = PlanResult d (planned d w x) result
