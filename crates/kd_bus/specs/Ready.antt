-- What a command needs before its first visit.
use Rattle.std.specs.Prelude.{◌≡◌, ◌≤◌, ◌^◌, ℕ, [], Ok, Option, None, length, vec_capacity}
use Rattle.std.specs.List.{AllByRecursion}
use Rattle.kd_wire.specs.declared.command.Command.{Command}
use Rattle.kd_commands.specs.State.{Desk}
use Rattle.kd_commands.specs.declared.who.Who.{Who}
use Rattle.kd_tables.specs.Drafts.{Fits, IsVisitable, drafted}
use Rattle.kd_holds.specs.Handing.{IsMadeFor}
use Rattle.kd_world.specs.Hands.{empty_hand}
use Rattle.kd_histories.specs.Slots.{planned}
use Rattle.kd_bus.specs.declared.preparing.Prepared.{Prepared}

-- a plan of the desk of the slot's bus of this generation, and the memory for its visits and end
pub record IsReady (g : ℕ) (d : Desk) (aim : Option ℕ) (w : Who) (x : Command) (r : Prepared)
    : Type 0 where
  pub plan : planned g aim d w x ≡ Ok (drafted d r.plan)
  pub fits : Fits d r.plan.change
  pub parts : AllByRecursion IsVisitable r.plan.parts
  pub few : length r.plan.parts ≤ 2 ^ 42
  pub made : IsMadeFor r.made r.plan.parts
  pub dry : r.made.drained ≡ None
  pub outs : r.outs.items ≡ []
  pub generations : r.generations.items ≡ []
  pub pendings : r.pendings.items ≡ []
  pub room : length r.plan.parts ≤ vec_capacity r.outs
  pub generations_room : length r.plan.parts ≤ vec_capacity r.generations
  pub pendings_room : length r.plan.parts ≤ vec_capacity r.pendings
  pub hand : r.hand ≡ empty_hand
