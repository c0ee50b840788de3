-- What contracts see of a world, and what it keeps.
use Rattle.std.specs.Prelude.{◌≡◌, ◌≤◌, ◌+◌, ◌*◌, ◌^◌, length, drop, Option, Some, None, option_map, Ok}
use Rattle.std.specs.List.{AllByRecursion}
use Rattle.kd_commands.specs.State.{Desk}
use Rattle.kd_tables.specs.Drafts.{Fits, IsVisitable, drafted}
use Rattle.kd_model.specs.declared.slice_no.TheConstants.{SLICES}
use Rattle.kd_holds.specs.declared.holder.Holder as code
use Rattle.kd_core.specs.declared.world.World.TheInside.{Inside}
use Rattle.kd_holds.specs.Counts.{IsBelow}
use Rattle.kd_holds.specs.Handing.{HandsOver, IsMadeFor, TellDrained, answers_told}
use Rattle.kd_world.specs.State.{Holder}
use Rattle.kd_world.specs.Planner.{planned}
use Rattle.kd_world.specs.Callers.{creds_after}
use Rattle.kd_core.specs.Running.{Running}

abbrev pub holder_of : code.Holder → Holder
holder_of h = record {
  caller = h.caller;
  who = h.who;
  command = h.command.value;
  outs = answers_told h.plan.parts h.outs.items h.made.drained;
}

abbrev pub world_of : Inside → Running
world_of w = record {
  world = record {
    desk = w.desk;
    holder = option_map holder_of w.holder;
    pools = w.pools.items;
    callers = w.callers.items;
  };
  steps = w.steps;
}

-- the holder's plan is that of its command, for the desk as it is; the memory of its visits is
-- made, and its answers tell what was drained
pub record IsHeld (d : Desk) (h : code.Holder) : Type 0 where
  pub plan : planned d h.who h.command.value ≡ Ok (drafted d h.plan)
  pub fits : Fits d h.plan.change
  pub parts : AllByRecursion IsVisitable h.plan.parts
  pub hands : HandsOver h.plan.parts
  pub visited : length h.outs.items ≤ length h.plan.parts
  pub made : IsMadeFor h.made (drop (length h.outs.items) h.plan.parts)
  pub told : TellDrained h.plan.parts h.outs.items h.made.drained
  pub creds : h.creds ≡ creds_after h.who.creds h.command.value

abbrev pub IsHeldBy : Desk → Option code.Holder → Type 0
IsHeldBy d None = Unit {0}
IsHeldBy d (Some h) = IsHeld d h

-- no event raises a count of a pool by more than 256
pub record IsWhole (w : Inside) : Type 0 where
  pub pools : length w.pools.items ≡ 64
  pub callers : length w.callers.items ≡ 64
  pub below : AllByRecursion (IsBelow (SLICES * w.steps)) w.pools.items
  pub ids : w.desk.next_id ≤ w.steps + 1
  pub steps : w.steps ≤ 2 ^ 54
  pub holder : IsHeldBy w.desk w.holder
