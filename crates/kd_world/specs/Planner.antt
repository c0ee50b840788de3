-- The planner of a world: a desk doesn't know the name of its bus, so the world refuses a command
-- that names another one.
use Rattle.std.specs.Prelude.{ℕ, Bool, true, false, not, ◌&&◌, List, Some, None, Err, codes}
use Rattle.kd_types.specs.declared.refusal.Refusal.TheVariants.{NoSuchBus}
use Rattle.kd_model.specs.Words.{same}
use Rattle.kd_wire.specs.declared.item.WireItem.{WireItem}
use Rattle.kd_wire.specs.declared.command.Command.{Command}
use Rattle.kd_wire.specs.declared.command.Command.TheVariants as cmd
use Rattle.kd_acts.specs.State.{Answer}
use Rattle.kd_commands.specs.declared.who.Who.{Who}
use Rattle.kd_commands.specs.declared.who.WhoKind.{WhoKind}
use Rattle.kd_commands.specs.declared.who.WhoKind.TheVariants as who
use Rattle.kd_commands.specs.State.{Desk}
use Rattle.kd_commands.specs.Items.{bus_in}
use Rattle.kd_commands.specs.Plans.{Part}
use Rattle.kd_commands.specs.Step.{Ended, ended_by, parts_in, plan}
use Rattle.kd_world.specs.Addressed.{Planner}

-- the one bus of a world
abbrev pub bus_name : List ℕ
bus_name = codes "1000-replay"

abbrev pub is_elsewhere : List WireItem → Bool
is_elsewhere is = elim (bus_in is) [ None ↦ false | Some name ↦ not (same name bus_name) ]

abbrev pub names_other_bus : Command → Bool
names_other_bus (cmd.Hello flags size send_mask receive_mask is) = is_elsewhere is
names_other_bus (cmd.EndpointMake is) = is_elsewhere is
names_other_bus _ = false

abbrev pub is_fresh : WhoKind → Bool
is_fresh who.Fresh = true
is_fresh _ = false

-- a caller that is nothing yet has to name this bus, if it names one; the desk has all other
-- refusals
unfoldable pub planned : Planner
planned d w x =
    elim (is_fresh w.member && names_other_bus x) [ true ↦ Err (NoSuchBus 0) | false ↦ plan d w x ]

unfoldable pub parts_planned : Desk → Who → Command → List Part
parts_planned d w x = parts_in (planned d w x)

-- the end of a command by the pools' answers
unfoldable pub desk_end : Desk → Who → Command → List Answer → Ended
desk_end d w x outs = ended_by d w (planned d w x) outs
