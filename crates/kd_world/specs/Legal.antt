-- The events, and which are legal: a caller that holds the desk may only visit and leave.
use Rattle.std.specs.Prelude.{ℕ, Bool, true, false, not, ◌&&◌, Option, Some, None, is_some, is_none, nat_le, ◌==◌}
use Rattle.kd_wire.specs.declared.command.Command.{Command}
use Rattle.kd_wire.specs.declared.command.Command.TheVariants as cmd
use Rattle.kd_wire.specs.WellFormed.{is_well_formed}
use Rattle.kd_acts.specs.declared.receive.RecvMode.{RecvMode}
use Rattle.kd_commands.specs.Plans.{Part}
use Rattle.kd_world.specs.State.{World}
use Rattle.kd_world.specs.Holding.{holds_desk, next_visit}
use Rattle.kd_world.specs.Own.{pending_of}

pub data Event : Type 0 where
  take : (caller : ℕ) (command : Command) → Event
  visit : (caller seat : ℕ) → Event
  leave : (caller : ℕ) → Event
  publishes : (caller seat number : ℕ) → Event
  receives : (caller : ℕ) (mode : RecvMode) → Event
  reads : (caller number : ℕ) (sealed : Bool) → Event
  frees : (caller number : ℕ) → Event

abbrev pub is_caller : ℕ → Bool
is_caller n = nat_le 1 n && nat_le n 64

abbrev pub is_part_at : ℕ → Option Part → Bool
is_part_at seat None = false
is_part_at seat (Some p) = p.seat == seat

-- receives, reads and frees are events of their own, and the one bus is there already
abbrev pub is_for_desk : Command → Bool
is_for_desk (cmd.Recv flags limit) = false
is_for_desk (cmd.Read sealed number) = false
is_for_desk (cmd.Free number) = false
is_for_desk (cmd.MakeBus size hashes bus) = false
is_for_desk _ = true

unfoldable pub legal : World → Event → Bool
legal w (take n x) = is_caller n && is_none w.holder && is_for_desk x && is_well_formed x
legal w (visit n seat) =
    is_caller n
    && elim w.holder [ None ↦ false | Some h ↦ h.caller == n && is_part_at seat (next_visit w h) ]
legal w (leave n) =
    is_caller n
    && elim w.holder [ None ↦ false | Some h ↦ h.caller == n && is_none (next_visit w h) ]
legal w (publishes n seat number) =
    is_caller n && not (holds_desk w n) && is_some (pending_of w n seat number)
legal w (receives n mode) = is_caller n && not (holds_desk w n) && not (mode.peek && mode.drop_it)
legal w (reads n number sealed) = is_caller n && not (holds_desk w n)
legal w (frees n number) = is_caller n && not (holds_desk w n)
