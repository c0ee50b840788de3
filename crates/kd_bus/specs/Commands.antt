-- What a command tells.
use Rattle.std.specs.Prelude.{◌≡◌, ℕ, ◌&&◌, nat_le, ◌^◌, Bool, true, false, not, List, Option}
use Rattle.kd_wire.specs.declared.command.Command.{Command}
use Rattle.kd_wire.specs.declared.command.Command.TheVariants as cmd
use Rattle.kd_wire.specs.declared.reply.Reply.{Reply}
use Rattle.kd_commands.specs.declared.who.WhoKind.{WhoKind}
use Rattle.kd_world.specs.State.{Pending}
use Rattle.kd_hands.specs.declared.views.View.{View}
use Rattle.kd_hands.specs.Views.{part}
use Rattle.kd_histories.specs.Turns.{Turn, idle}
use Rattle.kd_histories.specs.Slots.{slot_of}
use Rattle.kd_bus.specs.declared.member.Member.{Member}
use Rattle.kd_bus.specs.Sight.{BusSight}
use Rattle.kd_bus.specs.Leaving.{Leaves, LeavesDesk, TakesDesk, aim_left, aim_of}
use Rattle.kd_bus.specs.Members.{kind_made, member_after, who_of}

-- after 2^40 turns a pass takes no more, but to close what its member is
abbrev pub is_close : Command → Bool
is_close cmd.Close = true
is_close _ = false

abbrev pub is_spent : ℕ → Command → Bool
is_spent turns x = nat_le (2 ^ 40) turns && not (is_close x)

-- the pass took the desk, visited the pools that the command asks for where the desk stood, and
-- left it with the command's entry, at the slot's bus of this generation
pub record Runs (x : Command) (aim : Option ℕ) (m : Member) (g : ℕ) (reply : Reply) (now : WhoKind)
    (pendings : List Pending) (v v' : View Turn) : Type 0 where
  pub taken : View Turn
  pub takes : TakesDesk v taken
  pub generation : g ≡ (slot_of (part taken 0).seen).generation
  pub leaves :
      Leaves (slot_of (part taken 0).seen) (aim_of x aim) (who_of g m) x reply now pendings taken v'

-- its member is then what the command made of it
pub record Commands (x : Command) (m m' : Member) (reply : Reply) (pendings : List Pending)
    (p p' : BusSight) : Type 0 where
  pub generation : ℕ
  pub now : WhoKind
  pub runs : Runs x p.aim m generation reply now pendings p.view p'.view
  pub member_is : m' ≡ member_after generation (kind_made x) now m
  pub aim_is : p'.aim ≡ aim_left x p.aim

-- memory was wanted: the pass took the desk, and left it with nothing
pub record WantsMemory (v v' : View Turn) : Type 0 where
  pub taken : View Turn
  pub takes : TakesDesk v taken
  pub leaves : LeavesDesk idle taken v'
