-- What a caller has of its own: a pool, a hand, and what it has yet to publish.
use Rattle.std.specs.Prelude.{ℕ, Bool, true, false, ◌&&◌, ◌==◌, get_or, Option, Some, None}
use Rattle.kd_model.specs.Words.{first}
use Rattle.kd_commands.specs.declared.who.WhoKind.TheVariants as who
use Rattle.kd_commands.specs.State.{is_holder}
use Rattle.kd_world.specs.declared.told.Told.{Told}
use Rattle.kd_world.specs.State.{Caller, Pending, World, caller_at}

abbrev pub is_pending_at : ℕ → ℕ → Pending → Bool
is_pending_at seat number p = p.seat == seat && p.number == number

-- the oldest pending of that seat and number
abbrev pub pending_of : World → ℕ → ℕ → ℕ → Option Pending
pending_of w n seat number = first (is_pending_at seat number) (caller_at w n).pendings

-- the seat whose pool the caller may use; a policy holder has none
abbrev pub pool_seat : Caller → Option ℕ
pool_seat c = elim c.who.member [
  | who.Fresh ↦ None
  | who.Conn id s ↦ elim (is_holder c.kind) [ true ↦ None | false ↦ Some s ]
  | who.Keeper e ↦ None
  | who.Old s ↦ None
]

abbrev pub hand_entry : Caller → ℕ → Option Told
hand_entry c n = get_or c.hand n None
