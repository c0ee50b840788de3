-- What a caller of a shared bus is: at its desk, and after a command.
use Rattle.std.specs.Prelude.{ℕ, ◌==◌, Bool, true, false, Some, None}
use Rattle.kd_types.specs.declared.creds.Creds.{Creds}
use Rattle.kd_types.specs.declared.creds.Kind.{Kind}
use Rattle.kd_types.specs.declared.creds.Kind.TheVariants as kind
use Rattle.kd_wire.specs.declared.command.Command.{Command}
use Rattle.kd_wire.specs.declared.command.Command.TheVariants as cmd
use Rattle.kd_commands.specs.Hello.{kind_asked}
use Rattle.kd_commands.specs.declared.who.Who.{Who}
use Rattle.kd_commands.specs.declared.who.WhoKind.{WhoKind}
use Rattle.kd_commands.specs.declared.who.WhoKind.TheVariants as who
use Rattle.kd_hands.specs.declared.views.View.{View}
use Rattle.kd_world.specs.Hands.{empty_hand}
use Rattle.kd_histories.specs.Turns.{Turn}
use Rattle.kd_bus.specs.Turned.{Belongs}
use Rattle.kd_bus.specs.declared.member.Member.{Member}
use Rattle.kd_bus.specs.declared.member.Member.TheVariants as member

-- who a member is at the desk of the slot's bus of this generation; who made a bus may say no more
-- there than a keeper of another one
abbrev pub who_of : ℕ → Member → Who
who_of g (member.Fresh creds) = record { creds = creds; member = who.Fresh }
who_of g (member.Conn c) = record {
  creds = c.creds;
  member =
      elim (c.generation == g) [
        | true ↦ who.Conn c.id c.seat
        | false ↦ who.Old (Some c.seat)
      ];
}
who_of g (member.Keeper k) = record {
  creds = k.creds;
  member = elim (k.generation == g) [ true ↦ who.Keeper k.endpoint | false ↦ who.Old None ];
}
who_of g (member.Maker m) = record { creds = m.creds; member = who.Old None }

-- a member that a pass made: its connection is the pass's
abbrev pub MemberBelongs : View Turn → Member → Type 0
MemberBelongs v (member.Conn c) = Belongs v c
MemberBelongs v _ = Unit {0}

-- the kind of the connection that a command makes
abbrev pub kind_made : Command → Kind
kind_made (cmd.Hello flags size send_mask receive_mask is) = kind_asked flags
kind_made _ = kind.Ordinary

-- ---- after a command

-- whoever was nothing is what its command made, at the bus of this generation; nothing was told of
-- the slices of its pool
abbrev pub newly : ℕ → Kind → Creds → WhoKind → Member
newly g k creds (who.Conn id s) =
    member.Conn (record {
      creds = creds;
      id = id;
      seat = s;
      slot = 0;
      generation = g;
      kind = k;
      hand = empty_hand;
    })
newly g k creds (who.Keeper e) =
    member.Keeper (record { creds = creds; endpoint = e; slot = 0; generation = g })
newly g k creds _ = member.Fresh creds

-- a connection, of this bus or of one before it
abbrev pub is_conn : WhoKind → Bool
is_conn (who.Conn id s) = true
is_conn (who.Old s) = true
is_conn _ = false

-- all others stay what they are, with their credentials, or are nothing any more
abbrev pub member_after : ℕ → Kind → WhoKind → Member → Member
member_after g k b (member.Fresh creds) = newly g k creds b
member_after g k b (member.Conn c) =
    elim (is_conn b) [ true ↦ member.Conn c | false ↦ member.Fresh c.creds ]
member_after g k who.Fresh (member.Keeper m) = member.Fresh m.creds
member_after g k b (member.Keeper m) = member.Keeper m
member_after g k who.Fresh (member.Maker m) = member.Fresh m.creds
member_after g k b (member.Maker m) = member.Maker m
