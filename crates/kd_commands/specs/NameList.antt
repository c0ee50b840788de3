-- NAME_LIST: who is there. Nothing refuses it.
use Rattle.std.specs.Prelude.{true, false, not, ◌&&◌, List, [], ◌++◌, map}
use Rattle.kd_types.specs.declared.flags.ListFlags.{ListFlags}
use Rattle.kd_types.specs.Flags.{has_bits}
use Rattle.kd_model.specs.Words.{those, in_order}
use Rattle.kd_wire.specs.declared.reply.ListedItem.{ListedItem}
use Rattle.kd_wire.specs.declared.reply.Reply.TheVariants as reply
use Rattle.kd_registry.specs.declared.claim.Listed.{Listed}
use Rattle.kd_registry.specs.Changes as registry
use Rattle.kd_commands.specs.declared.conn.Conn.{Conn}
use Rattle.kd_commands.specs.State.{Desk, is_monitor, came_before}
use Rattle.kd_commands.specs.Rights.{may_see_name, may_see}
use Rattle.kd_commands.specs.Plans.{Plan, quiet}

-- the line of a claim
abbrev pub as_listed : Listed → ListedItem
as_listed l = record { id = l.id; standing = l.standing; name = l.name }

-- each connection that isn't a monitor and that the caller may see, by id
abbrev pub conns_listed : Desk → Conn → List ListedItem
conns_listed d c =
    map (λ (x : Conn). record { id = x.id; standing = 0; name = [] })
    (in_order came_before
    (those (λ (x : Conn). not (is_monitor x.kind) && may_see d c x.id) d.conns))

-- of the names that the caller may see, the claims that are asked for
abbrev pub claims_listed : Desk → Conn → ListFlags → List ListedItem
claims_listed d c flags =
    map as_listed
    (those (λ (l : Listed). may_see_name d c l.name) (registry.listing d.registry flags))

-- first the connections, where they are asked for
unfoldable pub listing_lines : Desk → Conn → ListFlags → List ListedItem
listing_lines d c flags =
    elim (has_bits flags.0 1) [ true ↦ conns_listed d c | false ↦ [] ] ++ claims_listed d c flags

-- the answer alone
unfoldable pub name_list : Desk → Conn → ListFlags → Plan
name_list d c flags = quiet c (reply.NameList (listing_lines d c flags)) d
