-- The desk's step: who may give which command, which definition says what it comes to, and how it
-- ends by the answers of the pools.
use Rattle.std.specs.Prelude.{ℕ, List, [], Option, Some, None, Result, Ok, Err}
use Rattle.kd_types.specs.declared.creds.Creds.{Creds}
use Rattle.kd_types.specs.declared.creds.Kind.{Kind}
use Rattle.kd_types.specs.declared.creds.Kind.TheVariants.{Ordinary, Activator, Holder, Monitor}
use Rattle.kd_types.specs.declared.refusal.Refusal.{Refusal}
use Rattle.kd_types.specs.declared.refusal.Refusal.TheVariants.{WrongState}
use Rattle.kd_wire.specs.declared.command.Command.{Command}
use Rattle.kd_wire.specs.declared.command.Command.TheVariants as cmd
use Rattle.kd_wire.specs.declared.reply.Reply.{Reply}
use Rattle.kd_wire.specs.declared.reply.Reply.TheVariants as reply
use Rattle.kd_policy.specs.declared.owner.Owner.TheVariants as owner
use Rattle.kd_acts.specs.State.{Answer}
use Rattle.kd_commands.specs.declared.conn.Conn.{Conn}
use Rattle.kd_commands.specs.declared.who.Who.{Who}
use Rattle.kd_commands.specs.declared.who.WhoKind.{WhoKind}
use Rattle.kd_commands.specs.declared.who.WhoKind.TheVariants as who
use Rattle.kd_commands.specs.State.{Desk, conn_of, unblocked}
use Rattle.kd_commands.specs.Plans.{Part, Plan, itself, known}
use Rattle.kd_commands.specs.Hello.{hello}
use Rattle.kd_commands.specs.Send.{send}
use Rattle.kd_commands.specs.Names.{name_acquire, name_release}
use Rattle.kd_commands.specs.NameList.{name_list}
use Rattle.kd_commands.specs.Matches.{match_add, match_remove}
use Rattle.kd_commands.specs.Policy.{policy_set}
use Rattle.kd_commands.specs.Endpoints.{endpoint_make}
use Rattle.kd_commands.specs.Seals.{seal, unseal}
use Rattle.kd_commands.specs.Tick.{tick}
use Rattle.kd_commands.specs.Leaving.{byebye, close_conn, close_endpoint}
use Rattle.kd_commands.specs.Visits.{first_ends}

-- ---- who may give what

-- whoever is nothing yet; what it says of itself in an ENTER isn't the desk's
abbrev pub from_fresh : Desk → Creds → Command → Result Plan Refusal
from_fresh d creds (cmd.Hello flags size send_mask receive_mask is) =
    hello d creds (record {
      flags = flags;
      size = size;
      send_mask = send_mask;
      receive_mask = receive_mask;
      items = is;
    })
from_fresh d creds (cmd.EndpointMake is) = endpoint_make d creds is
from_fresh d creds (cmd.Enter new) = Ok (known reply.Enter d)
from_fresh d creds cmd.Close = Ok (known reply.Close d)
from_fresh d creds _ = Err WrongState

-- an ordinary connection
abbrev pub from_ordinary : Desk → Conn → Command → Result Plan Refusal
from_ordinary d c (cmd.Send flags priority dst source payload_type cookie last is) =
    send d c (record {
      flags = flags;
      priority = priority;
      dst = dst;
      payload_type = payload_type;
      cookie = cookie;
      last = last;
      items = is;
    })
from_ordinary d c (cmd.NameAcquire flags n) = name_acquire d c flags n
from_ordinary d c (cmd.NameRelease n) = name_release d c n
from_ordinary d c (cmd.MatchAdd replace cookie is) = match_add d c replace cookie is
from_ordinary d c (cmd.MatchRemove cookie) = match_remove d c cookie
from_ordinary d c (cmd.Seal bytes) = seal d c bytes
from_ordinary d c (cmd.Unseal number) = unseal d c number
from_ordinary d c _ = Err WrongState

-- a policy holder
abbrev pub from_holder : Desk → Conn → Command → Result Plan Refusal
from_holder d c (cmd.PolicySet is) = policy_set d (itself c) (owner.Conn c.id) is
from_holder d c _ = Err WrongState

-- an activator and a monitor may say no more than any connection
abbrev pub from_kind : Desk → Conn → Kind → Command → Result Plan Refusal
from_kind d c Ordinary x = from_ordinary d c x
from_kind d c Activator x = Err WrongState
from_kind d c Holder x = from_holder d c x
from_kind d c Monitor x = Err WrongState

-- first what a connection of any kind may say
abbrev pub from_conn : Desk → Conn → Command → Result Plan Refusal
from_conn d c cmd.Byebye = Ok (byebye d c)
from_conn d c cmd.Close = Ok (close_conn d c)
from_conn d c (cmd.NameList flags) = Ok (name_list d c flags)
from_conn d c (cmd.Tick moment) = Ok (tick d c moment)
from_conn d c x = from_kind d c c.kind x

-- a connection that others closed
abbrev pub from_gone : Desk → ℕ → Command → Result Plan Refusal
from_gone d s cmd.Byebye = Ok (known reply.Byebye (unblocked s d))
from_gone d s cmd.Close = Ok (known reply.Close (unblocked s d))
from_gone d s _ = Err WrongState

-- the keeper of an endpoint
abbrev pub from_keeper : Desk → ℕ → Command → Result Plan Refusal
from_keeper d e (cmd.PolicySet is) = policy_set d (who.Keeper e) (owner.Endpoint e) is
from_keeper d e cmd.Close = Ok (close_endpoint d e)
from_keeper d e _ = Err WrongState

-- a keeper of a bus that was removed since
abbrev pub from_old_keeper : Desk → Command → Result Plan Refusal
from_old_keeper d cmd.Close = Ok (known reply.Close d)
from_old_keeper d _ = Err WrongState

-- a connection or a keeper of a bus that was removed since
abbrev pub from_old : Desk → Option ℕ → Command → Result Plan Refusal
from_old d (Some s) x = from_gone d s x
from_old d None x = from_old_keeper d x

-- the refusal of a command, or its plan
unfoldable pub plan : Desk → Who → Command → Result Plan Refusal
plan d w x = elim w.member [
  | who.Fresh ↦ from_fresh d w.creds x
  | who.Conn id s ↦ elim (conn_of d id) [ Some c ↦ from_conn d c x | None ↦ from_gone d s x ]
  | who.Keeper e ↦ from_keeper d e x
  | who.Old s ↦ from_old d s x
]

-- the parts in visiting order; none where the command is refused
abbrev pub parts_in : Result Plan Refusal → List Part
parts_in (Err r) = []
parts_in (Ok p) = p.parts

-- ---- the end

-- how a command ends: the reply, the desk then, and what its caller is
pub record Ended : Type 0 where
  pub reply : Reply
  pub next : Desk
  pub becomes : WhoKind

-- nothing changes
abbrev pub refused_with : Desk → Who → Refusal → Ended
refused_with d w r = record { reply = reply.Refused r; next = d; becomes = w.member }

-- by the refusal of the first part, if that ended all
abbrev pub ended : Desk → Who → Plan → Option Refusal → Ended
ended d w p (Some r) = refused_with d w r
ended d w p None = record { reply = p.reply; next = p.next; becomes = p.becomes }

-- by what was planned, and by the answers of the pools that it visited
abbrev pub ended_by : Desk → Who → Result Plan Refusal → List Answer → Ended
ended_by d w (Err r) outs = refused_with d w r
ended_by d w (Ok p) outs = ended d w p (first_ends p.parts outs)
