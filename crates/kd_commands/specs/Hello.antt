-- HELLO: a caller becomes a connection. All its refusals are the desk's own.
use Rattle.std.specs.Prelude.{ℕ, ◌+◌, Bool, true, false, not, ◌&&◌, ◌||◌, List, [], ◌∷◌, ◌++◌, length, Option, Some, None, Result, is_none, nat_lt, ◌==◌, unwrap_or, Ok}
use Rattle.std.specs.List.{range_with_len}
use Rattle.kd_types.specs.declared.creds.Creds.{Creds}
use Rattle.kd_types.specs.declared.creds.Kind.{Kind}
use Rattle.kd_types.specs.declared.creds.Kind.TheVariants.{Ordinary, Activator, Holder, Monitor}
use Rattle.kd_types.specs.declared.flags.HelloFlags.{HelloFlags}
use Rattle.kd_types.specs.declared.refusal.Refusal.{Refusal}
use Rattle.kd_types.specs.declared.refusal.Refusal.TheVariants.{NoSuchEndpoint, BadName, NotPermitted, NameTaken, TooMany}
use Rattle.kd_types.specs.Flags.{has_bits}
use Rattle.kd_model.specs.Words.{first, some_of, contains, put_in_order}
use Rattle.kd_name.specs.Names.{is_name}
use Rattle.kd_wire.specs.declared.item.WireItem.{WireItem}
use Rattle.kd_wire.specs.declared.reply.Reply.TheVariants as reply
use Rattle.kd_policy.specs.declared.entry.Entry.{Entry}
use Rattle.kd_policy.specs.declared.owner.Owner.TheVariants as owner
use Rattle.kd_policy.specs.Policy.{Policy, is_ill_named, after_put}
use Rattle.kd_endpoint.specs.Labels.{label_number}
use Rattle.kd_registry.specs.declared.claim.Claim.{Claim}
use Rattle.kd_registry.specs.Claims.{ranks, is_placeholder, after_activator}
use Rattle.kd_acts.specs.State.{raise}
use Rattle.kd_commands.specs.declared.conn.Conn.{Conn}
use Rattle.kd_commands.specs.State.{Desk, is_activator, is_holder, is_monitor, sits_before}
use Rattle.kd_commands.specs.Items.{activator_name, endpoint_in, description_in, entries_in}
use Rattle.kd_commands.specs.Rights.{is_privileged, may_own}
use Rattle.kd_commands.specs.Audience.{Subject, id_add, owner_change}
use Rattle.kd_commands.specs.Plans.{Plan, unless, itself, notices}

-- what is asked for
pub record Asked : Type 0 where
  pub flags : HelloFlags
  pub size : ℕ
  pub send_mask : ℕ
  pub receive_mask : ℕ
  pub items : List WireItem

-- nobody has the seat, and it doesn't wait for its own caller
abbrev pub is_free : Desk → ℕ → Bool
is_free d s = not (some_of (λ (c : Conn). c.seat == s) d.conns) && not (contains s d.blocked)

-- the lowest free one of 64
unfoldable pub free_seat : Desk → Option ℕ
free_seat d = first (is_free d) (range_with_len 0 64)

-- what it wants to be
abbrev pub kind_asked : HelloFlags → Kind
kind_asked flags =
    elim (has_bits flags.0 2) [
      | true ↦ Activator
      | false ↦ elim (has_bits flags.0 4) [
        | true ↦ Holder
        | false ↦ elim (has_bits flags.0 8) [ true ↦ Monitor | false ↦ Ordinary ]
      ]
    ]

-- the number of the endpoint of this label, 0 for none given
abbrev pub endpoint_of : Desk → Option (List ℕ) → Option ℕ
endpoint_of d None = Some 0
endpoint_of d (Some label) = label_number d.endpoints label

-- the connection that comes, if nothing refuses it
unfoldable pub newcomer : Desk → Creds → Asked → Conn
newcomer d creds a = record {
  id = d.next_id;
  seat = unwrap_or (free_seat d) 0;
  creds = creds;
  endpoint = unwrap_or (endpoint_of d (endpoint_in a.items)) 0;
  kind = kind_asked a.flags;
  size = a.size;
  send_mask = a.send_mask;
  receive_mask = a.receive_mask;
  description = description_in a.items;
}

-- ---- its refusals

-- the policy that a holder brings
abbrev pub holder_entries : Conn → Asked → List Entry
holder_entries c a = elim (is_holder c.kind) [ true ↦ entries_in a.items | false ↦ [] ]

-- an activator has to be allowed to own its name; a holder and a monitor are privileged, and a
-- monitor comes by the default endpoint
abbrev pub is_forbidden : Desk → Conn → Asked → Bool
is_forbidden d c a = elim c.kind [
  | Ordinary ↦ false
  | Activator ↦ not (may_own d c (activator_name a.items))
  | Holder ↦ not (is_privileged d c.creds)
  | Monitor ↦ not (is_privileged d c.creds) || not (c.endpoint == 0)
]

-- the name of an activator is none, or a pattern of a holder is none
abbrev pub has_bad_text : Conn → Asked → Bool
has_bad_text c a =
    (is_activator c.kind && not (is_name (activator_name a.items)))
    || some_of is_ill_named (holder_entries c a)

-- the name has an activator already
abbrev pub has_activator : Desk → List ℕ → Bool
has_activator d n = some_of is_placeholder (ranks d.registry n)

-- why it doesn't come
unfoldable pub hello_refusals : Desk → Conn → Asked → List (Bool × Refusal)
hello_refusals d c a =
    (is_none (endpoint_of d (endpoint_in a.items)), NoSuchEndpoint)
    ∷ (has_bad_text c a, BadName)
    ∷ (is_forbidden d c a, NotPermitted)
    ∷ (is_activator c.kind && has_activator d (activator_name a.items), NameTaken)
    ∷ (nat_lt 256 (length (holder_entries c a)), TooMany 256)
    ∷ (is_none (free_seat d), TooMany 64)
    ∷ []

-- ---- the desk after it

-- an activator has its name then
abbrev pub registry_with : Desk → Conn → Asked → List Claim
registry_with d c a =
    elim (is_activator c.kind) [
      | true ↦ after_activator d.registry c.id (activator_name a.items) (Ok tt)
      | false ↦ d.registry
    ]

-- and a holder its entries
abbrev pub policy_with : Desk → Conn → Asked → Policy
policy_with d c a =
    elim (is_holder c.kind) [
      | true ↦ after_put d.policy (owner.Conn c.id) (entries_in a.items)
      | false ↦ d.policy
    ]

-- the desk with it
unfoldable pub with_newcomer : Desk → Conn → Asked → Desk
with_newcomer d c a = record d {
  conns = put_in_order sits_before c d.conns;
  registry = registry_with d c a;
  policy = policy_with d c a;
  next_id = d.next_id + 1;
}

-- ---- its plan

-- a monitor comes unnoticed
abbrev pub arrival : Conn → List Subject
arrival c = elim (is_monitor c.kind) [ true ↦ [] | false ↦ id_add c.id ∷ [] ]

-- an activator owns its name if nobody does
abbrev pub first_owner : Desk → Conn → Asked → List Subject
first_owner d c a =
    elim (is_activator c.kind) [
      | true ↦ owner_change d.registry (registry_with d c a) (activator_name a.items)
      | false ↦ []
    ]

-- its pool is raised, and the others are told
abbrev pub hello_plan : Desk → Conn → Asked → Plan
hello_plan d c a =
    let after : Desk = with_newcomer d c a in
    record {
      parts =
          record { seat = c.seat; act = raise c.size }
          ∷ notices after (arrival c ++ first_owner d c a);
      reply = reply.Hello c.id d.rules.size d.hashes;
      next = after;
      becomes = itself c;
    }

-- the refusal, or the plan
unfoldable pub hello : Desk → Creds → Asked → Result Plan Refusal
hello d creds a =
    let c : Conn = newcomer d creds a in unless (hello_refusals d c a) (hello_plan d c a)
