-- ENDPOINT_MAKE: a caller becomes the keeper of an endpoint. All its refusals are the desk's own.
use Rattle.std.specs.Prelude.{ℕ, ◌+◌, Bool, not, ◌||◌, List, [], ◌∷◌, length, Result, is_some, is_none, nat_lt, unwrap_or}
use Rattle.kd_types.specs.declared.creds.Creds.{Creds}
use Rattle.kd_types.specs.declared.refusal.Refusal.{Refusal}
use Rattle.kd_types.specs.declared.refusal.Refusal.TheVariants.{BadName, BadFlags, TooMany, NotPermitted, EndpointExists}
use Rattle.kd_model.specs.Words.{some_of}
use Rattle.kd_name.specs.Names.{is_label}
use Rattle.kd_wire.specs.declared.item.WireItem.{WireItem}
use Rattle.kd_wire.specs.declared.reply.Reply.TheVariants as reply
use Rattle.kd_policy.specs.declared.owner.Owner.TheVariants as owner
use Rattle.kd_policy.specs.Policy.{is_ill_named, has_star, after_put}
use Rattle.kd_endpoint.specs.Labels.{label_number, free_place, after_add}
use Rattle.kd_commands.specs.declared.who.WhoKind.TheVariants as who
use Rattle.kd_commands.specs.State.{Desk}
use Rattle.kd_commands.specs.Items.{endpoint_in, entries_in}
use Rattle.kd_commands.specs.Rights.{is_privileged}
use Rattle.kd_commands.specs.Plans.{Plan, unless}

-- its label
abbrev pub label_in : List WireItem → List ℕ
label_in is = unwrap_or (endpoint_in is) []

-- the lowest number that no endpoint has
abbrev pub next_endpoint : Desk → ℕ
next_endpoint d = unwrap_or (free_place d.endpoints) 0 + 1

-- why no endpoint is made
unfoldable pub endpoint_refusals : Desk → Creds → List WireItem → List (Bool × Refusal)
endpoint_refusals d creds is =
    (not (is_label (label_in is)) || some_of is_ill_named (entries_in is), BadName)
    ∷ (some_of has_star (entries_in is), BadFlags)
    ∷ (not (is_privileged d creds), NotPermitted)
    ∷ (is_some (label_number d.endpoints (label_in is)), EndpointExists)
    ∷ (nat_lt 256 (length (entries_in is)), TooMany 256)
    ∷ (is_none (free_place d.endpoints), TooMany 8)
    ∷ []

-- the desk with the endpoint, and with its first entries
unfoldable pub with_endpoint : Desk → List WireItem → Desk
with_endpoint d is = record d {
  endpoints = after_add d.endpoints (label_in is);
  policy = after_put d.policy (owner.Endpoint (next_endpoint d)) (entries_in is);
}

-- whoever makes it keeps it
unfoldable pub endpoint_make : Desk → Creds → List WireItem → Result Plan Refusal
endpoint_make d creds is =
    unless (endpoint_refusals d creds is)
    (record {
      parts = [];
      reply = reply.EndpointMake;
      next = with_endpoint d is;
      becomes = who.Keeper (next_endpoint d);
    })
