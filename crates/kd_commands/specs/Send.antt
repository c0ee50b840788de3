-- SEND: where a message goes, what refuses it, and the requests after it. All its refusals are the
-- desk's own, but for what the pool of its receiver answers. It is refused as NoSuchSeal where the
-- seals have no such range (`shared`).
use Rattle.std.specs.Prelude.{ℕ, Bool, true, false, not, ◌&&◌, ◌||◌, List, [], ◌∷◌, ◌++◌, map, length, Option, Some, None, is_some, is_none, nat_le, nat_lt, ◌==◌, Result}
use Rattle.kd_types.specs.declared.refusal.Refusal.{Refusal}
use Rattle.kd_types.specs.declared.refusal.Refusal.TheVariants.{BadCookie, BroadcastMisuse, BloomSize, TooLong, NoSuchSeal, BadName, NoSuchName, NameMoved, NotStarted, NoSuchConnection, NotPermitted, TooMany}
use Rattle.kd_types.specs.Flags.{has_bits}
use Rattle.kd_model.specs.Words.{those, but_those, first, some_of}
use Rattle.kd_name.specs.Names.{is_name}
use Rattle.kd_registry.specs.Claims.{owner, owner_id}
use Rattle.kd_replies.specs.declared.request.Request.{Request}
use Rattle.kd_replies.specs.Requests.{request_waits, waits_for, is_asked_by, expecting}
use Rattle.kd_image.specs.Images.{any}
use Rattle.kd_acts.specs.State.{offer}
use Rattle.kd_commands.specs.declared.conn.Conn.{Conn}
use Rattle.kd_commands.specs.declared.sent.Sent.{Sent}
use Rattle.kd_wire.specs.declared.reply.Reply.TheVariants as reply
use Rattle.kd_commands.specs.State.{Desk, is_ordinary, is_activator, has_id, conn_of, monitors}
use Rattle.kd_commands.specs.Items.{destination_name, Filter, filter_among, sealed_among}
use Rattle.kd_commands.specs.Rights.{may_see_name, may_see, may_talk}
use Rattle.kd_commands.specs.Audience.{broadcast, audience}
use Rattle.kd_commands.specs.Plans.{Part, Plan, unless, itself}
use Rattle.kd_commands.specs.Messages.{expects, is_broadcast, image_for, plain_length, share_in, content_for}

-- ---- its destination

-- whom it would answer: the owner of the name, if one is given, and else the id
abbrev pub asker_of : Desk → Sent → ℕ
asker_of d m = elim (destination_name m.items) [ Some n ↦ owner_id d.registry n | None ↦ m.dst ]

-- a request of that asker with the cookie in the last word waits for the sender
unfoldable pub is_reply : Desk → Conn → Sent → Bool
is_reply d s m =
    not (expects m) && not (is_broadcast m) && not (m.last == 0)
    && some_of (waits_for (asker_of d m) s.id m.last) d.requests

-- ids reach ordinary connections alone
abbrev pub live_ordinary : Desk → ℕ → Option Conn
live_ordinary d id = first (λ (c : Conn). has_id id c && is_ordinary c.kind) d.conns

-- there is one, and it passes
abbrev pub some_passes : {X : Type 0} → (X → Bool) → Option X → Bool
some_passes test None = false
some_passes test (Some x) = test x

-- whom a unicast reaches, if anybody
abbrev pub receiver : Desk → Sent → Option Conn
receiver d m =
    elim (destination_name m.items) [
      | Some n ↦ conn_of d (owner_id d.registry n)
      | None ↦ live_ordinary d m.dst
    ]

-- ---- its refusals

-- an expected reply needs no right to see
abbrev pub refusals_by_id : Desk → Conn → Sent → List (Bool × Refusal)
refusals_by_id d s m =
    (is_none (receiver d m) || (not (may_see d s m.dst) && not (is_reply d s m)), NoSuchConnection)
    ∷ []

-- the name comes before the rights, these before the id beside it
abbrev pub refusals_by_name : Desk → Conn → Sent → List ℕ → List (Bool × Refusal)
refusals_by_name d s m n =
    (not (is_name n), BadName)
    ∷ (
      is_none (owner d.registry n)
          || (not (may_see_name d s n) && not (is_reply d s m)),
      NoSuchName,
    )
    ∷ (not (m.dst == 0) && not (m.dst == owner_id d.registry n), NameMoved (owner_id d.registry n))
    ∷ (
      has_bits m.flags.0 2
          && some_passes (λ (c : Conn). is_activator c.kind) (receiver d m),
      NotStarted,
    )
    ∷ []

-- a name, where one is given, comes before an id
abbrev pub refusals_by : Desk → Conn → Sent → Option (List ℕ) → List (Bool × Refusal)
refusals_by d s m None = refusals_by_id d s m
refusals_by d s m (Some n) = refusals_by_name d s m n

-- an expected reply needs no right to talk
abbrev pub refusals_of_unicast : Desk → Conn → Sent → List (Bool × Refusal)
refusals_of_unicast d s m =
    refusals_by d s m (destination_name m.items)
    ++ (not (some_passes (may_talk d s) (receiver d m)) && not (is_reply d s m), NotPermitted)
    ∷ (expects m && nat_le 128 (length (those (is_asked_by s.id) d.requests)), TooMany 128)
    ∷ []

-- a request with the cookie 0 or the deadline 0, or with a cookie for which the sender waits
-- already
abbrev pub has_bad_cookie : Desk → Conn → Sent → Bool
has_bad_cookie d s m =
    expects m && (m.cookie == 0 || m.last == 0 || some_of (request_waits s.id m.cookie) d.requests)

-- a broadcast that wants a reply or names a receiver, or a unicast that is a signal
abbrev pub is_misuse : Sent → Bool
is_misuse m =
    elim (is_broadcast m) [
      | true ↦ expects m || is_some (destination_name m.items)
      | false ↦ has_bits m.flags.0 4
    ]

-- the filter of a broadcast has the size of the bus's filters
abbrev pub fits_filters : Desk → Sent → Bool
fits_filters d m = some_passes (λ (f : Filter). length f.bits == d.rules.size) (filter_among m.items)

-- why it is sent to nobody
unfoldable pub send_refusals : Desk → Conn → Sent → List (Bool × Refusal)
send_refusals d s m =
    (has_bad_cookie d s m, BadCookie)
    ∷ (is_misuse m, BroadcastMisuse)
    ∷ (is_broadcast m && not (fits_filters d m), BloomSize)
    ∷ (nat_lt 65536 (plain_length m), TooLong)
    ∷ (is_some (sealed_among m.items) && is_none (share_in d s m), NoSuchSeal)
    ∷ elim (is_broadcast m) [ true ↦ [] | false ↦ refusals_of_unicast d s m ]

-- ---- its parts

-- what is offered to one receiver
abbrev pub offered_to : Desk → Conn → Sent → ℕ → Bool → Conn → Part
offered_to d s m dst must r = record {
  seat = r.seat;
  act = offer s.creds.uid (length (image_for d s m dst r)) s.id must (content_for d s m dst r);
}

-- by the desk as it is; a broadcast changes nothing of what its audience rests on
abbrev pub broadcast_receivers : Desk → Conn → Option Filter → List Conn
broadcast_receivers d s None = []
broadcast_receivers d s (Some f) = audience d (broadcast s f)

-- no receiver has to take it
abbrev pub broadcast_parts : Desk → Conn → Sent → List Part
broadcast_parts d s m =
    map (offered_to d s m any false) (broadcast_receivers d s (filter_among m.items))

-- first the destination, then each monitor
abbrev pub unicast_parts : Desk → Conn → Sent → Option Conn → List Part
unicast_parts d s m None = []
unicast_parts d s m (Some r) =
    offered_to d s m r.id true r ∷ map (offered_to d s m r.id false) (monitors d)

-- the offers in visiting order
unfoldable pub send_parts : Desk → Conn → Sent → List Part
send_parts d s m =
    elim (is_broadcast m) [
      | true ↦ broadcast_parts d s m
      | false ↦ unicast_parts d s m (receiver d m)
    ]

-- ---- the requests after it

-- one request more, where somebody is to reply
abbrev pub with_request : Conn → Sent → Option Conn → List Request → List Request
with_request s m None qs = qs
with_request s m (Some r) qs =
    expecting (record { asker = s.id; replier = r.id; cookie = m.cookie; deadline = m.last }) qs

-- a request that was placed waits, and one whose reply was placed goes
unfoldable pub requests_after : Desk → Conn → Sent → List Request
requests_after d s m =
    elim (expects m) [
      | true ↦ with_request s m (receiver d m) d.requests
      | false ↦ elim (is_reply d s m) [
        | true ↦ but_those (request_waits (asker_of d m) m.last) d.requests
        | false ↦ d.requests
      ]
    ]

-- ---- its plan

-- a message that isn't refused is offered to whom it is for
unfoldable pub send : Desk → Conn → Sent → Result Plan Refusal
send d s m =
    unless (send_refusals d s m)
    (record {
      parts = send_parts d s m;
      reply = reply.Send;
      next = record d { requests = requests_after d s m };
      becomes = itself s;
    })
