-- The plans of the code, beside those of the definitions.
use Rattle.std.specs.Prelude.{◌≡◌, ◌⊎◌, ◌<◌, ◌≤◌, ◌+◌, ◌-◌, ◌^◌, ◌%◌, ℕ, Bool, true, false, is_some, IsTrue, List, [], ◌∷◌, length, map, Option, None, Result, Ok, Err, get_or, set, unwrap_or, pos}
use Rattle.std.specs.List.{AllByRecursion}
use Rattle.kd_types.specs.declared.refusal.Refusal.{Refusal}
use Rattle.kd_model.specs.Words.{but_those, put_in_order}
use Rattle.kd_wire.specs.declared.reply.Reply.{Reply}
use Rattle.kd_registry.specs.declared.claim.Claim.{Claim}
use Rattle.kd_registry.specs.Claims.{activator_answer, after_activator, asked, release_answer}
use Rattle.kd_policy.specs.declared.entry.Entry.{Entry}
use Rattle.kd_policy.specs.declared.owner.Owner.{Owner}
use Rattle.kd_policy.specs.declared.owner.Owner.TheVariants as owner
use Rattle.kd_policy.specs.Policy.{Policy, after_put, place_of, put_refusal}
use Rattle.kd_endpoint.specs.Labels.{add_answer, after_add}
use Rattle.kd_match.specs.Rules.{rule_refusal, remove_refusal, rules_left, with_rule, without_rules}
use Rattle.kd_seal.specs.Book.{has_counted, next_number, seal_answer, unseal_answer, unsealed, with_seal}
use Rattle.kd_replies.specs.Requests.{expect_answer, expecting, is_due, request_waits}
use Rattle.kd_acts.specs.State.{Content, raise, close, offer, post, drain, settle}
use Rattle.kd_commands.specs.declared.who.WhoKind.{WhoKind}
use Rattle.kd_tables.specs.declared.part.Part as code
use Rattle.kd_tables.specs.declared.part.Part.TheVariants as part
use Rattle.kd_tables.specs.declared.change.Brought.{Brought}
use Rattle.kd_tables.specs.declared.change.Brought.TheVariants as brought
use Rattle.kd_tables.specs.declared.change.Change.{Change}
use Rattle.kd_tables.specs.declared.change.Change.TheVariants as change
use Rattle.kd_commands.specs.State.{Desk, sits_before, unblocked}
use Rattle.kd_commands.specs.Plans.{Part, Plan}
use Rattle.kd_commands.specs.Leaving.{ids_of, on_endpoint, without_conns, without_endpoint}
use Rattle.kd_commands.specs.Names.{with_claim, without_claim}

-- a plan as the code holds it; the contents of its offers stand by the place of their parts, until
-- they are taken
pub record Draft : Type 0 where
  pub parts : List code.Part
  pub contents : List (Option Content)
  pub reply : Reply
  pub change : Change
  pub after : WhoKind

-- the content at a place
abbrev pub content_at : ℕ → List (Option Content) → Option Content
content_at n cs = get_or cs n None

unfoldable pub without_content : ℕ → Draft → Draft
without_content n p = record p { contents = set p.contents n None }

-- where an offer's content was taken
abbrev pub empty_content : Content
empty_content = record { image = []; shared = None; priority = pos 0 }

-- a part of the code, with the content of its offer
abbrev pub part_with : Option Content → code.Part → Part
part_with c (part.Raise seat size) = record { seat = seat; act = raise size }
part_with c (part.Close seat force) = record { seat = seat; act = close force }
part_with c (part.Offer seat user len from must) = record {
  seat = seat;
  act = offer user len from must (unwrap_or c empty_content);
}
part_with c (part.Post seat image) = record { seat = seat; act = post image }
part_with c (part.Drain seat size) = record { seat = seat; act = drain }
part_with c (part.Settle seat) = record { seat = seat; act = settle [] }

-- the seat whose pool is visited
abbrev pub seat_in : code.Part → ℕ
seat_in (part.Raise seat size) = seat
seat_in (part.Close seat force) = seat
seat_in (part.Offer seat user len from must) = seat
seat_in (part.Post seat image) = seat
seat_in (part.Drain seat size) = seat
seat_in (part.Settle seat) = seat

-- the part asks for room for a message
abbrev pub is_offer : code.Part → Bool
is_offer (part.Offer seat user len from must) = true
is_offer _ = false

-- each place with an offer has its content, and no other place has one
unfoldable pub StandByOffers : List (Option Content) → List code.Part → Type 0
StandByOffers cs ps = (n : ℕ) → is_some (content_at n cs) ≡ get_or (map is_offer ps) n false

-- parts without offers need no contents
abbrev pub parts_with : List (Option Content) → List code.Part → List Part
parts_with [] ps = map (part_with None) ps
parts_with (c ∷ cs) [] = []
parts_with (c ∷ cs) (p ∷ ps) = part_with c p ∷ parts_with cs ps

-- a plan of the code that visits nobody
abbrev pub quiet_draft : Reply → Change → WhoKind → Draft
quiet_draft reply change after =
    record { parts = []; contents = []; reply = reply; change = change; after = after }

-- an activator has its name, the last of all that claim it
abbrev pub registry_brought : List Claim → ℕ → Brought → List Claim
registry_brought r id (brought.Name n) = after_activator r id n (Ok tt)
registry_brought r id _ = r

-- and a holder its entries
abbrev pub policy_brought : Policy → ℕ → Brought → Policy
policy_brought p id (brought.Entries es) = after_put p (owner.Conn id) es.items
policy_brought p id _ = p

-- the desk after a change
unfoldable pub applied : Change → Desk → Desk
applied change.Nothing d = d
applied (change.Arrives c b) d = record d {
  conns = put_in_order sits_before c d.conns;
  registry = registry_brought d.registry c.id b;
  policy = policy_brought d.policy c.id b;
  next_id = d.next_id + 1;
}
applied (change.Leaves id) d = without_conns d (id ∷ [])
applied (change.Unblocks seat) d = unblocked seat d
applied (change.Expects q) d = record d { requests = expecting q d.requests }
applied (change.Answers asker cookie) d = record d {
  requests = but_those (request_waits asker cookie) d.requests;
}
applied (change.Acquires id flags n verdict) d = with_claim d id flags n verdict
applied (change.Releases id n) d = without_claim d id n
applied (change.Seals id bytes) d = record d { seals = with_seal d.seals id bytes }
applied (change.Unseals id number) d = record d { seals = unsealed d.seals id number }
applied (change.AddsRule id cookie conditions replace) d = record d {
  rules =
      with_rule d.rules (record {
        id = id;
        cookie = cookie;
        conditions = conditions.items;
      }) replace;
}
applied (change.RemovesRules id cookie) d = record d { rules = without_rules d.rules id cookie }
applied (change.SetsPolicy o entries) d = record d { policy = after_put d.policy o entries.items }
applied (change.AddsEndpoint label number entries) d = record d {
  endpoints = after_add d.endpoints label;
  policy = after_put d.policy (owner.Endpoint number) entries.items;
}
applied (change.EndsEndpoint e leavers) d = without_endpoint d e
applied (change.Passes now) d = record d {
  moment = now;
  requests = but_those (is_due now) d.requests;
}

-- a plan of the code, on the desk that it was made for
unfoldable pub drafted : Desk → Draft → Plan
drafted d p = record {
  parts = parts_with p.contents p.parts;
  reply = p.reply;
  next = applied p.change d;
  becomes = p.after;
}

-- the connection may seal so many bytes, for which the tables have room
pub record MaySeal (d : Desk) (id len : ℕ) : Type 0 where
  pub answer : (number : ℕ) × (seal_answer d.seals id len ≡ Ok number)
  pub seals : length d.seals.seals < 1024
  pub counters : IsTrue (has_counted d.seals id) ⊎ (length d.seals.counters < 64)
  pub numbers : next_number d.seals id ≤ 2 ^ 63 - 1

-- the policy takes these entries of an owner, and has room for them
abbrev pub TakesEntries : Policy → Owner → List Entry → Type 0
TakesEntries p o es = (put_refusal o es ≡ None) × (place_of p o ≡ None → length p < 72)

-- the registry and the policy take what a newcomer of this id brings
abbrev pub TakesBrought : List Claim → ℕ → Brought → Type 0
TakesBrought r id brought.Nothing = Unit {0}
TakesBrought r id (brought.Name n) = activator_answer r n ≡ Ok tt
TakesBrought r id (brought.Entries es) = put_refusal (owner.Conn id) es.items ≡ None

-- and have room for it
abbrev pub HasRoomFor : List Claim → Policy → ℕ → Brought → Type 0
HasRoomFor r p id brought.Nothing = Unit {0}
HasRoomFor r p id (brought.Name n) = length r < 4160
HasRoomFor r p id (brought.Entries es) = place_of p (owner.Conn id) ≡ None → length p < 72

-- the desk can make the change without memory
unfoldable pub Fits : Desk → Change → Type 0
Fits d (change.Arrives c b) =
    (length d.conns < 64) × (c.seat < 64) × (c.size % 8 ≡ 0) × (d.next_id < 2 ^ 64 - 1)
    × TakesBrought d.registry c.id b × HasRoomFor d.registry d.policy c.id b
Fits d (change.Expects q) =
    (expect_answer q.asker q.cookie d.requests ≡ Ok tt) × (length d.requests < 8192)
Fits d (change.Acquires id flags n verdict) =
    (asked d.registry id n flags ≡ Ok verdict) × (length d.registry < 4160)
Fits d (change.Releases id n) = (owner : ℕ) × (release_answer d.registry id n ≡ Ok owner)
Fits d (change.Seals id bytes) = MaySeal d id (length bytes)
Fits d (change.Unseals id number) = unseal_answer d.seals id number ≡ Ok tt
Fits d (change.AddsRule id cookie conditions replace) =
    (rule_refusal d.rules id cookie conditions.items replace ≡ None)
    × (length (rules_left d.rules.rules id cookie replace) < 4096)
Fits d (change.RemovesRules id cookie) = remove_refusal d.rules id cookie ≡ None
Fits d (change.SetsPolicy o entries) = TakesEntries d.policy o entries.items
Fits d (change.AddsEndpoint label number entries) =
    (add_answer d.endpoints label ≡ Ok number)
    × TakesEntries d.policy (owner.Endpoint number) entries.items
Fits d (change.EndsEndpoint e leavers) = leavers.items ≡ ids_of (on_endpoint d e)
Fits d _ = Unit {0}

-- the length of a slice
abbrev pub IsLength : ℕ → Type 0
IsLength n = (0 < n) × (n % 8 ≡ 0)

-- what a pool can take: its seat is one of 64, and sizes and lengths are whole words
unfoldable pub IsVisitable : code.Part → Type 0
IsVisitable (part.Raise seat size) = (seat < 64) × (size % 8 ≡ 0)
IsVisitable (part.Close seat force) = seat < 64
IsVisitable (part.Offer seat user len from must) = (seat < 64) × IsLength len
IsVisitable (part.Post seat image) = (seat < 64) × IsLength (length image)
IsVisitable (part.Drain seat size) = (seat < 64) × (size % 8 ≡ 0)
IsVisitable (part.Settle seat) = seat < 64

-- offers, each with its content, that pools can take
abbrev pub AreOffers : List (Option Content) → List code.Part → Type 0
AreOffers cs ps =
    (length cs ≡ length ps) × AllByRecursion IsVisitable ps × StandByOffers cs ps

-- what the code plans is what is asked for, with the content of each offer, and it refuses just
-- what is refused; but memory may be wanting
abbrev pub PlanResult : Desk → Result Plan Refusal → Result Draft Refusal → Type 0
PlanResult d wanted (Ok p) =
    (wanted ≡ Ok (drafted d p)) × Fits d p.change × AllByRecursion IsVisitable p.parts
    × StandByOffers p.contents p.parts
PlanResult d wanted (Err Refusal.OutOfMemory) = Unit {0}
PlanResult d wanted (Err e) = wanted ≡ Err e
