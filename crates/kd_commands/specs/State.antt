-- The desk's state.
use Rattle.std.specs.Prelude.{◌∷◌, ℕ, Bool, true, false, List, [], Option, ◌==◌, nat_lt}
use Rattle.std.specs.List.{range_with_len}
use Rattle.kd_types.specs.declared.creds.Kind.{Kind}
use Rattle.kd_types.specs.declared.creds.Kind.TheVariants.{Ordinary, Activator, Holder, Monitor}
use Rattle.kd_model.specs.Words.{those, first, but_those, contains}
use Rattle.kd_policy.specs.Policy.{Policy}
use Rattle.kd_endpoint.specs.Labels.{Labels, no_labels}
use Rattle.kd_registry.specs.declared.claim.Claim.{Claim}
use Rattle.kd_match.specs.Rules.{Table}
use Rattle.kd_seal.specs.Book.{SealBook, no_seals}
use Rattle.kd_replies.specs.declared.request.Request.{Request}
use Rattle.kd_commands.specs.declared.conn.Conn.{Conn}

-- what a bus knows of its callers
pub record Desk : Type 0 where
  -- the user who made the bus
  pub creator : ℕ
  -- how many hashes a string has in the filters of the bus, whose size stands with the rules
  pub hashes : ℕ
  -- the live connections, by rising seat
  pub conns : List Conn
  -- the seats of connections that others closed, until their own callers know, by rising number
  pub blocked : List ℕ
  pub endpoints : Labels
  pub policy : Policy
  pub registry : List Claim
  pub rules : Table
  pub seals : SealBook
  pub requests : List Request
  -- the id of the next connection
  pub next_id : ℕ
  pub moment : ℕ

-- the desk of a new bus
unfoldable pub opening_desk : ℕ → ℕ → ℕ → Desk
opening_desk creator size hashes = record {
  creator = creator;
  hashes = hashes;
  conns = [];
  blocked = [];
  endpoints = no_labels;
  policy = [];
  registry = [];
  rules = record { size = size; rules = [] };
  seals = no_seals;
  requests = [];
  next_id = 1;
  moment = 0;
}

-- it sends, receives and owns names
abbrev pub is_ordinary : Kind → Bool
is_ordinary Ordinary = true
is_ordinary _ = false

-- it stands for a name until somebody takes it
abbrev pub is_activator : Kind → Bool
is_activator Activator = true
is_activator _ = false

-- it has policy entries, and no pool
abbrev pub is_holder : Kind → Bool
is_holder Holder = true
is_holder _ = false

-- it is shown what others are told
abbrev pub is_monitor : Kind → Bool
is_monitor Monitor = true
is_monitor _ = false

-- it is the connection of this id
abbrev pub has_id : ℕ → Conn → Bool
has_id id c = c.id == id

-- it is the connection on this seat
abbrev pub has_seat : ℕ → Conn → Bool
has_seat seat c = c.seat == seat

-- connections stand by rising seat in the state
abbrev pub sits_before : Conn → Conn → Bool
sits_before a b = nat_lt a.seat b.seat

-- and by id in what is told of them
abbrev pub came_before : Conn → Conn → Bool
came_before a b = nat_lt a.id b.id

-- the live connection of this id
abbrev pub conn_of : Desk → ℕ → Option Conn
conn_of d id = first (has_id id) d.conns

-- by rising seat
abbrev pub monitors : Desk → List Conn
monitors d = those (λ (c : Conn). is_monitor c.kind) d.conns

-- ---- seats that wait for their callers

-- a set of seats: those of the 64 that are among these, by rising number
unfoldable pub seat_set : List ℕ → List ℕ
seat_set seats = those (λ s. contains s seats) (range_with_len 0 64)

-- a seat that waits for its caller
abbrev pub with_blocked : ℕ → Desk → Desk
with_blocked seat d = record d { blocked = seat_set (seat ∷ d.blocked) }

-- a connection that others closed is known to be gone: its seat is free again
abbrev pub unblocked : ℕ → Desk → Desk
unblocked s d = record d { blocked = but_those (λ b. b == s) d.blocked }
