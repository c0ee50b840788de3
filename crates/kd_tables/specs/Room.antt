-- What contracts see of a desk, what its tables have room for, and where its connections sit.
use Rattle.std.specs.Prelude.{◌≡◌, ◌≤◌, ◌<◌, ◌%◌, ℕ, Bool, false, ◌==◌, List, get_or, map, vec_capacity}
use Rattle.std.specs.List.{AllByRecursion, range_with_len}
use Rattle.kd_model.specs.Words.{those}
use Rattle.kd_commands.specs.declared.conn.Conn.{Conn}
use Rattle.kd_tables.specs.declared.desk.Desk.TheInside.{Inside}
use Rattle.kd_commands.specs.State.{Desk}

-- the seats that have a mark, by rising number
unfoldable pub marked : List Bool → List ℕ
marked marks = those (λ seat. get_or marks seat false) (range_with_len 0 64)

-- the table of rules has the size of the bus's filters
abbrev pub desk_of : Inside → Desk
desk_of d = record {
  creator = d.creator;
  hashes = d.param.hashes;
  conns = d.conns.items;
  blocked = marked d.gone;
  endpoints = d.endpoints;
  policy = d.policy;
  registry = d.registry;
  rules = d.matches;
  seals = d.seals;
  requests = d.replies;
  next_id = d.next_id;
  moment = d.moment;
}

-- a connection has one of 64 seats
abbrev pub IsSeated : Conn → Type 0
IsSeated c = c.seat < 64

-- its pool has whole words
abbrev pub HasWords : Conn → Type 0
HasWords c = c.size % 8 ≡ 0

pub record HasRoom (d : Inside) : Type 0 where
  pub size : d.param.size ≡ d.matches.size
  pub conns : 64 ≤ vec_capacity d.conns
  pub seats : AllByRecursion IsSeated d.conns.items
  pub words : AllByRecursion HasWords d.conns.items

-- it came by the endpoint
abbrev pub is_on : ℕ → Conn → Bool
is_on e c = c.endpoint == e

-- the seats of those that came by it
abbrev pub seats_on : List Conn → ℕ → List ℕ
seats_on cs e = map (λ (c : Conn). c.seat) (those (is_on e) cs)
