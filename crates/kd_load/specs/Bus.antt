-- The bus of a load, and what its connections do there: each sends its messages.
use Rattle.std.specs.Prelude.{◌≡◌, ℕ, zero, suc, ◌+◌, ◌-◌, ◌<◌, ◌≤◌, pos, false, List, [], ◌∷◌, get_or, map, None}
use Rattle.std.specs.List.{range_with_len}
use Rattle.byteorder.specs.Endian.{little_bytes}
use Rattle.kd_types.specs.declared.creds.Creds.{Creds}
use Rattle.kd_types.specs.declared.creds.Kind.TheVariants.{Ordinary}
use Rattle.kd_wire.specs.declared.command.Command.{Command}
use Rattle.kd_wire.specs.declared.command.Command.TheVariants as cmd
use Rattle.kd_wire.specs.declared.item.WireItem.{WireItem}
use Rattle.kd_wire.specs.declared.item.WireItem.TheVariants as item
use Rattle.kd_bloom.specs.Bloom.{IsFilter}
use Rattle.kd_match.specs.declared.condition.Condition.TheVariants as condition
use Rattle.kd_match.specs.declared.rule.Rule.{Rule}
use Rattle.kd_image.specs.Images.{any}
use Rattle.kd_commands.specs.declared.conn.Conn.{Conn}
use Rattle.kd_commands.specs.declared.who.Who.{Who}
use Rattle.kd_commands.specs.declared.who.WhoKind.TheVariants as who
use Rattle.kd_commands.specs.State.{Desk}
use Rattle.kd_endpoint.specs.Labels.{no_labels}
use Rattle.kd_seal.specs.Book.{no_seals}
use Rattle.kd_histories.specs.Turns.{Left, Started, Turn, left, started}
use Rattle.kd_load.specs.declared.message.Message.{Message}
use Rattle.kd_load.specs.declared.message.Target.{Target}
use Rattle.kd_load.specs.declared.message.Target.TheVariants.{All, One}
use Rattle.kd_load.specs.Counts.{digit_of, tag}

-- ---- the desk

-- the user who makes the bus and all its connections
abbrev pub user : Creds
user = record { uid = 1000; gid = 1000; privileged = false }

-- connection i sits on the seat before its id, has a pool of 1,048,576 bytes, and neither sends
-- nor wants metadata
abbrev pub conn_at : ℕ → Conn
conn_at i = record {
  id = i;
  seat = i - 1;
  creds = user;
  endpoint = 0;
  kind = Ordinary;
  size = 1048576;
  send_mask = 0;
  receive_mask = 0;
  description = None;
}

-- the filters of the eight digits, in their order; a mask of one generation is the filter of its
-- strings
abbrev pub AreFilters : List (List ℕ) → Type 0
AreFilters filters = (d : ℕ) → d < 8 → IsFilter 64 8 0 (tag d ∷ []) (get_or filters d [])

-- its one rule
abbrev pub rule_at : List (List ℕ) → ℕ → Rule
rule_at filters i = record {
  id = i;
  cookie = 0;
  conditions = condition.Mask (get_or filters (digit_of i) [] ∷ []) ∷ [];
}

-- the desk with so many connections and their rules
unfoldable pub loaded_desk : List (List ℕ) → ℕ → Desk
loaded_desk filters n = record {
  creator = 1000;
  hashes = 8;
  conns = map conn_at (range_with_len 1 n);
  blocked = [];
  endpoints = no_labels;
  policy = [];
  registry = [];
  rules = record { size = 64; rules = map (rule_at filters) (range_with_len 1 n) };
  seals = no_seals;
  requests = [];
  next_id = n + 1;
  moment = 0;
}

-- ---- what is sent there

-- the eight bytes of the message's number
abbrev pub payload_of : Message → WireItem
payload_of m = item.Payload (little_bytes 8 m.number)

-- a plain message; one to all has the filter of its digit, of generation 0
abbrev pub command_to : List (List ℕ) → WireItem → Target → Command
command_to filters payload (All digit) =
    cmd.Send (record { 0 = 0 }) (pos 0) any 0 0 0 0
    (payload ∷ item.Filter 0 (get_or filters digit []) ∷ [])
command_to filters payload (One id) = cmd.Send (record { 0 = 0 }) (pos 0) id 0 0 0 0 (payload ∷ [])

abbrev pub command_of : List (List ℕ) → Message → Command
command_of filters m = command_to filters (payload_of m) m.target

-- whoever sends as the connection of the id
abbrev pub sender_at : ℕ → Who
sender_at i = record { creds = user; member = who.Conn i (i - 1) }

-- an entry of the desk's list is the SEND of a message
pub record IsSending (filters : List (List ℕ)) (m : Message) (e : Turn) : Type 0 where
  pub it : Left
  pub is : e ≡ left it
  pub who_is : it.who ≡ sender_at m.sender
  pub command_is : it.command ≡ command_of filters m

-- entries are those of messages, one by one
abbrev pub AreSendings : List (List ℕ) → List Message → List (ℕ × Turn) → Type 0
AreSendings filters [] [] = Unit {0}
AreSendings filters [] (x ∷ xs) = ⊥
AreSendings filters (m ∷ ms) [] = ⊥
AreSendings filters (m ∷ ms) (x ∷ xs) = IsSending filters m x.1 × AreSendings filters ms xs

-- a message of a load with so many connections
abbrev pub IsTarget : ℕ → Target → Type 0
IsTarget n (All digit) = digit < 8
IsTarget n (One id) = (1 ≤ id) × (id ≤ n)

pub record IsMessage (n : ℕ) (m : Message) : Type 0 where
  pub some : 1 ≤ m.sender
  pub low : m.sender ≤ n
  pub target : IsTarget n m.target

-- ---- before any message

-- a bare HELLO, and the rule of a connection
abbrev pub hello_command : Command
hello_command = cmd.Hello (record { 0 = 0 }) 1048576 0 0 []

abbrev pub rule_command : List (List ℕ) → ℕ → Command
rule_command filters i = cmd.MatchAdd false 0 (item.Mask (get_or filters (digit_of i) []) ∷ [])

-- an entry is the command of whoever it is
pub record IsGiven (w : Who) (x : Command) (e : Turn) : Type 0 where
  pub it : Left
  pub is : e ≡ left it
  pub who_is : it.who ≡ w
  pub command_is : it.command ≡ x
  pub aim_is : it.aim ≡ None

-- connections come from i on, so many, each with its rule, one after the other
abbrev pub AreConnected : List (List ℕ) → ℕ → ℕ → List (ℕ × Turn) → Type 0
AreConnected filters i zero entries = entries ≡ []
AreConnected filters i (suc n) [] = ⊥
AreConnected filters i (suc n) (x ∷ []) = ⊥
AreConnected filters i (suc n) (x ∷ y ∷ entries) =
    IsGiven (record { creds = user; member = who.Fresh }) hello_command x.1
    × IsGiven (sender_at i) (rule_command filters i) y.1
    × AreConnected filters (suc i) n entries

-- the bus begins, and then they come
pub record IsSetUp (filters : List (List ℕ)) (n : ℕ) (entries : List (ℕ × Turn)) : Type 0 where
  pub pass : ℕ
  pub bus : Started
  pub rest : List (ℕ × Turn)
  pub are : entries ≡ (pass, started bus) ∷ rest
  pub creator : bus.creator ≡ 1000
  pub size : bus.size ≡ 64
  pub hashes : bus.hashes ≡ 8
  pub connected : AreConnected filters 1 n rest
