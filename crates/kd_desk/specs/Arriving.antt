-- HELLO, as the code judges it and makes its notices.
use Rattle.std.specs.Prelude.{◌≡◌, ℕ, Bool, false, not, ◌&&◌, ◌||◌, ◌==◌, List, [], ◌∷◌, length, nat_lt, is_err, is_none, unwrap_or, option_map}
use Rattle.kd_types.specs.declared.creds.Kind.{Kind}
use Rattle.kd_types.specs.declared.creds.Kind.TheVariants.{Ordinary, Activator, Holder, Monitor}
use Rattle.kd_types.specs.declared.refusal.Refusal.{Refusal}
use Rattle.kd_types.specs.declared.refusal.Refusal.TheVariants.{BadName, NotPermitted, NameTaken, TooMany}
use Rattle.kd_model.specs.Words.{some_of}
use Rattle.kd_name.specs.Names.{is_name}
use Rattle.kd_policy.specs.Policy.{is_ill_named}
use Rattle.kd_registry.specs.declared.claim.Claim.{Claim}
use Rattle.kd_registry.specs.Claims.{activator_answer, owner, owner_id}
use Rattle.kd_wire.specs.declared.item.WireItem.{WireItem}
use Rattle.kd_commands.specs.declared.conn.Conn.{Conn}
use Rattle.kd_commands.specs.Hello.{Asked, free_seat}
use Rattle.kd_commands.specs.Items.{activator_name, entries_in}
use Rattle.kd_commands.specs.State.{Desk, is_monitor}
use Rattle.kd_commands.specs.Audience.{Subject}
use Rattle.kd_commands.specs.Rights.{is_privileged, may_own}
use Rattle.kd_tables.specs.declared.change.Brought.{Brought}
use Rattle.kd_tables.specs.declared.change.Brought.TheVariants as brought
use Rattle.kd_desk.specs.declared.hello.Wanted.{Wanted}
use Rattle.kd_desk.specs.Owners.{moved}

-- what a caller asks for
abbrev pub asked : Wanted → Asked
asked w = record {
  flags = w.flags;
  size = w.size;
  send_mask = w.send_mask;
  receive_mask = w.receive_mask;
  items = w.items;
}

-- an activator brings its name, a holder its entries
abbrev pub IsBrought : Kind → List WireItem → Brought → Type 0
IsBrought Ordinary is brought.Nothing = Unit {0}
IsBrought Activator is (brought.Name n) = n ≡ activator_name is
IsBrought Holder is (brought.Entries es) = es.items ≡ entries_in is
IsBrought Monitor is brought.Nothing = Unit {0}
IsBrought _ is _ = ⊥

-- ---- its refusals, by what it brings

-- the name is none, or a pattern is none
abbrev pub is_ill_brought : Brought → Bool
is_ill_brought brought.Nothing = false
is_ill_brought (brought.Name n) = not (is_name n)
is_ill_brought (brought.Entries es) = some_of is_ill_named es.items

-- it may not own the name, or isn't privileged, or is a monitor on another endpoint
abbrev pub is_ruled_out : Desk → Conn → Brought → Bool
is_ruled_out d c brought.Nothing =
    is_monitor c.kind && (not (is_privileged d c.creds) || not (c.endpoint == 0))
is_ruled_out d c (brought.Name n) = not (may_own d c n)
is_ruled_out d c (brought.Entries es) = not (is_privileged d c.creds)

-- the registry doesn't take the name
abbrev pub is_taken : Desk → Brought → Bool
is_taken d (brought.Name n) = is_err (activator_answer d.registry n)
is_taken d _ = false

-- they are more than one owner may have
abbrev pub are_many : Brought → Bool
are_many (brought.Entries es) = nat_lt 256 (length es.items)
are_many _ = false

-- all but that there is no such endpoint
unfoldable pub refusals_of_newcomer : Desk → Conn → Brought → List (Bool × Refusal)
refusals_of_newcomer d c b =
    (is_ill_brought b, BadName)
    ∷ (is_ruled_out d c b, NotPermitted)
    ∷ (is_taken d b, NameTaken)
    ∷ (are_many b, TooMany 256)
    ∷ (is_none (free_seat d), TooMany 64)
    ∷ []

-- ---- what is told

-- who owns a name that an activator has: whoever did, else the activator
abbrev pub owner_with : List Claim → List ℕ → ℕ → ℕ
owner_with r n id = unwrap_or (option_map (λ (c : Claim). c.id) (owner r n)) id

-- its name has another owner, where nobody had it
abbrev pub owned_first : Desk → ℕ → Brought → List Subject
owned_first d id (brought.Name n) = moved (owner_id d.registry n) (owner_with d.registry n id) n
owned_first d id _ = []
