-- Who sits where, along the desk's list.
use Rattle.std.specs.Prelude.{◌≡◌, ◌≢◌, ℕ, zero, suc, ◌==◌, true, cond, List, [], ◌∷◌, Option, Some, None, option_map}
use Rattle.kd_hands.specs.Lists.{made_by}
use Rattle.kd_commands.specs.declared.who.WhoKind.{WhoKind}
use Rattle.kd_commands.specs.declared.who.WhoKind.TheVariants as who
use Rattle.kd_histories.specs.Turns.{Turn, left, started, removed, did, idle}

-- the pass whose HELLO took a seat last, in which bus of the slot, and the id of its connection
pub record Sitter : Type 0 where
  pub pass : ℕ
  pub generation : ℕ
  pub id : ℕ

-- what an entry does to who sits where
pub data Move : Type 0 where
  arrives : (generation id seat : ℕ) → Move
  departs : (seat : ℕ) → Move
  stays : Move

-- whoever was nothing and is a connection took its seat
abbrev pub arrival : ℕ → WhoKind → Move
arrival generation (who.Conn id s) = arrives generation id s
arrival generation _ = stays

-- whoever was a connection, of this bus or of one before it, and is none any more left its seat
abbrev pub departure : ℕ → WhoKind → Move
departure s (who.Conn id seat) = stays
departure s (who.Old seat) = stays
departure s _ = departs s

-- what whoever was the one and is the other then does
abbrev pub moved : ℕ → WhoKind → WhoKind → Move
moved generation who.Fresh now = arrival generation now
moved generation (who.Conn id s) now = departure s now
moved generation (who.Keeper e) now = stays
moved generation (who.Old None) now = stays
moved generation (who.Old (Some s)) now = departure s now

-- a bus that goes moves nobody: the seats of its callers wait for them
unfoldable pub move_of : Turn → Move
move_of (left l) = moved l.generation l.who.member l.becomes
move_of _ = stays

-- who sits at c after a move of the pass j
abbrev pub sitter_after : ℕ → ℕ → Move → Option Sitter → Option Sitter
sitter_after c j (arrives generation id s) k =
    cond (s == c) (Some (record { pass = j; generation = generation; id = id })) k
sitter_after c j (departs s) k = cond (s == c) None k
sitter_after c j stays k = k

-- and along a list
unfoldable pub sitter_from : ℕ → Option Sitter → List (ℕ × Turn) → Option Sitter
sitter_from c k [] = k
sitter_from c k (x ∷ xs) = sitter_from c (sitter_after c x.0 (move_of x.1) k) xs

-- who sits at c; of a pass's own entries alone, whether it does by these
abbrev pub sitter : ℕ → List (ℕ × Turn) → Option Sitter
sitter c list = sitter_from c None list

-- of a pool's lock, the one pass that may have numbers of it in its hand
unfoldable pub keeper : ℕ → List (ℕ × Turn) → Option ℕ
keeper zero list = None
keeper (suc c) list = option_map (λ (t : Sitter). t.pass) (sitter c list)

-- ---- commands of a connection come from the pass that has its seat

-- a sitter of another bus, which this pass is
pub record IsOlder (j generation : ℕ) (k : Option Sitter) : Type 0 where
  pub one : Sitter
  pub sits : k ≡ Some one
  pub mine : one.pass ≡ j
  pub old : one.generation ≢ generation

-- the caller is a connection at c of this bus that this pass made, or of another bus
abbrev pub IsAt : ℕ → ℕ → ℕ → WhoKind → Option Sitter → Type 0
IsAt c generation j (who.Conn id s) k =
    (s == c) ≡ true → k ≡ Some (record { pass = j; generation = generation; id = id })
IsAt c generation j (who.Old (Some s)) k = (s == c) ≡ true → IsOlder j generation k
IsAt c generation j (who.Old None) k = Unit {0}
IsAt c generation j who.Fresh k = Unit {0}
IsAt c generation j (who.Keeper e) k = Unit {0}

-- only a seat without a sitter is taken
abbrev pub IsOpenTo : ℕ → Move → Option Sitter → Type 0
IsOpenTo c (arrives generation id s) k = (s == c) ≡ true → k ≡ None
IsOpenTo c (departs s) k = Unit {0}
IsOpenTo c stays k = Unit {0}

-- an entry that the pass j made, where this one sits at c
unfoldable pub IsFair : ℕ → ℕ → Turn → Option Sitter → Type 0
IsFair c j (left l) k =
    IsAt c l.generation j l.who.member k
    × IsOpenTo c (moved l.generation l.who.member l.becomes) k
IsFair c j (started b) k = Unit {0}
IsFair c j (removed generation) k = Unit {0}
IsFair c j (did d) k = Unit {0}
IsFair c j idle k = Unit {0}

-- each entry is so where it stands
unfoldable pub AreFair : ℕ → Option Sitter → List (ℕ × Turn) → Type 0
AreFair c k [] = Unit {0}
AreFair c k (x ∷ xs) =
    IsFair c x.0 x.1 k × AreFair c (sitter_after c x.0 (move_of x.1) k) xs

-- a pass's own entries tell whether it has a seat, whatever others did
abbrev pub OwnEntriesTell : Type 0
OwnEntriesTell =
    (c j : ℕ) (t : Sitter) (list : List (ℕ × Turn)) → AreFair c None list
    → sitter c (made_by j list) ≡ Some t → (sitter c list ≡ Some t) × (t.pass ≡ j)
