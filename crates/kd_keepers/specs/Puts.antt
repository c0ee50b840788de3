-- The tie of all lists with its keepers, and what a put asks for so that it holds again.
use Rattle.std.specs.Prelude.{◌≡◌, ◌⊎◌, ℕ, suc, true, List, [], ◌∷◌, ◌++◌, Option, Some, None}
use Rattle.kd_types.specs.declared.creds.Kind.{Kind}
use Rattle.kd_commands.specs.declared.who.WhoKind.{WhoKind}
use Rattle.kd_commands.specs.declared.who.WhoKind.TheVariants as who
use Rattle.kd_hands.specs.declared.views.View.{View}
use Rattle.kd_hands.specs.Views.{part}
use Rattle.kd_hands.specs.Locks.{Fact, Histories, Locks, hands_after}
use Rattle.kd_hands.specs.Fits.{Owes, Stood}
use Rattle.kd_settled.specs.Room.{IsAtHome}
use Rattle.kd_settled.specs.Settled.{IsSettled}
use Rattle.kd_histories.specs.Turns.{Left, Turn, left, started, removed, did, idle}
use Rattle.kd_histories.specs.Slots.{slot_of}
use Rattle.kd_histories.specs.Seats.{keeper}
use Rattle.kd_histories.specs.Lent.{empties, hand_after, lends, out}
use Rattle.kd_histories.specs.Tie.{Tie, no_entry}
use Rattle.kd_histories.specs.Puts.{EndsTurn, IsOwn, OwesPut}
use Rattle.kd_keepers.specs.Keeping.{AreKept, Endpoint, keeping}

-- the tie of all lists, in which the commands of a keeper come from its pass too
pub record KeptTie (h : Histories Turn) : Type 0 where
  pub tie : Tie h
  pub kept : (x : Endpoint) → AreKept x None (h.lists 0)

-- what holds of the bus between any two steps
abbrev pub KeptFact : Locks Turn → Type 0
KeptFact = Fact KeptTie lends out keeper

-- what an entry on a lock owes it
abbrev pub OwesKept : View Turn → ℕ → Turn → Type 0
OwesKept v l e = Owes KeptFact (hands_after hand_after empties) v l e

-- it holds before any entry
abbrev pub KeptBegins : Type 0
KeptBegins = KeptTie no_entry

-- where it stands, so does what holds without keepers
abbrev pub KeptIsTied : Type 0
KeptIsTied = (v : View Turn) → Stood KeptFact v → Stood (Fact Tie lends out keeper) v

-- the caller is a connection or a keeper of this pass by its own entries; or none
abbrev pub IsOwnCaller : List (ℕ × Turn) → ℕ → WhoKind → Type 0
IsOwnCaller own generation (who.Keeper n) =
    (j : ℕ) × (keeping (record { generation = generation; number = n }) own ≡ Some j)
IsOwnCaller own generation who.Fresh = IsOwn own generation who.Fresh
IsOwnCaller own generation (who.Conn id s) = IsOwn own generation (who.Conn id s)
IsOwnCaller own generation (who.Old s) = IsOwn own generation (who.Old s)

-- ---- puts

-- what may be put on a pool may be put
abbrev pub PoolsStayKept : Type 0
PoolsStayKept = (v : View Turn) (s : ℕ) (e : Turn) → OwesPut v (suc s) e → OwesKept v (suc s) e

-- and what may be put on the desk and is no command
abbrev pub IsNoCommand : Turn → Type 0
IsNoCommand (left l) = ⊥
IsNoCommand (started b) = Unit {0}
IsNoCommand (removed generation) = Unit {0}
IsNoCommand (did d) = Unit {0}
IsNoCommand idle = Unit {0}

abbrev pub DesksStayKept : Type 0
DesksStayKept = (v : View Turn) (e : Turn) → IsNoCommand e → OwesPut v 0 e → OwesKept v 0 e

-- a command of a caller of its own leaves the desk, refused or not
abbrev pub KeptLeavesMayBePut : Type 0
KeptLeavesMayBePut =
    (l : Left) (v : View Turn) → EndsTurn (left l) v
    → IsOwnCaller (part v 0).own l.generation l.who.member → OwesKept v 0 (left l)

-- whose caller is its own then too
abbrev pub KeptCallersAreOwn : Type 0
KeptCallersAreOwn =
    (l : Left) (v : View Turn) → Stood KeptFact v → EndsTurn (left l) v
    → IsOwnCaller (part v 0).own l.generation l.who.member
    → IsOwnCaller ((part v 0).own ++ (v.name, left l) ∷ []) l.generation l.becomes

-- ---- what the holder of the desk finds

-- the desk is settled
abbrev pub HoldersFindSettled : Type 0
HoldersFindSettled =
    (v : View Turn) → Stood KeptFact v → (part v 0).holds ≡ true
    → IsSettled (slot_of (part v 0).seen).desk

-- and its caller is at home there, or of another bus
abbrev pub HoldersAreHome : Type 0
HoldersAreHome =
    (v : View Turn) (m : WhoKind) → Stood KeptFact v → (part v 0).holds ≡ true
    → IsOwnCaller (part v 0).own (slot_of (part v 0).seen).generation m
    → ((k : Kind) × IsAtHome (slot_of (part v 0).seen).desk k m)
    ⊎ ((o : Option ℕ) × (m ≡ who.Old o))
