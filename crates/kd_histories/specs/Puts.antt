-- What a put of each kind of entry asks for: that the tie and the point on hands hold again,
-- whatever others did meanwhile.
use Rattle.std.specs.Prelude.{◌≡◌, ◌≢◌, ◌<◌, ℕ, suc, Bool, true, false, List, [], ◌++◌, ◌∷◌, Option, Some, None, Ok}
use Rattle.kd_model.specs.Words.{contains}
use Rattle.kd_wire.specs.declared.command.Command.{Command}
use Rattle.kd_acts.specs.declared.receive.RecvMode.{RecvMode}
use Rattle.kd_acts.specs.State.{Answer, Content, Visit, by_desk, publish, raise, read, receive}
use Rattle.kd_commands.specs.declared.who.Who.{Who}
use Rattle.kd_commands.specs.declared.who.WhoKind.{WhoKind}
use Rattle.kd_commands.specs.declared.who.WhoKind.TheVariants as who
use Rattle.kd_commands.specs.Plans.{Part, Plan}
use Rattle.kd_commands.specs.Visits.{next_part}
use Rattle.kd_hands.specs.declared.views.View.{View}
use Rattle.kd_hands.specs.Views.{part}
use Rattle.kd_hands.specs.Lists.{is_word_of, was_swept}
use Rattle.kd_hands.specs.Locks.{Fact, Locks, hands_after}
use Rattle.kd_hands.specs.Fits.{Owes, Stood}
use Rattle.kd_histories.specs.Turns.{Did, Left, Started, Turn, left, started, removed, did, idle}
use Rattle.kd_histories.specs.Slots.{IsTold, planned, slot_of}
use Rattle.kd_histories.specs.Visits.{addressed_by, visits_opened}
use Rattle.kd_histories.specs.Seats.{Sitter, keeper, sitter}
use Rattle.kd_histories.specs.Pools.{IsDone, hold_of}
use Rattle.kd_histories.specs.Pairs.{owed}
use Rattle.kd_histories.specs.Lent.{empties, hand_after, lends, out}
use Rattle.kd_histories.specs.Tie.{Tie}

-- what holds of the bus between any two steps
abbrev pub BusFact : Locks Turn → Type 0
BusFact = Fact Tie lends out keeper

-- what an entry on a lock owes it
abbrev pub OwesPut : View Turn → ℕ → Turn → Type 0
OwesPut v l e = Owes BusFact (hands_after hand_after empties) v l e

-- ---- on a pool, by whoever holds the desk

-- the pass holds the desk and the pool of the seat s, and visits it; it has swept the marks that
-- the entry frees, and before a raise all of them, where nobody sits
pub record Visits (s : ℕ) (vis : Visit) (d : Did) (v : View Turn) : Type 0 where
  pub act : d.act ≡ by_desk vis
  pub desk : (part v 0).holds ≡ true
  pub held : (part v (suc s)).holds ≡ true
  pub is : IsDone (hold_of (part v (suc s)).seen) d
  pub frees : (n : ℕ) → contains n d.freed ≡ was_swept n (part v (suc s)).swept
  pub raises :
      (size : ℕ) → vis ≡ raise size
      → (sitter s (part v 0).seen ≡ None)
      × ((n : ℕ) → n < 256 → is_word_of n (part v (suc s)).swept ≡ true)

-- then the entry may be put
abbrev pub VisitsMayBePut : Type 0
VisitsMayBePut =
    (s : ℕ) (vis : Visit) (d : Did) (v : View Turn) → Visits s vis d v → OwesPut v (suc s) (did d)

-- ---- on a pool, by whoever doesn't hold the desk

-- the pass holds the pool of the seat s alone, and has swept no marks there
pub record HoldsAlone (s : ℕ) (v : View Turn) : Type 0 where
  pub desk : (part v 0).holds ≡ false
  pub held : (part v (suc s)).holds ≡ true
  pub swept : (part v (suc s)).swept ≡ []

-- and acts there
pub record Acts (s : ℕ) (d : Did) (v : View Turn) : Type 0 where
  pub alone : HoldsAlone s v
  pub is : IsDone (hold_of (part v (suc s)).seen) d

-- a publishing of what the pass still owes by its own entries
abbrev pub PublishesMayBePut : Type 0
PublishesMayBePut =
    (s g n : ℕ) (c : Content) (d : Did) (v : View Turn) → Acts s d v → d.act ≡ publish g n c
    → owed g n (part v (suc s)).own ≡ Some c → OwesPut v (suc s) (did d)

-- a receive, where the seat is the pass's by its own entries on the desk, however many entries the
-- desk has got since
abbrev pub ReceivesMayBePut : Type 0
ReceivesMayBePut =
    (s : ℕ) (mode : RecvMode) (t : Sitter) (d : Did) (v : View Turn) → Acts s d v
    → d.act ≡ receive mode → sitter s (part v 0).own ≡ Some t → OwesPut v (suc s) (did d)

-- a read
abbrev pub ReadsMayBePut : Type 0
ReadsMayBePut =
    (s n : ℕ) (sealed : Bool) (d : Did) (v : View Turn) → Acts s d v → d.act ≡ read n sealed
    → OwesPut v (suc s) (did d)

-- and nothing, where memory was wanted
abbrev pub IdlesMayBePut : Type 0
IdlesMayBePut = (s : ℕ) (v : View Turn) → HoldsAlone s v → OwesPut v (suc s) idle

-- ---- on the desk

-- the caller is a connection of this pass by its own entries, of this bus or of another; or none
abbrev pub IsOwn : List (ℕ × Turn) → ℕ → WhoKind → Type 0
IsOwn own generation (who.Conn id s) =
    (j : ℕ) × (sitter s own ≡ Some (record { pass = j; generation = generation; id = id }))
IsOwn own generation (who.Old (Some s)) =
    (t : Sitter) × (sitter s own ≡ Some t) × (t.generation ≢ generation)
IsOwn own generation (who.Old None) = Unit {0}
IsOwn own generation who.Fresh = Unit {0}
IsOwn own generation (who.Keeper e) = Unit {0}

-- the pass holds the desk, and has visited just what an entry of it addresses
pub record EndsTurn (e : Turn) (v : View Turn) : Type 0 where
  pub desk : (part v 0).holds ≡ true
  pub is : IsTold (slot_of (part v 0).seen) e
  pub opened :
      (c : ℕ) → visits_opened (suc c) v.opened ≡ addressed_by c (slot_of (part v 0).seen) e

-- a command of a caller of its own leaves the desk, refused or not
abbrev pub LeavesMayBePut : Type 0
LeavesMayBePut =
    (l : Left) (v : View Turn) → EndsTurn (left l) v
    → IsOwn (part v 0).own l.generation l.who.member → OwesPut v 0 (left l)

-- whose caller is its own then too
abbrev pub CallersAreOwn : Type 0
CallersAreOwn =
    (l : Left) (v : View Turn) → Stood BusFact v → EndsTurn (left l) v
    → IsOwn (part v 0).own l.generation l.who.member
    → IsOwn ((part v 0).own ++ (v.name, left l) ∷ []) l.generation l.becomes

-- a bus comes, and the one before it goes, if there was one
abbrev pub StartsMayBePut : Type 0
StartsMayBePut = (b : Started) (v : View Turn) → EndsTurn (started b) v → OwesPut v 0 (started b)

-- a bus goes
abbrev pub RemovesMayBePut : Type 0
RemovesMayBePut = (g : ℕ) (v : View Turn) → EndsTurn (removed g) v → OwesPut v 0 (removed g)

-- and nothing happens, where nothing was visited
abbrev pub IdleDesksMayBePut : Type 0
IdleDesksMayBePut = (v : View Turn) → EndsTurn idle v → OwesPut v 0 idle

-- ---- what the holder of the desk finds

-- a plan raises a pool only where nobody sits
abbrev pub RaisesWhereNobodySits : Type 0
RaisesWhereNobodySits =
    (v : View Turn) (aim : Option ℕ) (w : Who) (x : Command) (p : Plan) → Stood BusFact v
    → (part v 0).holds ≡ true
    → IsOwn (part v 0).own (slot_of (part v 0).seen).generation w.member
    → planned (slot_of (part v 0).seen).generation aim (slot_of (part v 0).seen).desk w x ≡ Ok p
    → (outs : List Answer) (q : Part) (size : ℕ) → next_part [] p.parts outs ≡ Some q
    → q.act ≡ raise size → (q.seat < 64) × (sitter q.seat (part v 0).seen ≡ None)
