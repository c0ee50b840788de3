-- What a call on one pool tells.
use Rattle.std.specs.Prelude.{◌≡◌, ◌≢◌, ◌+◌, ◌^◌, ◌<◌, nat_le, ℕ, suc, ◌&&◌, not, Bool, true, false, List, [], ◌∷◌, ◌++◌, Option, Some, None, Result, Ok, Err, Vec, get_or, length}
use Rattle.std.specs.Global.{Global}
use mathlib.Core.List.{IsPrefix}
use Rattle.kd_types.specs.declared.creds.Kind.{Kind}
use Rattle.kd_types.specs.declared.creds.Kind.TheVariants as kind
use Rattle.kd_types.specs.declared.refusal.Refusal.{Refusal}
use Rattle.kd_types.specs.declared.refusal.Refusal.TheVariants.{NoSuchSlice, NotReceived, TurnsSpent, WrongState}
use Rattle.kd_acts.specs.declared.receive.Got.{Got}
use Rattle.kd_acts.specs.declared.receive.RecvMode.{RecvMode}
use Rattle.kd_acts.specs.State.{Act, Answer, Hold, got, publish, read, receive, refused}
use Rattle.kd_acts.specs.Lasting.{is_handed_in}
use Rattle.kd_acts.specs.Steps.{answer}
use Rattle.kd_pool.specs.Told.{receive_answer}
use Rattle.kd_world.specs.Hands as hands
use Rattle.kd_world.specs.State as world
use Rattle.kd_world.specs.declared.told.Told.{Told}
use Rattle.kd_world.specs.declared.told.Told.TheVariants.{Peeked, Handed}
use Rattle.kd_commands.specs.declared.who.WhoKind.TheVariants as who
use Rattle.kd_holds.specs.Publishing.{publish_answer}
use Rattle.kd_holds.specs.declared.pending.Published.{Published}
use Rattle.kd_hands.specs.declared.views.View.{View}
use Rattle.kd_hands.specs.Lists.{hand_has}
use Rattle.kd_hands.specs.Views.{part, hand}
use Rattle.kd_histories.specs.Turns.{Turn, did}
use Rattle.kd_histories.specs.Pools.{hold_of}
use Rattle.kd_histories.specs.Pairs.{owed}
use Rattle.kd_histories.specs.Lent.{hand_by}
use Rattle.kd_histories.specs.Puts.{IsOwn}
use Rattle.kd_bus.specs.declared.conn.Conn.{Conn}
use Rattle.kd_bus.specs.Slips.{is_wanting, read_told, read_turn}

-- ---- one turn

-- the pass took one turn, on the lock l, whose list was this one before, and made this entry
pub record OneTurn (l : ℕ) (list : List (ℕ × Turn)) (e : Turn) (v v' : View Turn) : Type 0 where
  pub begins : IsPrefix (part v l).seen list
  pub seen : (part v' l).seen ≡ list ++ (v.name, e) ∷ []
  pub own : (part v' l).own ≡ (part v l).own ++ (v.name, e) ∷ []
  pub others : (k : ℕ) → k ≢ l → part v' k ≡ part v k
  pub hand_is : hand v' l ≡ hand_by e (hand v l)
  pub other_hands : (k : ℕ) → k ≢ l → hand v' k ≡ hand v k
  pub name : v'.name ≡ v.name
  pub turns : v'.turns ≡ v.turns + 1
  pub steps : v'.steps ≡ v.steps

-- an act on a pool with the answer that the pool gives, after a sweep of no mark
abbrev pub acted : Hold → Act → Turn
acted h a = did (record { generation = h.generation; freed = []; act = a; answer = answer h a })

-- ---- a connection of a pass

-- a number that was received and not freed
abbrev pub is_kept : Option Told → Bool
is_kept None = false
is_kept (Some Peeked) = false
is_kept (Some Handed) = true

-- the pass made the connection and has its seat, and the numbers that the connection keeps are
-- those of the pass's hand of the seat's pool
pub record Belongs (v : View Turn) (c : Conn) : Type 0 where
  pub low : c.seat < 64
  pub sized : length c.hand ≡ 256
  pub own : IsOwn (part v 0).own c.generation (who.Conn c.id c.seat)
  pub kept : (n : ℕ) → hand_has n (hand v (suc c.seat)) ≡ is_kept (get_or c.hand n None)

-- a policy holder has no pool
abbrev pub has_pool : Kind → Bool
has_pool kind.Holder = false
has_pool kind.Ordinary = true
has_pool kind.Activator = true
has_pool kind.Monitor = true

-- ---- the calls

-- why a call on the pool of a connection is answered without a turn, if it is
abbrev pub turned_away : ℕ → Kind → Option Refusal
turned_away turns k =
    elim (nat_le (2 ^ 40) turns) [
      | true ↦ Some TurnsSpent
      | false ↦ elim (has_pool k) [ true ↦ None | false ↦ Some WrongState ]
    ]

-- what a receive tells is a number that its pass didn't keep yet
abbrev pub IsNew : Answer → List ℕ → Type 0
IsNew (got n offset len dropped) hand = (n < 256) × (hand_has n hand ≡ false)
IsNew _ hand = Unit {0}

-- one receive of the seat's pool, which is answered by the pool where it stood
pub record Receives (seat : ℕ) (mode : RecvMode) (result : Result Got Refusal)
    (old new : List (Option Told)) (v v' : View Turn) : Type 0 where
  pub list : List (ℕ × Turn)
  pub turn : OneTurn (suc seat) list (acted (hold_of list) (receive mode)) v v'
  pub answer_is : receive_answer result ≡ answer (hold_of list) (receive mode)
  pub hand_is : new ≡ hands.hand_received mode (answer (hold_of list) (receive mode)) old
  pub is_new : IsNew (answer (hold_of list) (receive mode)) (hand v (suc seat))

-- a slice that was received and isn't in the hand any more was given back, though its mark may not
-- be swept yet
abbrev pub is_given_back : Hold → List (Option Told) → ℕ → Bool
is_given_back h told n = is_handed_in n h && not (is_kept (get_or told n None))

-- it isn't found; of any other number the pool tells
abbrev pub read_answer : Hold → List (Option Told) → ℕ → Bool → Answer
read_answer h told n sealed =
    elim (is_given_back h told n) [
      | true ↦ refused NoSuchSlice
      | false ↦ answer h (read n sealed)
    ]

-- one read at the seat's pool, which is answered by the pool where it stood; one that wanted memory
-- left an entry that did nothing
pub record Reads (seat n : ℕ) (sealed : Bool) (result : Result (Vec ℕ Global) Refusal)
    (told : List (Option Told)) (v v' : View Turn) : Type 0 where
  pub list : List (ℕ × Turn)
  pub turn : OneTurn (suc seat) list (read_turn (hold_of list).generation n sealed result) v v'
  pub answer_is :
      is_wanting result ≡ false → read_told result ≡ read_answer (hold_of list) told n sealed

-- what a release is answered, by the hand alone
abbrev pub hand_answer : Option Told → Result (Unit {0}) Refusal
hand_answer None = Err NoSuchSlice
hand_answer (Some Peeked) = Err NotReceived
hand_answer (Some Handed) = Ok tt

-- and by what the connection is
abbrev pub release_answer : Kind → Option Told → Result (Unit {0}) Refusal
release_answer k t = elim (has_pool k) [ true ↦ hand_answer t | false ↦ Err WrongState ]

-- the pass has yet to publish it, by its own entries
pub record IsOwed (v : View Turn) (p : world.Pending) : Type 0 where
  pub low : p.seat < 64
  pub owed_is : owed p.generation p.number (part v (suc p.seat)).own ≡ Some p.content

-- one publishing at its seat's pool, which is answered by the pool where it stood
pub record Publishes (p : world.Pending) (result : Published) (v v' : View Turn) : Type 0 where
  pub list : List (ℕ × Turn)
  pub turn :
      OneTurn (suc p.seat) list
      (acted (hold_of list) (publish p.generation p.number p.content)) v v'
  pub answer_is :
      publish_answer result ≡ answer (hold_of list) (publish p.generation p.number p.content)
