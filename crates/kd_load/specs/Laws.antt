-- What holds along the lists of a load's bus, once its connections with their rules are there:
-- however the messages of its threads follow each other, each pool counts those that are for its
-- connection.
use Rattle.std.specs.Prelude.{◌≡◌, ◌<◌, ◌≤◌, ◌-◌, ◌==◌, ℕ, zero, suc, List, [], ◌∷◌, ◌++◌, None, Some}
use Rattle.std.specs.List.{AllByRecursion}
use Rattle.kd_model.specs.Words.{those}
use Rattle.kd_acts.specs.State.{Answer, Hold, Pool, Visit, offer, raise}
use mathlib.Core.List.{IsPrefix}
use Rattle.kd_hands.specs.Lists.{made_by}
use Rattle.kd_hands.specs.Locks.{Histories}
use Rattle.kd_histories.specs.Turns.{Started, Turn, started}
use Rattle.kd_histories.specs.Slots.{AreTold, slot_of, unborn}
use Rattle.kd_histories.specs.Pools.{hold_of}
use Rattle.kd_histories.specs.Visits.{addressed}
use Rattle.kd_histories.specs.Tie.{Tie}
use Rattle.kd_load.specs.declared.message.Message.{Message}
use Rattle.kd_load.specs.Load.{messages_of}
use Rattle.kd_load.specs.Counts.{offered}
use Rattle.kd_load.specs.Bus.{AreConnected, AreFilters, AreSendings, IsMessage, IsSetUp, loaded_desk}

-- it is an offer
abbrev pub IsOffer : Visit → Type 0
IsOffer (offer user len source must content) = Unit {0}
IsOffer _ = ⊥

-- an open pool that was offered so much, placed or not
pub record HasOffered (h : Hold) (n : ℕ) : Type 0 where
  pub pool : Pool
  pub is : h.pool ≡ Some pool
  pub count : pool.offered ≡ n

-- the desk's list before any message: the bus, and so many connections with their rules; each one's
-- pool was opened, and nothing else was done to any pool
pub record IsFront (filters : List (List ℕ)) (n : ℕ) (front : List (ℕ × Turn)) : Type 0 where
  pub desk : (slot_of front).desk ≡ loaded_desk filters n
  pub raised :
      (id : ℕ) → 1 ≤ id → id ≤ n
      → (o : Answer) × (addressed (id - 1) unborn front ≡ (raise 1048576, o) ∷ [])
  pub nobody : (c : ℕ) → n ≤ c → addressed c unborn front ≡ []

-- it is so where the bus began and its connections came one after the other
abbrev pub SetUpIsFront : Type 0
SetUpIsFront =
    (filters : List (List ℕ)) (n : ℕ) (entries : List (ℕ × Turn)) → n ≤ 16 → AreFilters filters
    → AreTold unborn entries → IsSetUp filters n entries → IsFront filters n entries

-- messages of a load in some order, which keeps the order of those of each thread
pub record AreOfLoad (seed n sends : ℕ) (ms : List Message) : Type 0 where
  pub each : AllByRecursion (IsMessage n) ms
  pub shares :
      (i : ℕ) → 1 ≤ i → i ≤ n
      → those (λ (m : Message). m.sender == i) ms ≡ messages_of seed n sends i

-- the desk has the connections and their rules, the pool of each counts what is for it, and all
-- other pools are closed
pub record IsCounted (filters : List (List ℕ)) (seed n sends : ℕ) (h : Histories Turn) : Type 0
  where
    pub desk : (slot_of (h.lists 0)).desk ≡ loaded_desk filters n
    pub pools :
        (id : ℕ) → 1 ≤ id → id ≤ n
        → HasOffered (hold_of (h.lists (suc (id - 1)))) (offered seed n sends id)
    pub others : (c : ℕ) → n ≤ c → (hold_of (h.lists (suc c))).pool ≡ None

-- once nobody holds the desk
abbrev pub LoadsAreCounted : Type 0
LoadsAreCounted =
    (filters : List (List ℕ)) (seed n sends : ℕ) (h : Histories Turn) (front run : List (ℕ × Turn))
    (ms : List Message) → n ≤ 16 → AreFilters filters → Tie h → h.opened ≡ []
    → h.lists 0 ≡ front ++ run → IsFront filters n front → AreSendings filters ms run
    → AreOfLoad seed n sends ms → IsCounted filters seed n sends h

-- ---- the passes of a load; pass k, counted from 0 on, has the connection of the id k + 1

-- the bus begins
pub record IsBegun (e : Turn) : Type 0 where
  pub bus : Started
  pub is : e ≡ started bus
  pub creator : bus.creator ≡ 1000
  pub size : bus.size ≡ 64
  pub hashes : bus.hashes ≡ 8

-- what a pass does before any message: its connection comes with its rule; the first pass begins
-- the bus before that
abbrev pub IsComing : List (List ℕ) → ℕ → List (ℕ × Turn) → Type 0
IsComing filters zero [] = ⊥
IsComing filters zero (x ∷ own) = IsBegun x.1 × AreConnected filters 1 1 own
IsComing filters (suc k) own = AreConnected filters (suc (suc k)) 1 own

-- they come in turn, and send once all have come: `fronts k` is the list when pass k began, and
-- `fronts n` when the first one sent
pub record AreInTurn (filters : List (List ℕ)) (n : ℕ) (fronts : ℕ → List (ℕ × Turn))
    (list : List (ℕ × Turn)) : Type 0 where
  pub first : fronts 0 ≡ []
  pub grows : (k : ℕ) → k < n → IsPrefix (fronts k) (fronts (suc k))
  pub ends : IsPrefix (fronts n) list
  pub before : (k : ℕ) → k < n → made_by k (fronts k) ≡ []
  pub come : (k : ℕ) → k < n → IsComing filters k (made_by k (fronts (suc k)))
  pub still : (k : ℕ) → k < n → made_by k (fronts n) ≡ made_by k (fronts (suc k))
  pub nobody : (k : ℕ) → n ≤ k → made_by k list ≡ []

-- all that a pass does behind that is to send its messages, one after the other
pub record HasSent (filters : List (List ℕ)) (seed n sends k : ℕ) (front list : List (ℕ × Turn))
    : Type 0 where
  pub rest : List (ℕ × Turn)
  pub own : made_by k list ≡ made_by k front ++ rest
  pub sent : AreSendings filters (messages_of seed n sends (suc k)) rest

-- whatever the order in which they send
abbrev pub LoadsRun : Type 0
LoadsRun =
    (filters : List (List ℕ)) (seed n sends : ℕ) (h : Histories Turn)
    (fronts : ℕ → List (ℕ × Turn)) → 1 ≤ n → n ≤ 16 → AreFilters filters → Tie h → h.opened ≡ []
    → AreInTurn filters n fronts (h.lists 0)
    → ((k : ℕ) → k < n → HasSent filters seed n sends k (fronts n) (h.lists 0))
    → IsCounted filters seed n sends h
