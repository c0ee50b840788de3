-- A pool as data, what is done to it, and what it answers.
use Rattle.std.specs.Prelude.{ℕ, ◌==◌, ◌&&◌, Bool, true, false, List, map, nat_lt, Option, Some, None, ℤ}
use Rattle.kd_model.specs.Slices.{Book}
use Rattle.kd_model.specs.Words.{in_order, those}
use Rattle.kd_model.specs.declared.placed.Placed.{Placed}
use Rattle.kd_types.specs.declared.refusal.Refusal.{Refusal}
use Rattle.kd_queue.specs.declared.entry.Entry.{Entry}
use Rattle.kd_acts.specs.declared.receive.RecvMode.{RecvMode}
use Rattle.kd_acts.specs.declared.slot.Phase.TheVariants.{Reserved, Queued, Peeked, Handed, Freed}
use Rattle.kd_acts.specs.declared.slot.Slot.{Slot}

-- a slice: what the pool's table has of it, its bytes, and the sealed bytes that it shares, if any
pub record Slice : Type 0 where
  pub slot : Slot
  pub bytes : List ℕ
  pub shared : Option (List ℕ)

-- an open pool; its slices by rising offset
pub record Pool : Type 0 where
  pub size : ℕ
  pub memory : List ℕ
  pub slices : List Slice
  pub next_arrival : ℕ
  pub dropped : ℕ
  pub offered : ℕ

-- a pool with its generation, none where it is closed
pub record Hold : Type 0 where
  pub generation : ℕ
  pub pool : Option Pool

-- a message on its way to a slice: its bytes, the share that it takes along, its priority
pub record Content : Type 0 where
  pub image : List ℕ
  pub shared : Option (List ℕ)
  pub priority : ℤ

-- a message that was drained from a pool: a content with the user and the connection that sent it
pub record Image : Type 0 where
  pub content : Content
  pub user : Option ℕ
  pub source : ℕ

-- messages that were drained from a pool of a size
pub record Batch : Type 0 where
  pub size : ℕ
  pub images : List Image

-- what the holder of the desk does to a pool
pub data Visit : Type 0 where
  raise : (size : ℕ) → Visit
  close : (force : Bool) → Visit
  offer : (user len source : ℕ) (must : Bool) (content : Content) → Visit
  post : (image : List ℕ) → Visit
  drain : Visit
  settle : (images : List Image) → Visit

-- what anybody does to a pool
pub data Act : Type 0 where
  by_desk : (v : Visit) → Act
  publish : (generation number : ℕ) (content : Content) → Act
  receive : (mode : RecvMode) → Act
  read : (number : ℕ) (sealed : Bool) → Act
  free : (number : ℕ) → Act
  idle : Act

pub data Answer : Type 0 where
  done placed gone freed : Answer
  slice : (number : ℕ) → Answer
  refused : (why : Refusal) → Answer
  drained : (images : List Image) → Answer
  got : (number offset len dropped : ℕ) → Answer
  bytes_of : (bytes : List ℕ) → Answer

abbrev pub is_reserved : Slot → Bool
is_reserved s =
    elim s.phase [
      | Reserved ↦ true
      | Queued ↦ false
      | Peeked ↦ false
      | Handed ↦ false
      | Freed ↦ false
    ]

-- queued for its receiver, looked at or not
abbrev pub is_waiting : Slot → Bool
is_waiting s =
    elim s.phase [
      | Reserved ↦ false
      | Queued ↦ true
      | Peeked ↦ true
      | Handed ↦ false
      | Freed ↦ false
    ]

-- not received yet
abbrev pub is_pending : Slot → Bool
is_pending s =
    elim s.phase [
      | Reserved ↦ true
      | Queued ↦ true
      | Peeked ↦ true
      | Handed ↦ false
      | Freed ↦ false
    ]

-- told to its receiver
abbrev pub is_readable : Slot → Bool
is_readable s =
    elim s.phase [
      | Reserved ↦ false
      | Queued ↦ false
      | Peeked ↦ true
      | Handed ↦ true
      | Freed ↦ false
    ]

-- freed by its receiver, and not swept yet
abbrev pub is_freed : Slot → Bool
is_freed s =
    elim s.phase [
      | Reserved ↦ false
      | Queued ↦ false
      | Peeked ↦ false
      | Handed ↦ false
      | Freed ↦ true
    ]

abbrev pub slot_numbered : ℕ → Slot → Bool
slot_numbered n s = s.number == n

-- sent by this user and not received yet
abbrev pub is_pending_of : ℕ → Slot → Bool
is_pending_of user s = is_pending s && elim s.user [ Some u ↦ u == user | None ↦ false ]

-- queued before another
abbrev pub is_earlier : Slot → Slot → Bool
is_earlier a b = nat_lt a.arrival b.arrival

-- the slots that wait, in order of arrival
abbrev pub waiting_slots : List Slot → List Slot
waiting_slots ss = in_order is_earlier (those is_waiting ss)

-- a slot as an entry of a queue
abbrev pub entry_of : Slot → Entry
entry_of s = record { number = s.number; priority = s.priority }

-- the queue of a table: what waits, in order of arrival
abbrev pub queue_of : List Slot → List Entry
queue_of ss = map entry_of (waiting_slots ss)

abbrev pub lies_lower : Slot → Slot → Bool
lies_lower a b = nat_lt a.offset b.offset

-- where a slot lies
abbrev pub placed_of : Slot → Placed
placed_of s = record { number = s.number; offset = s.offset; len = s.len }

-- the table of a pool
abbrev pub slots : Pool → List Slot
slots p = map (λ (s : Slice). s.slot) p.slices

-- the book of a pool
abbrev pub book_of : Pool → Book
book_of p = record { size = p.size; slices = map placed_of (slots p) }
