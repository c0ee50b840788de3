-- What a pool keeps in its table, its book, its queue and its shares.
use Rattle.std.specs.Prelude.{if◌then◌else◌, IfSome, Option, ◌≡◌, ◌<◌, ◌≤◌, ◌%◌, ◌+◌, ◌^◌, ◌==◌, ℕ, Bool, false, length, List, map, Some, None}
use Rattle.std.specs.List.{AllByRecursion, IsDistinct}
use Rattle.kd_model.specs.Slices.{Book, IsSound, without_slice}
use Rattle.kd_model.specs.declared.slice_no.TheConstants.{SLICES}
use Rattle.kd_model.specs.Words.{first, least, those}
use Rattle.kd_queue.specs.declared.entry.Entry.{Entry}
use Rattle.kd_acts.specs.Arriving.{IsBefore}
use Rattle.kd_acts.specs.State.{Image, Slice, slot_numbered, is_reserved, is_waiting, placed_of, queue_of, waiting_slots}
use Rattle.kd_acts.specs.Sound.{slot_range}
use Rattle.kd_acts.specs.Steps.{image_of, of_lower_number}
use Rattle.kd_pool.specs.Sealed.{AreShared, Shares, share_at}
use Rattle.kd_pool.specs.declared.memory.TheConstants.{LARGEST}
use Rattle.kd_acts.specs.declared.slot.Phase.{Phase}
use Rattle.kd_acts.specs.declared.slot.Slot.{Slot}

-- a slot with its bytes in memory, and with a share
abbrev pub slice_with : List ℕ → Option (List ℕ) → Slot → Slice
slice_with memory share s = record { slot = s; bytes = slot_range memory s; shared = share }

-- with the share of its number
abbrev pub slice_shown : List ℕ → Shares → Slot → Slice
slice_shown memory shares s = slice_with memory (share_at shares s.number) s

-- each slot is the one that is found by its number
abbrev pub AreFound : List Slot → Type 0
AreFound ss = AllByRecursion (λ (s : Slot). first (slot_numbered s.number) ss ≡ Some s) ss

-- a book of just these slots
abbrev pub with_slots : List Slot → Book → Book
with_slots ss book = record book { slices = map placed_of ss }

-- a book without the slice of the number, if it goes
abbrev pub without_if : Bool → ℕ → Book → Book
without_if goes n book = if goes then without_slice n book else book

-- the reserved slot of the lowest number
abbrev pub reserved_first : List Slot → Option Slot
reserved_first ss = least of_lower_number (those is_reserved ss)

-- the slice of the number waits
abbrev pub number_waits : ℕ → List Slot → Bool
number_waits n ss = elim (first (slot_numbered n) ss) [ None ↦ false | Some s ↦ is_waiting s ]

-- in the phase, the slice of the number, if any, waits as it did
abbrev pub WaitsAsBefore : Phase → ℕ → List Slot → Type 0
WaitsAsBefore phase n ss =
    IfSome (first (slot_numbered n) ss) (λ s.
    is_waiting (record s { phase = phase }) ≡ is_waiting s)

-- a sound book of just the slots in the table, a memory of the book's size, which isn't above the
-- limit, and room for all numbers
pub record AreKept (memory : List ℕ) (book : Book) (table : List Slot) (room : ℕ) : Type 0 where
  pub tied : book.slices ≡ map placed_of table
  pub sound : IsSound book
  pub whole : length memory ≡ book.size
  pub fits : book.size ≤ LARGEST
  pub enough : SLICES ≤ room

-- a queue of just the slots that wait, in order of arrival, each before the next arrival number
pub record AreQueued (table : List Slot) (queue : List Entry) (now : ℕ) : Type 0 where
  pub order : queue ≡ queue_of table
  pub before : AllByRecursion (IsBefore now) table

-- what a pool keeps
pub record IsPoolKept
    (memory : List ℕ) (book : Book) (table : List Slot) (queue : List Entry) (shares : Shares)
    (now room : ℕ)
    : Type 0 where
  pub kept : AreKept memory book table room
  pub queued : AreQueued table queue now
  pub shared : AreShared table shares

-- the message of a slot, with its bytes in memory, and with a share
abbrev pub image_with : List ℕ → Option (List ℕ) → Slot → Image
image_with memory share s = image_of (slice_with memory share s)

-- with the share of its number
abbrev pub carried : List ℕ → Shares → Slot → Image
carried memory shares s = image_with memory (share_at shares s.number) s

-- the messages that wait, in order of arrival
abbrev pub images_waiting : List ℕ → Shares → List Slot → List Image
images_waiting memory shares ss = map (carried memory shares) (waiting_slots ss)

-- a slot that lies inside a memory of a size, and has a positive multiple of 8 bytes
pub record IsCarried (size : ℕ) (s : Slot) : Type 0 where
  pub inside : s.offset + s.len ≤ size
  pub some : 0 < s.len
  pub eights : s.len % 8 ≡ 0

-- slots of which no two have one number
abbrev pub HaveOwnNumbers : List Slot → Type 0
HaveOwnNumbers ss = IsDistinct (λ (a b : Slot). a.number == b.number) ss

-- each is below 256
abbrev pub HaveLowNumbers : List Slot → Type 0
HaveLowNumbers ss = AllByRecursion (λ (s : Slot). s.number < SLICES) ss

-- what a buffer of drained messages keeps: slots inside its memory under numbers of their own, at
-- most as many as there are numbers, and room for that many and for their shares
pub record AreCarried (memory : List ℕ) (rows : List Slot) (shares : Shares) (room : ℕ)
    : Type 0 where
  pub each : AllByRecursion (IsCarried (length memory)) rows
  pub apart : HaveOwnNumbers rows
  pub few : length rows ≤ SLICES
  pub enough : SLICES ≤ room
  pub wide : length shares ≡ SLICES
