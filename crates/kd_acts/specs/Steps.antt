-- Each act on a pool: the pool after it, and the answer.
use Rattle.std.specs.Prelude.{ℕ, ◌+◌, ◌*◌, ◌==◌, ◌&&◌, ◌||◌, Bool, true, false, List, [], ◌∷◌, ◌++◌, drop, length, map, nat_le, nat_lt, not, Option, Some, None, replicate, sum_by, take, ℤ, pos}
use Rattle.kd_model.specs.Slices.{place, unused_number}
use Rattle.kd_model.specs.Words.{but_those, first, in_order, least, put_in_order, some_of, those}
use Rattle.kd_types.specs.declared.refusal.Refusal.{Refusal}
use Rattle.kd_types.specs.declared.refusal.Refusal.TheVariants.{Busy, MessagesQueued, NoMessage, NoSuchPriority, NoSuchSeal, NoSuchSlice, NotReceived, PoolFull, Quota, SlicesSpent, WrongState}
use Rattle.kd_queue.specs.Order.{next_by}
use Rattle.kd_acts.specs.declared.receive.RecvMode.{RecvMode}
use Rattle.kd_acts.specs.declared.slot.Phase.{Phase}
use Rattle.kd_acts.specs.declared.slot.Phase.TheVariants.{Reserved, Queued, Peeked, Handed, Freed}
use Rattle.kd_acts.specs.declared.slot.Slot.{Slot}
use Rattle.kd_acts.specs.State.{Act, Answer, Content, Hold, Image, Pool, Slice, Visit, book_of, by_desk, bytes_of, close, done, drain, drained, free, freed, gone, got, slot_numbered, idle, is_earlier, is_freed, lies_lower, is_pending, is_pending_of, is_readable, is_reserved, is_waiting, offer, placed, post, publish, raise, read, receive, refused, settle, slice, slots, waiting_slots}

-- an open pool with nothing in it
abbrev pub new_pool : ℕ → Pool
new_pool size = record {
  size = size;
  memory = replicate size 0;
  slices = [];
  next_arrival = 0;
  dropped = 0;
  offered = 0;
}

abbrev pub with_dropped : ℕ → Pool → Pool
with_dropped n p = record p { dropped = n }

-- a miss is counted
abbrev pub after_miss : Pool → Pool
after_miss p = with_dropped (p.dropped + 1) p

-- every freed slice goes
abbrev pub swept : Pool → Pool
swept p = record p { slices = but_those (λ (s : Slice). is_freed s.slot) p.slices }

-- every slice goes
abbrev pub emptied : Pool → Pool
emptied p = record p { slices = [] }

-- what the slices of a user that aren't received yet take
abbrev pub user_share : List Slot → ℕ → List Slot
user_share ss user = those (is_pending_of user) ss

-- whether a user's share with a slice more would pass half of the pool's size, or 32 slices
unfoldable pub over_quota : ℕ → List Slot → ℕ → ℕ → Bool
over_quota size ss user len =
    nat_lt size (2 * (sum_by (λ (s : Slot). s.len) (user_share ss user) + len))
    || nat_le 32 (length (user_share ss user))

abbrev pub stands_lower : Slice → Slice → Bool
stands_lower a b = lies_lower a.slot b.slot

-- a slice in the table
abbrev pub pool_with_slice : Slice → Pool → Pool
pool_with_slice s p = record p { slices = put_in_order stands_lower s p.slices }

-- a slot that was just reserved
abbrev pub new_slot : ℕ → ℕ → ℕ → Option ℕ → ℕ → Slot
new_slot number offset len user source = record {
  number = number;
  offset = offset;
  len = len;
  phase = Reserved;
  user = user;
  source = source;
  priority = pos 0;
  arrival = 0;
}

-- a slice of a length under a number and at a place, reserved; until its publishing its bytes are
-- those that its range has
abbrev pub with_reserved : ℕ → ℕ → ℕ → Option ℕ → ℕ → Pool → Pool
with_reserved number offset len user source p =
    pool_with_slice (record {
      slot = new_slot number offset len user source;
      bytes = take len (drop offset p.memory);
      shared = None;
    }) p

-- a slice is reserved under the lowest unused number at its place, or why it isn't
abbrev pub reserve_at : Option ℕ → Option ℕ → ℕ → Option ℕ → ℕ → Pool → Pool × Answer
reserve_at None place len user source p = (p, refused SlicesSpent)
reserve_at (Some number) None len user source p = (p, refused PoolFull)
reserve_at (Some number) (Some offset) len user source p =
    (with_reserved number offset len user source p, slice number)

unfoldable pub reserve_step : ℕ → Option ℕ → ℕ → Pool → Pool × Answer
reserve_step len user source p =
    reserve_at (unused_number (book_of p)) (place (book_of p) len) len user source p

-- the length of a slice that is reserved, none of any other
abbrev pub length_reserved : Option Slot → Option ℕ
length_reserved None = None
length_reserved (Some s) = elim (is_reserved s) [ true ↦ Some s.len | false ↦ None ]

unfoldable pub reserved_length : ℕ → Pool → Option ℕ
reserved_length n p = length_reserved (first (slot_numbered n) (slots p))

-- an offer that has to be placed: the offered count rises, freed slices go, and within the quota a
-- slice is reserved
unfoldable pub must_offer_step : ℕ → ℕ → ℕ → Pool → Pool × Answer
must_offer_step user len source before =
    let p : Pool = swept (record before { offered = before.offered + 1 }) in
    elim (over_quota p.size (slots p) user len) [
      | true ↦ (p, refused Quota)
      | false ↦ reserve_step len (Some user) source p
    ]

-- a refusal of an offer that needn't be placed is counted
abbrev pub drop_counted : Bool → Pool × Answer → Pool × Answer
drop_counted true step = step
drop_counted false (p, refused why) = (after_miss p, refused why)
drop_counted false (p, answer) = (p, answer)

unfoldable pub offer_step : ℕ → ℕ → ℕ → Bool → Pool → Pool × Answer
offer_step user len source must before = drop_counted must (must_offer_step user len source before)

-- the memory with some bytes from a place on
abbrev pub written : List ℕ → ℕ → List ℕ → List ℕ
written memory at bytes = take at memory ++ bytes ++ drop (at + length bytes) memory

-- a slot that is queued as the next to arrive
abbrev pub queued_slot : ℤ → ℕ → Slot → Slot
queued_slot priority arrival s = record s { phase = Queued; priority = priority; arrival = arrival }

-- the slot of a number queued, any other as it is
abbrev pub now_queued : ℕ → ℤ → ℕ → Slot → Slot
now_queued n priority arrival s =
    elim (slot_numbered n s) [ true ↦ queued_slot priority arrival s | false ↦ s ]

-- the slice of a number with a content, queued
abbrev pub with_content : ℕ → Content → ℕ → Slice → Slice
with_content n c arrival s =
    elim (slot_numbered n s.slot) [
      | true ↦ record {
        slot = queued_slot c.priority arrival s.slot;
        bytes = c.image;
        shared = c.shared;
      }
      | false ↦ s
    ]

-- where the slice of a number begins
abbrev pub offset_of : ℕ → Pool → ℕ
offset_of n p = elim (first (slot_numbered n) (slots p)) [ None ↦ 0 | Some s ↦ s.offset ]

-- a content is written into the slice of a number, which is queued
unfoldable pub filled : ℕ → Content → Pool → Pool
filled n c p =
    record p {
      memory = written p.memory (offset_of n p) c.image;
      slices = map (with_content n c p.next_arrival) p.slices;
      next_arrival = p.next_arrival + 1;
    }

-- a content goes into the slice that was reserved for it, or is missed
abbrev pub fill_reserved : Content → Pool × Answer → Pool × Answer
fill_reserved c (p, slice n) = (filled n c p, slice n)
fill_reserved c (p, answer) = (after_miss p, answer)

-- a content is placed and queued at once, or why it isn't
unfoldable pub fill_step : Content → Option ℕ → ℕ → Pool → Pool × Answer
fill_step c user source p = fill_reserved c (reserve_step (length c.image) user source p)

-- a notice of the bus: freed slices go, and it is placed and queued, or missed
unfoldable pub post_step : List ℕ → Pool → Pool × Answer
post_step image p =
    fill_step (record { image = image; shared = None; priority = pos 0 }) None 0 (swept p)

abbrev pub image_of : Slice → Image
image_of s = record {
  content = record { image = s.bytes; shared = s.shared; priority = s.slot.priority };
  user = s.slot.user;
  source = s.slot.source;
}

abbrev pub arrived_earlier : Slice → Slice → Bool
arrived_earlier a b = is_earlier a.slot b.slot

abbrev pub of_lower_number : Slot → Slot → Bool
of_lower_number a b = nat_lt a.number b.number

-- the waiting messages of a pool, in the order of their arrival
abbrev pub waiting_images : Pool → List Image
waiting_images p =
    map image_of (in_order arrived_earlier (those (λ (s : Slice). is_waiting s.slot) p.slices))

-- every waiting message goes
abbrev pub without_waiting : Pool → Pool
without_waiting p = record p { slices = but_those (λ (s : Slice). is_waiting s.slot) p.slices }

-- all waiting messages go and are the answer; none goes while a slice is reserved
unfoldable pub drain_step : Pool → Pool × Answer
drain_step p =
    elim (least of_lower_number (those is_reserved (slots p))) [
      | Some s ↦ (p, refused (Busy s.number))
      | None ↦ (without_waiting p, drained (waiting_images p))
    ]

-- drained messages are placed and queued as their first senders', each or it is missed
abbrev pub settled : List Image → Pool → Pool
settled [] p = p
settled (i ∷ is) p = settled is (fill_step i.content i.user i.source p).0

-- the slot that a receive takes: the next of those that wait, in order of arrival
unfoldable pub next : List Slot → Option ℤ → Option Slot
next ss limit = next_by (λ (s : Slot). s.priority) (waiting_slots ss) limit

-- the slot of a number in a phase, any other as it is
abbrev pub in_phase : Phase → ℕ → Slot → Slot
in_phase phase n s = elim (slot_numbered n s) [ true ↦ record s { phase = phase } | false ↦ s ]

abbrev pub set_phase : Phase → ℕ → Slice → Slice
set_phase phase n s =
    elim (slot_numbered n s.slot) [
      | true ↦ record s { slot = record s.slot { phase = phase } }
      | false ↦ s
    ]

-- the slice of a number comes into a phase
abbrev pub with_phase : Phase → ℕ → Pool → Pool
with_phase phase n p = record p { slices = map (set_phase phase n) p.slices }

-- the slice of a number goes
abbrev pub pool_without : ℕ → Pool → Pool
pool_without n p = record p { slices = but_those (λ (s : Slice). slot_numbered n s.slot) p.slices }

-- what a receive makes of the slice that it takes
abbrev pub after_taking : RecvMode → ℕ → Pool → Pool
after_taking mode n p =
    elim mode.drop_it [
      | true ↦ pool_without n p
      | false ↦ with_phase (elim mode.peek [ true ↦ Peeked | false ↦ Handed ]) n p
    ]

-- the next message is told with the dropped count, which begins again; so it does where there is
-- none, but not where none is within the limit
unfoldable pub receive_step : RecvMode → Pool → Pool × Answer
receive_step mode p =
    elim (next (slots p) mode.limit) [
      | Some s ↦ (
        with_dropped 0 (after_taking mode s.number p),
        got s.number s.offset s.len
            p.dropped,
      )
      | None ↦ elim (some_of is_waiting (slots p)) [
        | true ↦ (p, refused NoSuchPriority)
        | false ↦ (with_dropped 0 p, refused (NoMessage p.dropped))
      ]
    ]

-- the slice of a number, where its receiver may read it
abbrev pub readable : ℕ → Pool → Option Slice
readable n p = first (λ (s : Slice). slot_numbered n s.slot && is_readable s.slot) p.slices

abbrev pub share_answer : Option (List ℕ) → Answer
share_answer None = refused NoSuchSeal
share_answer (Some bytes) = bytes_of bytes

-- the bytes of a slice that was told, or of its share
unfoldable pub read_answer : ℕ → Bool → Pool → Answer
read_answer n sealed p =
    elim (readable n p) [
      | None ↦ refused NoSuchSlice
      | Some s ↦ elim sealed [ true ↦ share_answer s.shared | false ↦ bytes_of s.bytes ]
    ]

-- why a receiver can't free a number, told by the slice's phase: it has to be received
unfoldable pub free_refusal : ℕ → List Slot → Option Refusal
free_refusal n ss =
    elim (first (slot_numbered n) ss) [
      | None ↦ Some NoSuchSlice
      | Some s ↦ elim s.phase [
        | Reserved ↦ Some NoSuchSlice
        | Queued ↦ Some NoSuchSlice
        | Peeked ↦ Some NotReceived
        | Handed ↦ None
        | Freed ↦ Some NoSuchSlice
      ]
    ]

-- a visit of an open pool by the desk's holder
unfoldable pub visit_step : Pool → Visit → Pool × Answer
visit_step p (offer user len source must content) = offer_step user len source must p
visit_step p (post image) = post_step image p
visit_step p drain = drain_step p
visit_step p (settle images) = (settled images (swept p), done)
visit_step p (raise size) = (p, done)
visit_step p (close force) = (p, done)

-- the slice of the number is reserved for as many bytes as the content has
abbrev pub is_reserved_for : ℕ → Content → Pool → Bool
is_reserved_for n c p =
    elim (reserved_length n p) [ None ↦ false | Some len ↦ len == length c.image ]

-- what was received is freed, and nothing else
abbrev pub without_handed : ℕ → Pool → Pool
without_handed n p = elim (free_refusal n (slots p)) [ None ↦ with_phase Freed n p | Some why ↦ p ]

-- an act on an open pool of a generation
unfoldable pub open_step : ℕ → Pool → Act → Pool × Answer
open_step g p (by_desk v) = visit_step p v
open_step g p (publish generation n content) =
    elim (generation == g && is_reserved_for n content p) [
      | false ↦ (p, gone)
      | true ↦ (filled n content p, placed)
    ]
open_step g p (receive mode) = receive_step mode p
open_step g p (read n sealed) = (p, read_answer n sealed p)
open_step g p (free n) = (without_handed n p, freed)
open_step g p idle = (p, done)

-- an act on a closed pool changes nothing
unfoldable pub closed_answer : Act → Answer
closed_answer (by_desk v) = done
closed_answer (publish generation n content) = gone
closed_answer (receive mode) = refused WrongState
closed_answer (read n sealed) = refused WrongState
closed_answer (free n) = freed
closed_answer idle = done

-- whether messages wait in a pool, or are on their way into it
abbrev pub is_awaited : Hold → Bool
is_awaited h = elim h.pool [ None ↦ false | Some p ↦ some_of is_pending (slots p) ]

-- any act: a raise opens a pool of the next generation, a close ends one and begins the next
-- generation, all others go by whether it is open
unfoldable pub pool_step : Hold → Act → Hold × Answer
pool_step h (by_desk (raise size)) =
    (record { generation = h.generation + 1; pool = Some (new_pool size) }, done)
pool_step h (by_desk (close force)) =
    elim (not force && is_awaited h) [
      | true ↦ (h, refused MessagesQueued)
      | false ↦ (record { generation = h.generation + 1; pool = None }, done)
    ]
pool_step h act =
    elim h.pool [
      | None ↦ (h, closed_answer act)
      | Some p ↦ let s = open_step h.generation p act in
          (record { generation = h.generation; pool = Some s.0 }, s.1)
    ]

abbrev pub after : Hold → Act → Hold
after h act = (pool_step h act).0

abbrev pub answer : Hold → Act → Answer
answer h act = (pool_step h act).1

-- the answers along a list of acts
abbrev pub answers : Hold → List Act → List Answer
answers h [] = []
answers h (a ∷ acts) = answer h a ∷ answers (after h a) acts
