-- What acts come to, by the case that decides them.
use Rattle.std.specs.Prelude.{◌+◌, ℕ, Bool, true, false, Option, Some, None}
use Rattle.kd_model.specs.Words.{some_of}
use Rattle.kd_types.specs.declared.refusal.Refusal.{Refusal}
use Rattle.kd_types.specs.declared.refusal.Refusal.TheVariants.{Busy, MessagesQueued, NoMessage, NoSuchPriority, NoSuchSlice, NotReceived}
use Rattle.kd_acts.specs.declared.receive.RecvMode.{RecvMode}
use Rattle.kd_acts.specs.declared.slot.Phase.{Phase}
use Rattle.kd_acts.specs.declared.slot.Phase.TheVariants.{Freed, Handed, Peeked, Queued, Reserved}
use Rattle.kd_acts.specs.declared.slot.Slot.{Slot}
use Rattle.kd_acts.specs.State.{Act, Answer, Content, Hold, Pool, done, drained, gone, got, is_waiting, placed, refused, slots}
use Rattle.kd_acts.specs.Steps.{after_taking, closed_answer, filled, open_step, waiting_images, with_dropped, with_phase, pool_without, without_waiting}

-- a drain, by the lowest reserved slot
abbrev pub drained_by : Pool → Option Slot → Pool × Answer
drained_by p o = elim o [ Some s ↦ (p, refused (Busy s.number)) | None ↦ (without_waiting p, drained (waiting_images p)) ]

-- a receive that takes none, by whether one waits
abbrev pub none_received_by : Pool → Bool → Pool × Answer
none_received_by p b = elim b [ true ↦ (p, refused NoSuchPriority) | false ↦ (with_dropped 0 p, refused (NoMessage p.dropped)) ]

-- a receive, by the slot that is next
abbrev pub received_by : RecvMode → Pool → Option Slot → Pool × Answer
received_by mode p o =
    elim o [
      | Some s ↦ (with_dropped 0 (after_taking mode s.number p), got s.number s.offset s.len p.dropped)
      | None ↦ none_received_by p (some_of is_waiting (slots p))
    ]

-- the phase of a slice that is received
abbrev pub phase_by : Bool → Phase
phase_by peeks = elim peeks [ true ↦ Peeked | false ↦ Handed ]

-- what a receive makes of the slice that it takes, by whether it drops it and whether it only looks
abbrev pub taken_by : Bool → Bool → ℕ → Pool → Pool
taken_by drops peeks n p = elim drops [ true ↦ pool_without n p | false ↦ with_phase (phase_by peeks) n p ]

-- why a number can't be freed, by its slot
abbrev pub refused_by : Option Slot → Option Refusal
refused_by o =
    elim o [
      | None ↦ Some NoSuchSlice
      | Some s ↦ elim s.phase [ Reserved ↦ Some NoSuchSlice | Queued ↦ Some NoSuchSlice | Peeked ↦ Some NotReceived | Handed ↦ None | Freed ↦ Some NoSuchSlice ]
    ]

-- a free, by why it is refused
abbrev pub freed_by : ℕ → Pool → Option Refusal → Pool
freed_by n p o = elim o [ None ↦ with_phase Freed n p | Some why ↦ p ]

-- a publishing, by whether its slice is reserved for it
abbrev pub published_by : ℕ → Content → Pool → Bool → Pool × Answer
published_by n c p b = elim b [ false ↦ (p, gone) | true ↦ (filled n c p, placed) ]

-- a close, by whether it is refused
abbrev pub closed_by : Hold → Bool → Hold × Answer
closed_by h b = elim b [ true ↦ (h, refused MessagesQueued) | false ↦ (record { generation = h.generation + 1; pool = None }, done) ]

-- a pool with its generation
abbrev pub hold : ℕ → Option Pool → Hold
hold g o = record { generation = g; pool = o }

-- an act that goes by whether the pool is open
abbrev pub acted_by : ℕ → Option Pool → Act → Hold × Answer
acted_by g o a = elim o as (λ o. Hold × Answer) [ None ↦ (hold g o, closed_answer a) | Some p ↦ let s = open_step g p a in (hold g (Some s.0), s.1) ]
