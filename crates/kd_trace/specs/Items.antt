-- The items of a trace: an event, and what it was answered. Each has one spelling.
use Rattle.std.specs.Prelude.{◌≡◌, ℕ, ◌+◌, ◌*◌, ◌^◌, ◌<◌, true, List, [], ◌∷◌, ◌++◌, Option, Some, None, is_some, Ok, IsTrue, ⊤, ℤ}
use Rattle.std.specs.Int.{w64, cast_unsigned}
use Rattle.kd_item.specs.Spelling.{Entry, words, word}
use Rattle.kd_wire.specs.declared.command.Command.{Command}
use Rattle.kd_wire.specs.declared.port.Port.TheVariants.{Replay}
use Rattle.kd_wire.specs.Ports.{takes_opcode}
use Rattle.kd_wire.specs.Commands.{bit, opcode_in}
use Rattle.kd_wire.specs.Frames.{frame_of}
use Rattle.kd_wire.specs.Refusals.{IsWellFormed}
use Rattle.kd_wire.specs.Replies.{reply_frame}
use Rattle.kd_wire.specs.ReplyReading.{reply_in, refusal_from}
use Rattle.kd_wire.specs.Typed.{IsTyped}
use Rattle.kd_acts.specs.declared.receive.RecvMode.{RecvMode}
use Rattle.kd_world.specs.Legal.{Event, take, visit, leave, publishes, receives, reads, frees, is_caller}
use Rattle.kd_replay.specs.Hearing.{IsLimit}
use Rattle.kd_trace.specs.declared.outcome.Outcome.{Outcome}
use Rattle.kd_trace.specs.declared.outcome.Outcome.TheVariants.{Taken, Published, Gone, Freed, Visited, Refused, Slice, VisitRefused, Left, Got, Bytes}

-- an item that is nothing but words
abbrev pub of_words : ℕ → List ℕ → Entry
of_words kind ws = record { kind = kind; body = words ws }

-- ---- events

-- 1 for peek, 2 for drop, 4 where there is a limit
abbrev pub mode_flags : RecvMode → ℕ
mode_flags mode = bit mode.peek + 2 * bit mode.drop_it + 4 * bit (is_some mode.limit)

-- the word of a limit, 0 where there is none
abbrev pub limit_word : Option ℤ → ℕ
limit_word None = 0
limit_word (Some limit) = cast_unsigned w64 limit

-- the caller, and what the event has beside it; a take has the frame of its command
abbrev pub event_entry : Event → Entry
event_entry (take n x) = record { kind = 32; body = word n ++ frame_of n x }
event_entry (visit n seat) = of_words 33 (n ∷ seat ∷ [])
event_entry (leave n) = of_words 34 (n ∷ [])
event_entry (publishes n seat number) = of_words 35 (n ∷ seat ∷ number ∷ [])
event_entry (receives n mode) = of_words 36 (n ∷ mode_flags mode ∷ limit_word mode.limit ∷ [])
event_entry (reads n number sealed) = of_words 37 (n ∷ number ∷ bit sealed ∷ [])
event_entry (frees n number) = of_words 38 (n ∷ number ∷ [])

-- whose event it is
abbrev pub caller_of : Event → ℕ
caller_of (take n x) = n
caller_of (visit n seat) = n
caller_of (leave n) = n
caller_of (publishes n seat number) = n
caller_of (receives n mode) = n
caller_of (reads n number sealed) = n
caller_of (frees n number) = n

-- a command that a replay's frame can have
pub record IsReplayed (x : Command) : Type 0 where
  pub form : IsWellFormed x
  pub typed : IsTyped x
  pub run : takes_opcode Replay (opcode_in x) ≡ true

-- what stands beside the caller is of its kind: a seat is below 64, and a slice number has 32 bits
abbrev pub HasForm : Event → Type 0
HasForm (take n x) = IsReplayed x
HasForm (visit n seat) = seat < 64
HasForm (leave n) = ⊤
HasForm (publishes n seat number) = (seat < 64) × (number < 2 ^ 32)
HasForm (receives n mode) = IsLimit mode.limit
HasForm (reads n number sealed) = number < 2 ^ 32
HasForm (frees n number) = number < 2 ^ 32

-- an event that a trace can have, legal or not
pub record MayStand (e : Event) : Type 0 where
  pub caller : IsTrue (is_caller (caller_of e))
  pub form : HasForm e

-- the item is this event
pub record IsEventItem (i : Entry) (e : Event) : Type 0 where
  pub spelled : i ≡ event_entry e
  pub stands : MayStand e

-- the item is none
abbrev pub IsNoEvent : Entry → Type 0
IsNoEvent i = (e : Event) → IsEventItem i e → ⊥

-- ---- what events are answered

-- the item of an answer to an event of this caller; the reply to a command is its frame, with the
-- number of the command
abbrev pub outcome_entry : ℕ → Outcome → Entry
outcome_entry n Taken = of_words 48 (1 ∷ [])
outcome_entry n Published = of_words 48 (2 ∷ [])
outcome_entry n Gone = of_words 48 (3 ∷ [])
outcome_entry n Freed = of_words 48 (4 ∷ [])
outcome_entry n Visited = of_words 48 (5 ∷ [])
outcome_entry n (Refused code value) = of_words 49 (code ∷ value ∷ [])
outcome_entry n (Slice number) = of_words 50 (number ∷ [])
outcome_entry n (VisitRefused code value) = of_words 51 (code ∷ value ∷ [])
outcome_entry n (Left command reply) = record { kind = 52; body = reply_frame command n reply }
outcome_entry n (Got number offset len dropped) =
    of_words 53 (number ∷ offset ∷ len ∷ dropped ∷ [])
outcome_entry n (Bytes bytes) = record { kind = 54; body = bytes }

-- there is a refusal of this number and value
abbrev pub IsRefusal : ℕ → ℕ → Type 0
IsRefusal code value =
    IsTrue (is_some (refusal_from code value)) × (code < 2 ^ 64) × (value < 2 ^ 64)

-- an answer that a trace can have, the right one or not; a reply is one that reads again as itself
abbrev pub IsOutcome : ℕ → Outcome → Type 0
IsOutcome n (Refused code value) = IsRefusal code value
IsOutcome n (Slice number) = number < 2 ^ 32
IsOutcome n (VisitRefused code value) = IsRefusal code value
IsOutcome n (Left command reply) =
    (command < 2 ^ 64) × (reply_in (reply_frame command n reply) ≡ Ok reply)
IsOutcome n (Got number offset len dropped) =
    (number < 2 ^ 32) × (offset < 2 ^ 64) × (len < 2 ^ 64) × (dropped < 2 ^ 64)
IsOutcome n outcome = ⊤

-- the item is this answer to an event of the caller
pub record IsOutcomeItem (n : ℕ) (i : Entry) (o : Outcome) : Type 0 where
  pub spelled : i ≡ outcome_entry n o
  pub stands : IsOutcome n o
