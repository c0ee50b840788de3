-- Events and answers as they are read: one test after the other, in the order of the code.
use Rattle.std.specs.Prelude.{ℕ, ◌^◌, Bool, not, nat_lt, ◌==◌, if◌then◌else◌, List, length, drop, Option, Some, None, Result, Ok, Err, is_some}
use Rattle.std.specs.Int.{w64, cast_signed}
use Rattle.kd_item.specs.Spelling.{Entry, number}
use Rattle.kd_types.specs.Flags.{has_bits}
use Rattle.kd_types.specs.declared.reply_error.ReplyError.{ReplyError}
use Rattle.kd_wire.specs.declared.command.Command.{Command}
use Rattle.kd_wire.specs.declared.reply.Reply.{Reply}
use Rattle.kd_wire.specs.Frames.{caller_word, command_word}
use Rattle.kd_wire.specs.ReplyReading.{refusal_from, reply_in}
use Rattle.kd_acts.specs.declared.receive.RecvMode.{RecvMode}
use Rattle.kd_world.specs.Legal.{Event, take, visit, leave, publishes, receives, reads, frees, is_caller}
use Rattle.kd_trace.specs.declared.outcome.Outcome.{Outcome}
use Rattle.kd_trace.specs.declared.outcome.Outcome.TheVariants.{Taken, Published, Gone, Freed, Visited, Refused, Slice, VisitRefused, Left, Got, Bytes}

-- the words of a body
abbrev pub first_word : List ℕ → ℕ
first_word body = number body

abbrev pub second_word : List ℕ → ℕ
second_word body = number (drop 8 body)

abbrev pub third_word : List ℕ → ℕ
third_word body = number (drop 16 body)

abbrev pub fourth_word : List ℕ → ℕ
fourth_word body = number (drop 24 body)

-- ---- events other than takes

abbrev pub visit_in : List ℕ → Option Event
visit_in body =
    if not (length body == 16) then None
    else if not (is_caller (first_word body)) then None
    else if not (nat_lt (second_word body) 64) then None
    else Some (visit (first_word body) (second_word body))

abbrev pub leave_in : List ℕ → Option Event
leave_in body =
    if not (length body == 8) then None
    else if not (is_caller (first_word body)) then None
    else Some (leave (first_word body))

abbrev pub publish_in : List ℕ → Option Event
publish_in body =
    if not (length body == 24) then None
    else if not (is_caller (first_word body)) then None
    else if not (nat_lt (second_word body) 64) then None
    else if not (nat_lt (third_word body) (2 ^ 32)) then None
    else Some (publishes (first_word body) (second_word body) (third_word body))

-- the mode of these flags and this limit; a limit without its flag is none
abbrev pub mode_in : ℕ → ℕ → Option RecvMode
mode_in flags limit =
    if not (nat_lt flags 8) then None
    else if has_bits flags 4 then Some (record {
      peek = has_bits flags 1;
      drop_it = has_bits flags 2;
      limit = Some (cast_signed w64 limit);
    })
    else if limit == 0 then Some (record {
      peek = has_bits flags 1;
      drop_it = has_bits flags 2;
      limit = None;
    })
    else None

abbrev pub receives_in : ℕ → Option RecvMode → Option Event
receives_in n None = None
receives_in n (Some mode) = Some (receives n mode)

abbrev pub receive_in : List ℕ → Option Event
receive_in body =
    if not (length body == 24) then None
    else if not (is_caller (first_word body)) then None
    else receives_in (first_word body) (mode_in (second_word body) (third_word body))

abbrev pub read_in : List ℕ → Option Event
read_in body =
    if not (length body == 24) then None
    else if not (is_caller (first_word body)) then None
    else if not (nat_lt (second_word body) (2 ^ 32)) then None
    else if not (nat_lt (third_word body) 2) then None
    else Some (reads (first_word body) (second_word body) (third_word body == 1))

abbrev pub free_in : List ℕ → Option Event
free_in body =
    if not (length body == 16) then None
    else if not (is_caller (first_word body)) then None
    else if not (nat_lt (second_word body) (2 ^ 32)) then None
    else Some (frees (first_word body) (second_word body))

-- what an item says as an event other than a take
unfoldable pub event_in : ℕ → List ℕ → Option Event
event_in kind body =
    if kind == 33 then visit_in body
    else if kind == 34 then leave_in body
    else if kind == 35 then publish_in body
    else if kind == 36 then receive_in body
    else if kind == 37 then read_in body
    else if kind == 38 then free_in body
    else None

-- the take of a command, where its frame names the caller that stands before it
abbrev pub take_with : ℕ → ℕ → Command → Option Event
take_with first n x = if n == first then Some (take n x) else None

-- ---- answers

abbrev pub plain_of : ℕ → Option Outcome
plain_of n =
    if n == 1 then Some Taken
    else if n == 2 then Some Published
    else if n == 3 then Some Gone
    else if n == 4 then Some Freed
    else if n == 5 then Some Visited
    else None

abbrev pub plain_in : List ℕ → Option Outcome
plain_in body = if length body == 8 then plain_of (first_word body) else None

abbrev pub is_refusal : ℕ → ℕ → Bool
is_refusal code value = is_some (refusal_from code value)

abbrev pub refused_in : List ℕ → Option Outcome
refused_in body =
    if not (length body == 16) then None
    else if is_refusal (first_word body) (second_word body)
    then Some (Refused (first_word body) (second_word body))
    else None

abbrev pub visit_refused_in : List ℕ → Option Outcome
visit_refused_in body =
    if not (length body == 16) then None
    else if is_refusal (first_word body) (second_word body)
    then Some (VisitRefused (first_word body) (second_word body))
    else None

abbrev pub slice_in : List ℕ → Option Outcome
slice_in body =
    if not (length body == 8) then None
    else if nat_lt (first_word body) (2 ^ 32) then Some (Slice (first_word body))
    else None

abbrev pub got_in : List ℕ → Option Outcome
got_in body =
    if not (length body == 32) then None
    else if nat_lt (first_word body) (2 ^ 32)
    then Some
    (Got (first_word body) (second_word body) (third_word body) (fourth_word body))
    else None

-- a reply to this caller
abbrev pub left_by : ℕ → List ℕ → Result Reply ReplyError → Option Outcome
left_by n body (Err e) = None
left_by n body (Ok reply) =
    if caller_word body == n then Some (Left (command_word body) reply) else None

abbrev pub left_in : ℕ → List ℕ → Option Outcome
left_in n body = left_by n body (reply_in body)

-- what an item says as the answer to an event of this caller
unfoldable pub outcome_in : ℕ → Entry → Option Outcome
outcome_in n i =
    if i.kind == 48 then plain_in i.body
    else if i.kind == 49 then refused_in i.body
    else if i.kind == 50 then slice_in i.body
    else if i.kind == 51 then visit_refused_in i.body
    else if i.kind == 52 then left_in n i.body
    else if i.kind == 53 then got_in i.body
    else if i.kind == 54 then Some (Bytes i.body)
    else None
