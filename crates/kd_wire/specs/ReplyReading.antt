-- Replies as they are read: the value, or the first place that breaks the format, in the order of
-- the bytes. A word that runs past the end breaks at its own start, and so does what is missing;
-- what is left over breaks at its start.
use Rattle.std.specs.Prelude.{◌≡◌, ◌⊎◌, Bool, ℕ, zero, suc, ◌+◌, ◌*◌, ◌-◌, ◌/◌, not, ◌&&◌, nat_lt, nat_le, ◌==◌, if◌then◌else◌, List, [], ◌∷◌, ◌++◌, length, take, drop, Option, Some, None, Result, Ok, Err}
use Rattle.std.specs.Str.{is_utf8}
use Rattle.kd_item.specs.Spelling.{Entry, number, padding}
use Rattle.kd_item.specs.Reading.{item_at, are_zeros}
use Rattle.kd_types.specs.declared.reply_error.ReplyError.{ReplyError}
use Rattle.kd_types.specs.declared.reply_error.ReplyError.TheVariants.{Bad, OutOfMemory}
use Rattle.kd_types.specs.declared.refusal.Refusal.{Refusal}
use Rattle.kd_types.specs.declared.refusal.Refusal.TheVariants.{Malformed, Unsupported, BadFlags, MissingItem, DoubledItem, BadName, NotPermitted, NoSuchName, NoSuchConnection, NameMoved, NameTaken, AlreadyOwned, NotOwner, TooMany, PoolFull, Quota, NotStarted, NoMessage, NoSuchPriority, NoSuchSlice, NotReceived, Busy, BloomSize, TooLong, BroadcastMisuse, NoSuchBus, BusExists, WrongPrefix, NoSuchEndpoint, EndpointExists, WrongState, MessagesQueued, NoSuchMatch, NoSuchSeal, BadCookie, SlicesSpent, TurnsSpent}
use Rattle.kd_wire.specs.declared.opcode.Opcode.{Opcode}
use Rattle.kd_wire.specs.declared.opcode.Opcode.TheVariants as opcodes
use Rattle.kd_wire.specs.declared.reply.ListedItem.{ListedItem}
use Rattle.kd_wire.specs.declared.reply.Reply.{Reply}
use Rattle.kd_wire.specs.declared.reply.Reply.TheVariants.{Hello, Send, Recv, Read, Free, Byebye, Close, NameAcquire, NameRelease, NameList, MatchAdd, MatchRemove, PolicySet, EndpointMake, MakeBus, Tick, Seal, Unseal, Enter, Refused}
use Rattle.kd_wire.specs.Opcodes.{opcode_of}
use Rattle.kd_wire.specs.Frames.{command_word}

-- why there is no value: memory ran out, or the bytes read so
abbrev pub IsBreak : {X : Type 0} → ReplyError → Result X ReplyError → Type 0
IsBreak error read = (error ≡ OutOfMemory) ⊎ (read ≡ Err error)

-- the code of a reply
abbrev pub code_word : List ℕ → ℕ
code_word bytes = number (drop 24 bytes)

-- the place in the head that breaks: the size word is the length of the bytes
abbrev pub head_break : List ℕ → Option ℕ
head_break bytes =
    if nat_lt (length bytes) 8 then Some 0
    else if not (number bytes == length bytes) then Some 0
    else if nat_lt (length bytes) 16 then Some 8
    else if nat_lt (length bytes) 24 then Some 16
    else if nat_lt (length bytes) 32 then Some 24
    else None

-- the place that breaks where nothing but so many words stand behind the head
abbrev pub words_break : ℕ → List ℕ → Option ℕ
words_break count bytes =
    if nat_lt (length bytes) (32 + 8 * count) then Some (32 + 8 * ((length bytes - 32) / 8))
    else if nat_lt (32 + 8 * count) (length bytes) then Some (32 + 8 * count)
    else None

abbrev pub unbroken : Option ℕ → Reply → Result Reply ReplyError
unbroken None reply = Ok reply
unbroken (Some at) reply = Err (Bad at)

-- a reply that is nothing but so many words behind the head
abbrev pub with_words : ℕ → List ℕ → Reply → Result Reply ReplyError
with_words count bytes reply = unbroken (words_break count bytes) reply

-- 1 for the owner of the name, 2 for one that is queued
abbrev pub is_acquired_word : ℕ → Bool
is_acquired_word n = nat_le 1 n && nat_le n 2

abbrev pub acquired_in : List ℕ → Result Reply ReplyError
acquired_in bytes =
    if nat_lt (length bytes) 40 then Err (Bad 32)
    else if not (is_acquired_word (number (drop 32 bytes))) then Err (Bad 32)
    else if nat_lt 40 (length bytes) then Err (Bad 40)
    else Ok (NameAcquire (number (drop 32 bytes) == 2))

-- so many bytes, then zeros to a multiple of 8
abbrev pub run_of : ℕ → List ℕ → Result Reply ReplyError
run_of count bytes =
    let end = count + padding count in
    if nat_lt (length bytes) count then Err (Bad 40)
    else if nat_lt (length bytes) end then Err (Bad 40)
    else if not (are_zeros (take (padding count) (drop count bytes))) then Err (Bad 40)
    else if nat_lt end (length bytes) then Err (Bad (40 + count + padding count))
    else Ok (Read (take count bytes))

abbrev pub read_in : List ℕ → Result Reply ReplyError
read_in bytes =
    if nat_lt (length bytes) 40 then Err (Bad 32)
    else run_of (number (drop 32 bytes)) (drop 40 bytes)

-- what an item says as a line of a listing
unfoldable pub line_in : Entry → Option ListedItem
line_in e =
    if not (e.kind == 24) then None
    else if nat_lt (length e.body) 16 then None
    else if is_utf8 (drop 16 e.body) then Some (record {
      id = number e.body;
      standing = number (drop 8 e.body);
      name = drop 16 e.body;
    })
    else None

-- so many lines behind those before them, from this place to the end of the bytes
unfoldable pub lines_in : ℕ → ℕ → List ListedItem → List ℕ → Result (List ListedItem) ReplyError
lines_in zero at before bytes = if length bytes == 0 then Ok before else Err (Bad at)
lines_in (suc count) at before bytes = elim (item_at bytes) [
  | None ↦ Err (Bad at)
  | Some x ↦ elim (line_in x.0) [
    | None ↦ Err (Bad at)
    | Some line ↦ lines_in count (at + (length bytes - length x.1)) (before ++ line ∷ []) x.1
  ]
]

abbrev pub listed_reply : Result (List ListedItem) ReplyError → Result Reply ReplyError
listed_reply (Ok lines) = Ok (NameList lines)
listed_reply (Err error) = Err error

abbrev pub listing_in : List ℕ → Result Reply ReplyError
listing_in bytes =
    if nat_lt (length bytes) 40 then Err (Bad 32)
    else listed_reply (lines_in (number (drop 32 bytes)) 40 [] (drop 40 bytes))

-- the answer of a command that is done
abbrev pub answer_in : Opcode → List ℕ → Result Reply ReplyError
answer_in opcodes.Hello bytes =
    with_words 3 bytes
    (Hello (number (drop 32 bytes)) (number (drop 40 bytes)) (number (drop 48 bytes)))
answer_in opcodes.Send bytes = with_words 0 bytes Send
answer_in opcodes.Recv bytes =
    with_words 4 bytes (Recv (number (drop 32 bytes)) (number (drop 40 bytes))
    (number (drop 48 bytes)) (number (drop 56 bytes)))
answer_in opcodes.Read bytes = read_in bytes
answer_in opcodes.Free bytes = with_words 0 bytes Free
answer_in opcodes.Byebye bytes = with_words 0 bytes Byebye
answer_in opcodes.Close bytes = with_words 0 bytes Close
answer_in opcodes.NameAcquire bytes = acquired_in bytes
answer_in opcodes.NameRelease bytes = with_words 0 bytes NameRelease
answer_in opcodes.NameList bytes = listing_in bytes
answer_in opcodes.MatchAdd bytes = with_words 0 bytes MatchAdd
answer_in opcodes.MatchRemove bytes = with_words 0 bytes MatchRemove
answer_in opcodes.PolicySet bytes = with_words 0 bytes PolicySet
answer_in opcodes.EndpointMake bytes = with_words 0 bytes EndpointMake
answer_in opcodes.MakeBus bytes = with_words 0 bytes MakeBus
answer_in opcodes.Tick bytes = with_words 1 bytes (Tick (number (drop 32 bytes)))
answer_in opcodes.Seal bytes = with_words 1 bytes (Seal (number (drop 32 bytes)))
answer_in opcodes.Unseal bytes = with_words 0 bytes Unseal
answer_in opcodes.Enter bytes = with_words 0 bytes Enter

-- the refusal of this number that has no field
abbrev pub bare_refusal : ℕ → Option Refusal
bare_refusal code =
    if code == 3 then Some BadFlags
    else if code == 4 then Some MissingItem
    else if code == 5 then Some DoubledItem
    else if code == 6 then Some BadName
    else if code == 7 then Some NotPermitted
    else if code == 8 then Some NoSuchName
    else if code == 9 then Some NoSuchConnection
    else if code == 11 then Some NameTaken
    else if code == 12 then Some AlreadyOwned
    else if code == 13 then Some NotOwner
    else if code == 15 then Some PoolFull
    else if code == 16 then Some Quota
    else if code == 17 then Some NotStarted
    else if code == 19 then Some NoSuchPriority
    else if code == 20 then Some NoSuchSlice
    else if code == 21 then Some NotReceived
    else if code == 23 then Some BloomSize
    else if code == 24 then Some TooLong
    else if code == 25 then Some BroadcastMisuse
    else if code == 27 then Some BusExists
    else if code == 28 then Some WrongPrefix
    else if code == 29 then Some NoSuchEndpoint
    else if code == 30 then Some EndpointExists
    else if code == 31 then Some WrongState
    else if code == 32 then Some MessagesQueued
    else if code == 33 then Some NoSuchMatch
    else if code == 34 then Some NoSuchSeal
    else if code == 35 then Some BadCookie
    else if code == 36 then Some SlicesSpent
    else if code == 37 then Some TurnsSpent
    else None

-- the refusal of this number and this value; the value of one that has no field is 0
abbrev pub refusal_from : ℕ → ℕ → Option Refusal
refusal_from code value =
    if code == 1 then Some (Malformed value)
    else if code == 2 then Some (Unsupported value)
    else if code == 10 then Some (NameMoved value)
    else if code == 14 then Some (TooMany value)
    else if code == 18 then Some (NoMessage value)
    else if code == 22 then Some (Busy value)
    else if code == 26 then Some (NoSuchBus value)
    else if value == 0 then bare_refusal code
    else None

abbrev pub if_alone : List ℕ → Option Refusal → Result Reply ReplyError
if_alone bytes None = Err (Bad 32)
if_alone bytes (Some refusal) =
    if nat_lt 40 (length bytes) then Err (Bad 40) else Ok (Refused refusal)

-- the refusal of this code, from 1
abbrev pub refused_in : ℕ → List ℕ → Result Reply ReplyError
refused_in code bytes =
    if nat_lt 37 code then Err (Bad 24)
    else if nat_lt (length bytes) 40 then Err (Bad 32)
    else if_alone bytes (refusal_from code (number (drop 32 bytes)))

-- an answer of a command that there is
abbrev pub done_in : Option Opcode → List ℕ → Result Reply ReplyError
done_in None bytes = Err (Bad 24)
done_in (Some opcode) bytes = answer_in opcode bytes

abbrev pub behind_head : List ℕ → Result Reply ReplyError
behind_head bytes =
    if code_word bytes == 0 then done_in (opcode_of (command_word bytes)) bytes
    else refused_in (code_word bytes) bytes

abbrev pub head_then : Option ℕ → List ℕ → Result Reply ReplyError
head_then None bytes = behind_head bytes
head_then (Some at) bytes = Err (Bad at)

-- the reply that the bytes spell, or the first place that breaks the format
unfoldable pub reply_in : List ℕ → Result Reply ReplyError
reply_in bytes = head_then (head_break bytes) bytes
