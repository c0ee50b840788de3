-- A reply as a line.
use Rattle.std.specs.Prelude.{ℕ, if◌then◌else◌, List, [], ◌++◌, codes, Result, Ok, Err}
use Rattle.std.specs.List.{flat_map}
use Rattle.kd_types.specs.declared.reply_error.ReplyError.{ReplyError}
use Rattle.kd_types.specs.declared.reply_error.ReplyError.TheVariants.{Bad, OutOfMemory}
use Rattle.kd_wire.specs.declared.reply.ListedItem.{ListedItem}
use Rattle.kd_wire.specs.declared.reply.Reply.{Reply}
use Rattle.kd_wire.specs.declared.reply.Reply.TheVariants.{Hello, Recv, Read, NameAcquire, NameList, Tick, Seal, Refused}
use Rattle.kd_wire.specs.Frames.{command_word, caller_word}
use Rattle.kd_wire.specs.ReplyReading.{reply_in}
use Rattle.kd_lines.specs.Marks.{text, field}
use Rattle.kd_lines.specs.Names.{number_name, refusal_text}
use Rattle.kd_lines.specs.Commands.{start_text}
use Rattle.kd_lines.specs.Images.{slice_text}

-- a line of a listing
abbrev pub listed_text : ListedItem → List ℕ
listed_text line =
    codes " LISTED" ++ field (codes "id") line.id ++ field (codes "standing") line.standing
    ++ text line.name

-- what a reply gives, or why the command was refused
abbrev pub answer_text : Reply → List ℕ
answer_text (Hello id size hashes) =
    codes " ok" ++ field (codes "id") id ++ field (codes "size") size
    ++ field (codes "hashes") hashes
answer_text (Recv number offset size dropped) =
    codes " ok" ++ field (codes "slice") number ++ field (codes "offset") offset
    ++ field (codes "length") size ++ field (codes "dropped") dropped
answer_text (Read bytes) = codes " ok" ++ slice_text bytes
answer_text (NameAcquire queued) =
    codes " ok" ++ (if queued then codes " queued" else codes " owned")
answer_text (NameList listed) = codes " ok" ++ flat_map listed_text listed
answer_text (Tick moment) = codes " ok" ++ field (codes "moment") moment
answer_text (Seal number) = codes " ok" ++ field (codes "seal") number
answer_text (Refused refusal) = codes " refused " ++ refusal_text refusal
answer_text reply = codes " ok"

-- the caller and the command of a frame or a reply, whatever they are
abbrev pub head_text : List ℕ → List ℕ
head_text bytes = start_text (caller_word bytes) (number_name (command_word bytes))

-- a reply, or the place that breaks its format and its bytes
abbrev pub reply_text : List ℕ → Result Reply ReplyError → List ℕ
reply_text bytes (Ok reply) = answer_text reply
reply_text bytes (Err (Bad at)) =
    codes " broken" ++ field (codes "at") at ++ codes " FRAME" ++ text bytes
reply_text bytes (Err OutOfMemory) = []

abbrev pub reply_line : List ℕ → List ℕ
reply_line bytes = head_text bytes ++ reply_text bytes (reply_in bytes) ++ codes "\n"
