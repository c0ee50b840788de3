-- What each reply has in its frame.
use Rattle.std.specs.Prelude.{◌≡◌, ◌≢◌, ℕ, ◌+◌, ◌*◌, if◌then◌else◌, List, [], ◌∷◌, ◌++◌, length, replicate}
use Rattle.std.specs.List.{flat_map}
use Rattle.kd_item.specs.Spelling.{Entry, words, spelling, padding}
use Rattle.kd_types.specs.declared.refusal.Refusal.TheVariants.{OutOfMemory}
use Rattle.kd_types.specs.Refusal.{refusal_value}
use Rattle.kd_types.specs.Refusal as refusals
use Rattle.kd_wire.specs.declared.opcode.Opcode.TheVariants as opcodes
use Rattle.kd_wire.specs.declared.reply.ListedItem.{ListedItem}
use Rattle.kd_wire.specs.declared.reply.Reply.{Reply}
use Rattle.kd_wire.specs.declared.reply.Reply.TheVariants.{Hello, Send, Recv, Read, Free, Byebye, Close, NameAcquire, NameRelease, NameList, MatchAdd, MatchRemove, PolicySet, EndpointMake, MakeBus, Tick, Seal, Unseal, Enter, Refused}
use Rattle.kd_wire.specs.Opcodes.{opcode_number}

-- a line of a listing: its words and its text
abbrev pub listed_entry : ListedItem → Entry
listed_entry line = record { kind = 24; body = words (line.id ∷ line.standing ∷ []) ++ line.name }

abbrev pub listing_bytes : List ListedItem → List ℕ
listing_bytes lines = flat_map (λ line. spelling (listed_entry line)) lines

-- the code word: 0, or the refusal's number
abbrev pub code_of : Reply → ℕ
code_of (Refused refusal) = refusals.refusal_number refusal
code_of reply = 0

-- the words behind the code
abbrev pub reply_words : Reply → List ℕ
reply_words (Hello id size hashes) = id ∷ size ∷ hashes ∷ []
reply_words (Recv number offset size dropped) = number ∷ offset ∷ size ∷ dropped ∷ []
reply_words (Read bytes) = length bytes ∷ []
reply_words (NameAcquire queued) = (if queued then 2 else 1) ∷ []
reply_words (NameList listed) = length listed ∷ []
reply_words (Tick moment) = moment ∷ []
reply_words (Seal number) = number ∷ []
reply_words (Refused refusal) = refusal_value refusal ∷ []
reply_words reply = []

-- what follows the words
abbrev pub tail_of : Reply → List ℕ
tail_of (Read bytes) = bytes ++ replicate (padding (length bytes)) 0
tail_of (NameList listed) = listing_bytes listed
tail_of reply = []

abbrev pub reply_length : Reply → ℕ
reply_length reply = 32 + 8 * length (reply_words reply) + length (tail_of reply)

-- the one spelling of a reply to a command of this number from this caller
abbrev pub reply_frame : ℕ → ℕ → Reply → List ℕ
reply_frame command caller reply =
    words (reply_length reply ∷ command ∷ caller ∷ code_of reply ∷ []) ++ words (reply_words reply)
    ++ tail_of reply

-- the reply is one of this command: what is done is answered by the command's own reply, and any
-- may be refused
abbrev pub IsReplyTo : ℕ → Reply → Type 0
IsReplyTo command (Hello id size hashes) = command ≡ opcode_number opcodes.Hello
IsReplyTo command Send = command ≡ opcode_number opcodes.Send
IsReplyTo command (Recv number offset size dropped) = command ≡ opcode_number opcodes.Recv
IsReplyTo command (Read bytes) = command ≡ opcode_number opcodes.Read
IsReplyTo command Free = command ≡ opcode_number opcodes.Free
IsReplyTo command Byebye = command ≡ opcode_number opcodes.Byebye
IsReplyTo command Close = command ≡ opcode_number opcodes.Close
IsReplyTo command (NameAcquire queued) = command ≡ opcode_number opcodes.NameAcquire
IsReplyTo command NameRelease = command ≡ opcode_number opcodes.NameRelease
IsReplyTo command (NameList listed) = command ≡ opcode_number opcodes.NameList
IsReplyTo command MatchAdd = command ≡ opcode_number opcodes.MatchAdd
IsReplyTo command MatchRemove = command ≡ opcode_number opcodes.MatchRemove
IsReplyTo command PolicySet = command ≡ opcode_number opcodes.PolicySet
IsReplyTo command EndpointMake = command ≡ opcode_number opcodes.EndpointMake
IsReplyTo command MakeBus = command ≡ opcode_number opcodes.MakeBus
IsReplyTo command (Tick moment) = command ≡ opcode_number opcodes.Tick
IsReplyTo command (Seal number) = command ≡ opcode_number opcodes.Seal
IsReplyTo command Unseal = command ≡ opcode_number opcodes.Unseal
IsReplyTo command Enter = command ≡ opcode_number opcodes.Enter
IsReplyTo command (Refused refusal) = refusal ≢ OutOfMemory
