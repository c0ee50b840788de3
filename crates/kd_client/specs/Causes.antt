-- Why bytes are no reply, and why a call ended its client.
use Rattle.std.specs.Prelude.{⊤, ◌⊎◌, ◌≡◌, ℕ, ◌+◌, ◌^◌, ◌<◌, ◌≤◌, List, [], ◌∷◌, ◌++◌, length, take, Option}
use Rattle.std.specs.Io.KnownBytes.{Appends, Consumes, IsAtEnd}
use Rattle.kd_item.specs.Spelling.{number}
use Rattle.kd_outside.specs.Causes.{Rose}
use Rattle.kd_outside.specs.Told.{Side, LinkState}
use Rattle.kd_wire.specs.declared.command.Command.{Command}
use Rattle.kd_wire.specs.declared.reply.Reply.{Reply}
use Rattle.kd_wire.specs.Replies.{IsReplyTo, reply_frame, reply_length}
use Rattle.kd_wire.specs.Typed.{IsTypedReply}
use Rattle.kd_client.specs.declared.error.ClientError.{ClientError}
use Rattle.kd_client.specs.declared.error.ClientError.TheVariants.{LinkFault, Ended, BadReply, OutOfMemory}
use Rattle.kd_client.specs.Exchanges.{Exchange, AreAnswered, Heard, commands_of, number_of, frames, replies}

-- a reply to the command of this number that has a spelling
pub record IsReply (command : ℕ) (reply : Reply) : Type 0 where
  pub answers : IsReplyTo command reply
  pub typed : IsTypedReply reply
  pub size : reply_length reply < 2 ^ 63

-- bytes that neither begin with a reply to the command, nor are the beginning of one
pub record IsNoReply (command : ℕ) (bytes : List ℕ) : Type 0 where
  pub begins :
      (reply : Reply) (rest : List ℕ) → IsReply command reply
      → bytes ≡ reply_frame command 0 reply ++ rest → ⊥
  pub begun :
      (reply : Reply) (rest : List ℕ) → IsReply command reply
      → bytes ++ rest ≡ reply_frame command 0 reply → ⊥

-- bytes that begin with the size word of a reply that is longer than any
pub record IsTooLong (bytes : List ℕ) : Type 0 where
  pub word : 7 < length bytes
  pub size : 2097152 < number bytes

abbrev pub IsBad : ℕ → List ℕ → Type 0
IsBad command bytes = IsNoReply command bytes ⊎ IsTooLong bytes

-- bytes that end within a reply: in its size word, or before as many came as it says
abbrev pub IsCutShort : List ℕ → Type 0
IsCutShort bytes = (length bytes < 8) ⊎ (length bytes < number bytes)

-- why no reply to the command was read, which would begin at this place: these bytes came of it
abbrev pub HasWhy : ℕ → ℕ → Side → Side → List ℕ → ClientError → Type 0
HasWhy command at before after bytes LinkFault = Rose before.faults after.faults
HasWhy command at before after bytes (Ended end) =
    IsAtEnd after.bytes × IsCutShort bytes × (end ≡ at + length bytes)
HasWhy command at before after bytes (BadReply place) = (place ≡ at) × IsBad command bytes
HasWhy command at before after bytes OutOfMemory = ⊤

-- no reply to the command was read: what was read instead, and why
pub record HasNone (command at : ℕ) (before after : Side) (error : ClientError) : Type 0 where
  pub bytes : List ℕ
  pub read : Consumes before.bytes after.bytes bytes
  pub why : HasWhy command at before after bytes error

-- why the first of the commands that were still to be answered wasn't: these bytes were read behind
-- the replies before it, which end at this place, and so many bytes of so many were written
abbrev pub IsCause : ℕ → LinkState → LinkState → List Command → List ℕ → ℕ → ℕ → ClientError → Type 0
IsCause at before after left bytes count total LinkFault =
    Rose before.reading.faults after.reading.faults
    ⊎ Rose before.writing.faults after.writing.faults
IsCause at before after [] bytes count total (Ended end) = ⊥
IsCause at before after (command ∷ left) bytes count total (Ended end) =
    (count ≡ total) × IsAtEnd after.reading.bytes × IsCutShort bytes × (end ≡ at + length bytes)
IsCause at before after [] bytes count total (BadReply place) = ⊥
IsCause at before after (command ∷ left) bytes count total (BadReply place) =
    (count ≡ total) × (place ≡ at) × IsBad (number_of command) bytes
IsCause at before after left bytes count total OutOfMemory = ⊤

-- a call that ended its client, of which so many bytes had been read: the commands that were asked
-- and answered, those that were still to be answered, and why they weren't. What was written is a
-- front of the frames of all of them; what was read is the replies and some bytes behind them.
pub record Broke (from : ℕ) (before after : LinkState) (done : List Exchange) (left : List Command)
    (error : ClientError) : Type 0 where
  pub count : ℕ
  pub bytes : List ℕ
  pub written :
      Appends before.writing.bytes after.writing.bytes
      (take count (frames (commands_of done ++ left)))
  pub read : Consumes before.reading.bytes after.reading.bytes (replies done ++ bytes)
  pub answered : AreAnswered done
  pub cause :
      IsCause (from + length (replies done)) before after left bytes count
      (length (frames (commands_of done ++ left))) error

-- commands that were written ahead of their replies ended their client, of which so many bytes had
-- been read: the first of them were answered, and those that are left were still to be
pub record BrokeAhead (from : ℕ) (before after : LinkState) (commands : List Command)
    (error : ClientError) : Type 0 where
  pub done : List Exchange
  pub left : List Command
  pub parts : commands ≡ commands_of done ++ left
  pub broke : Broke from before after done left error

-- the replies to the first of these commands were read, from this place on, and none to the next one
pub record HeardFront (from : ℕ) (before after : Side) (commands : List Command)
    (error : ClientError) : Type 0 where
  pub done : List Exchange
  pub next : Command
  pub left : List Command
  pub parts : commands ≡ commands_of done ++ next ∷ left
  pub mid : Side
  pub place : ℕ
  pub heard : Heard before mid from place done
  pub none : HasNone (number_of next) place mid after error

-- bytes that were held grew by what was read
pub record Came (before after : Option (List ℕ)) (held now : List ℕ) : Type 0 where
  pub bytes : List ℕ
  pub joined : now ≡ held ++ bytes
  pub read : Consumes before after bytes

-- as many bytes as their size word says, which has the size of a reply
pub record IsWhole (bytes : List ℕ) : Type 0 where
  pub size : number bytes ≡ length bytes
  pub low : 32 ≤ length bytes
  pub high : length bytes ≤ 2097152

-- why fewer bytes than so many came of what begins at this place
abbrev pub StopsShort : ℕ → ℕ → Side → Side → List ℕ → ClientError → Type 0
StopsShort at total before after bytes LinkFault = Rose before.faults after.faults
StopsShort at total before after bytes (Ended end) =
    IsAtEnd after.bytes × (length bytes < total) × (end ≡ at + length bytes)
StopsShort at total before after bytes (BadReply place) = ⊥
StopsShort at total before after bytes OutOfMemory = ⊤

-- why these bytes, which came whole, are not read as a reply to the command, which would begin at
-- this place
abbrev pub IsUnread : ℕ → ℕ → List ℕ → ClientError → Type 0
IsUnread command at bytes error =
    (error ≡ OutOfMemory) ⊎ ((error ≡ BadReply at) × IsNoReply command bytes)

-- a failed call of the link, or want of memory
abbrev pub IsFault : ℕ → ℕ → ClientError → Type 0
IsFault before after LinkFault = Rose before after
IsFault before after (Ended end) = ⊥
IsFault before after (BadReply place) = ⊥
IsFault before after OutOfMemory = ⊤

-- why these frames weren't all written: a front of them was
pub record IsUnsent (before after : Side) (bytes : List ℕ) (error : ClientError) : Type 0 where
  pub count : ℕ
  pub written : Appends before.bytes after.bytes (take count bytes)
  pub cause : IsFault before.faults after.faults error
