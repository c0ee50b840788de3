-- What a client asks where it looks for its next message, and how far it comes.
use Rattle.std.specs.Prelude.{⊤, ◌⊎◌, ◌≡◌, ℕ, ◌+◌, false, pos, List, [], ◌∷◌, length, Ok}
use Rattle.kd_image.specs.declared.image.Image.{Image}
use Rattle.kd_image.specs.Said.{Origin, IsSound, origin_bytes}
use Rattle.kd_image.specs.Reading.{reading}
use Rattle.kd_outside.specs.Told.{LinkState}
use Rattle.kd_types.specs.declared.refusal.Refusal.{Refusal}
use Rattle.kd_types.specs.declared.refusal.Refusal.TheVariants.{NoMessage}
use Rattle.kd_wire.specs.declared.command.Command.{Command}
use Rattle.kd_wire.specs.declared.command.Command.TheVariants as commands
use Rattle.kd_wire.specs.declared.reply.Reply.TheVariants as replies
use Rattle.kd_client.specs.declared.error.ClientError.{ClientError}
use Rattle.kd_client.specs.declared.error.ClientError.TheVariants.{BadReply, OutOfMemory}
use Rattle.kd_client.specs.declared.request.Request.{Request}
use Rattle.kd_client.specs.declared.next.Next.{Next}
use Rattle.kd_client.specs.declared.next.Next.TheVariants.{Nothing, Refused}
use Rattle.kd_client.specs.Exchanges.{Exchange, Exchanged, exchange, replies}
use Rattle.kd_client.specs.Causes.{Broke}
use Rattle.kd_client.specs.Requests.{meaning}

-- where a message lies that was received
pub record Slice : Type 0 where
  pub number : ℕ
  pub offset : ℕ
  pub length : ℕ
  pub dropped : ℕ

-- the next message is received, its slice is read, and is given back
abbrev pub receive : Command
receive = commands.Recv (record { 0 = 0 }) (pos 0)

abbrev pub read : ℕ → Command
read number = commands.Read false number

abbrev pub free : ℕ → Command
free number = commands.Free number

abbrev pub received : Slice → Exchange
received slice =
    exchange receive (replies.Recv slice.number slice.offset slice.length slice.dropped)

abbrev pub was_read : ℕ → List ℕ → Exchange
was_read number bytes = exchange (read number) (replies.Read bytes)

-- how a look for the next message ends: a command was refused, or the image was read
pub data Reception : Type 0 where
  unreceived : Refusal → Reception
  unread : Slice → Refusal → Reception
  unfreed : Slice → List ℕ → Refusal → Reception
  whole : Slice → List ℕ → Image → Reception

-- what was asked and answered
abbrev pub exchanges : Reception → List Exchange
exchanges (unreceived refusal) = exchange receive (replies.Refused refusal) ∷ []
exchanges (unread slice refusal) =
    received slice ∷ exchange (read slice.number) (replies.Refused refusal) ∷ []
exchanges (unfreed slice bytes refusal) =
    received slice ∷ was_read slice.number bytes
    ∷ exchange (free slice.number) (replies.Refused refusal) ∷ []
exchanges (whole slice bytes image) =
    received slice ∷ was_read slice.number bytes ∷ exchange (free slice.number) replies.Free ∷ []

-- the image is what the bytes say
abbrev pub IsReading : Reception → Type 0
IsReading (whole slice bytes image) = reading bytes ≡ Ok image
IsReading reception = ⊤

-- a RECV that is refused tells how many messages were dropped where none waits
abbrev pub unreceived_next : Refusal → Next
unreceived_next (NoMessage dropped) = Nothing dropped
unreceived_next refusal = Refused refusal

-- what was found, by those that wait
abbrev pub found : List Request → Reception → Next
found requests (unreceived refusal) = unreceived_next refusal
found requests (unread slice refusal) = Refused refusal
found requests (unfreed slice bytes refusal) = Refused refusal
found requests (whole slice bytes image) = meaning requests image

-- how far a look for the next message came before it ended its client
pub data Stop : Type 0 where
  receiving : Stop
  reading_slice : Slice → Stop
  freeing : Slice → List ℕ → Stop

abbrev pub done_before : Stop → List Exchange
done_before receiving = []
done_before (reading_slice slice) = received slice ∷ []
done_before (freeing slice bytes) = received slice ∷ was_read slice.number bytes ∷ []

-- the command that was to be answered there
abbrev pub asked_at : Stop → Command
asked_at receiving = receive
asked_at (reading_slice slice) = read slice.number
asked_at (freeing slice bytes) = free slice.number

-- bytes that are the image of no message and of no notice
abbrev pub IsNoImage : List ℕ → Type 0
IsNoImage bytes = (origin : Origin) → IsSound origin → bytes ≡ origin_bytes origin → ⊥

-- why the bytes of a reply at this place weren't read as an image
abbrev pub IsUnreadable : ℕ → List ℕ → ClientError → Type 0
IsUnreadable at bytes error =
    (error ≡ OutOfMemory) ⊎ ((error ≡ BadReply at) × IsNoImage bytes)

-- why the slice of this number wasn't read, from this place on
abbrev pub NotRead : ℕ → LinkState → LinkState → ℕ → ClientError → Type 0
NotRead from before after number error =
    Broke from before after [] (read number ∷ []) error
    ⊎ (
    (bytes : List ℕ) × Exchanged before after (was_read number bytes ∷ [])
    × IsUnreadable from bytes error
    )

-- a slice was read whose bytes are no image: the place is that of the reply with them
pub record HasNoImage (from : ℕ) (before after : LinkState) (error : ClientError) : Type 0 where
  pub slice : Slice
  pub bytes : List ℕ
  pub exchanged : Exchanged before after (received slice ∷ was_read slice.number bytes ∷ [])
  pub none : IsNoImage bytes
  pub place : error ≡ BadReply (from + length (replies (received slice ∷ [])))

-- why a look for the next message ended its client, of which so many bytes had been read: a command
-- of it wasn't answered, or what was read is no image
abbrev pub Stopped : ℕ → LinkState → LinkState → ClientError → Type 0
Stopped from before after error =
    ((stop : Stop) × Broke from before after (done_before stop) (asked_at stop ∷ []) error)
    ⊎ HasNoImage from before after error
