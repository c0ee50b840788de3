-- Requests: how one is placed, which wait, and what an image is to them.
use Rattle.std.specs.Prelude.{◌≡◌, ℕ, Bool, true, false, not, ◌&&◌, ◌==◌, if◌then◌else◌, pos, List, [], ◌∷◌, ◌++◌, Option, Some, None, Result, Ok, Err}
use Rattle.kd_image.specs.Images.{any}
use Rattle.kd_image.specs.declared.image.Image.{Image}
use Rattle.kd_image.specs.declared.notice.Notice.{Notice}
use Rattle.kd_image.specs.declared.notice.Notice.TheVariants.{IdAdd, IdRemove, NameAdd, NameRemove, NameChange, ReplyTimeout, ReplyDead}
use Rattle.kd_model.specs.Words.{some_of, but_those}
use Rattle.kd_types.specs.Flags.{has_bits}
use Rattle.kd_types.specs.declared.refusal.Refusal.{Refusal}
use Rattle.kd_wire.specs.declared.item.WireItem.TheVariants.{Payload}
use Rattle.kd_wire.specs.declared.command.Command.{Command}
use Rattle.kd_wire.specs.declared.command.Command.TheVariants.{Send}
use Rattle.kd_wire.specs.declared.reply.Reply.TheVariants as replies
use Rattle.kd_client.specs.declared.request.Request.{Request}
use Rattle.kd_client.specs.declared.next.Next.{Next}
use Rattle.kd_client.specs.declared.next.Next.TheVariants.{Answer, Failed, Changed, Message}
use Rattle.kd_client.specs.Exchanges.{Exchange, exchange, outcome}

abbrev pub request_to : ℕ → ℕ → Request
request_to cookie dst = record { cookie = cookie; dst = dst }

-- a message that expects a reply up to this deadline
abbrev pub request_command : Request → List ℕ → ℕ → Command
request_command request payload deadline =
    Send (record { 0 = 1 }) (pos 0) request.dst 0 0 request.cookie deadline (Payload payload ∷ [])

-- a request that is asked for, and whether it is placed
abbrev pub placing : {X : Type 0} → Request → List ℕ → ℕ → Result X Refusal → Exchange
placing request payload deadline answer =
    exchange (request_command request payload deadline) (outcome replies.Send answer)

-- those that wait where one more was asked for
abbrev pub outstanding_with :
    {X : Type 0} → Request → Result X Refusal → List Request → List Request
outstanding_with request (Ok placed) requests = requests ++ request ∷ []
outstanding_with request (Err refusal) requests = requests

abbrev pub has_cookie : ℕ → Request → Bool
has_cookie cookie request = request.cookie == cookie

-- a message answers a request: it names its cookie, comes from whom was asked, is no request itself
-- and isn't sent to all
abbrev pub answers : Image → Request → Bool
answers image request =
    has_cookie image.last request
    && ((image.source == request.dst)
    && (not (has_bits image.flags 1) && not (image.dst == any)))

-- what a message is to those that wait
abbrev pub answer : List Request → Image → Next
answer requests image =
    if some_of (answers image) requests then Answer image.last image else Message image

-- what the notice is that this request gets no answer any more
abbrev pub failure : List Request → ℕ → Bool → Image → Next
failure requests cookie dead image =
    if some_of (has_cookie cookie) requests then Failed cookie dead else Message image

-- the name of which a notice tells
abbrev pub name_told : Notice → Option (List ℕ)
name_told (NameAdd old new name) = Some name
name_told (NameRemove old new name) = Some name
name_told (NameChange old new name) = Some name
name_told notice = None

-- what a notice is to them
abbrev pub told : List Request → Notice → Image → Next
told requests (IdAdd id) image = Message image
told requests (IdRemove id) image = Message image
told requests (NameAdd old new name) image = Changed old new name
told requests (NameRemove old new name) image = Changed old new name
told requests (NameChange old new name) image = Changed old new name
told requests (ReplyTimeout cookie) image = failure requests cookie false image
told requests (ReplyDead cookie) image = failure requests cookie true image

-- what an image is to those that wait
unfoldable pub meaning : List Request → Image → Next
meaning requests image = elim image.notice [
  | None ↦ answer requests image
  | Some notice ↦ told requests notice image
]

-- the cookie of the request that is answered or fails by this
abbrev pub settled : Next → Option ℕ
settled (Answer cookie image) = Some cookie
settled (Failed cookie dead) = Some cookie
settled next = None

-- those that still wait: one that was answered or failed doesn't
abbrev pub unsettled : Next → List Request → List Request
unsettled (Answer cookie image) requests = but_those (has_cookie cookie) requests
unsettled (Failed cookie dead) requests = but_those (has_cookie cookie) requests
unsettled next requests = requests

-- what is settled by this is a request that waited, and no request of its cookie waits any more
abbrev pub SettlesOne : List Request → Next → Type 0
SettlesOne requests next =
    (cookie : ℕ) → settled next ≡ Some cookie
    → (some_of (has_cookie cookie) requests ≡ true)
    × (some_of (has_cookie cookie) (unsettled next requests) ≡ false)
