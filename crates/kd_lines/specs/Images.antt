-- An image as part of a line.
use Rattle.std.specs.Prelude.{ℕ, List, [], ◌++◌, codes, Option, Some, None, Result, Ok, Err}
use Rattle.std.specs.List.{flat_map}
use Rattle.kd_types.specs.declared.creds.Creds.{Creds}
use Rattle.kd_types.specs.declared.reply_error.ReplyError.{ReplyError}
use Rattle.kd_wire.specs.declared.opcode.Opcode.TheVariants.{Send}
use Rattle.kd_image.specs.declared.message.SealedRange.{SealedRange}
use Rattle.kd_image.specs.declared.attached.Attached.{Attached}
use Rattle.kd_image.specs.declared.notice.Notice.{Notice}
use Rattle.kd_image.specs.declared.notice.Notice.TheVariants.{IdAdd, IdRemove, NameAdd, NameRemove, NameChange, ReplyTimeout, ReplyDead}
use Rattle.kd_image.specs.declared.image.Image.{Image}
use Rattle.kd_image.specs.Reading.{reading}
use Rattle.kd_lines.specs.Marks.{field, flag, word_text, word_field, change_text}
use Rattle.kd_lines.specs.Commands.{flags_text, way_text, sense_text}

-- the text of what is there
abbrev pub maybe : {X : Type 0} → (X → List ℕ) → Option X → List ℕ
maybe f None = []
maybe f (Some x) = f x

abbrev pub creds_text : Creds → List ℕ
creds_text c =
    codes " CREDS" ++ flag (codes "PRIVILEGED") c.privileged ++ field (codes "uid") c.uid
    ++ field (codes "gid") c.gid

-- what the bus tells about the sender
abbrev pub attached_text : Attached → List ℕ
attached_text a =
    maybe creds_text a.creds ++ flat_map (word_text (codes " OWNED")) a.names
    ++ maybe (word_text (codes " DESCRIPTION")) a.description
    ++ maybe (λ m. word_field (codes " MOMENT") (codes "moment") m) a.moment

abbrev pub range_text : SealedRange → List ℕ
range_text r =
    codes " SHARED" ++ field (codes "behind") r.place ++ field (codes "start") r.start
    ++ field (codes "length") r.length

abbrev pub notice_text : Notice → List ℕ
notice_text (IdAdd id) = word_field (codes " ID_ADD") (codes "id") id
notice_text (IdRemove id) = word_field (codes " ID_REMOVE") (codes "id") id
notice_text (NameAdd old new name) =
    change_text (codes " NAME_ADD") old new name
notice_text (NameRemove old new name) =
    change_text (codes " NAME_REMOVE") old new name
notice_text (NameChange old new name) =
    change_text (codes " NAME_CHANGE") old new name
notice_text (ReplyTimeout cookie) = word_field (codes " REPLY_TIMEOUT") (codes "cookie") cookie
notice_text (ReplyDead cookie) = word_field (codes " REPLY_DEAD") (codes "cookie") cookie

-- the numbers of an image's header
abbrev pub header_text : Image → List ℕ
header_text i =
    flags_text Send i.flags ++ way_text i.dst i.source i.priority
    ++ sense_text i.payload_type i.cookie i.last

-- what stands before the payloads of a message: its header, what is attached, and the name that it
-- was sent to
unfoldable pub front_text : Image → List ℕ
front_text i =
    header_text i ++ attached_text i.attached ++ maybe (word_text (codes " DST_NAME")) i.dst_name

-- its payloads, and the sealed bytes that it shares; or what a notice tells
unfoldable pub payload_text : Image → List ℕ
payload_text i =
    flat_map (word_text (codes " PAYLOAD")) i.payloads ++ maybe range_text i.shared
    ++ maybe notice_text i.notice

abbrev pub image_text : Image → List ℕ
image_text i = front_text i ++ payload_text i

-- what was read of a slice: an image, or bytes that are none
abbrev pub read_text : List ℕ → Result Image ReplyError → List ℕ
read_text bytes (Ok image) = codes " IMAGE" ++ image_text image
read_text bytes (Err error) = word_text (codes " BYTES") bytes

abbrev pub slice_text : List ℕ → List ℕ
slice_text bytes = read_text bytes (reading bytes)
