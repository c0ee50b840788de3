-- The bytes of messages and notices, as a receiver finds them.
use Rattle.std.specs.Prelude.{ℕ, ◌+◌, ◌-◌, ◌^◌, ℤ, List, [], ◌∷◌, ◌++◌, length, replicate}
use Rattle.std.specs.List.{flat_map}
use Rattle.std.specs.Int.{cast_unsigned, w64}
use Rattle.kd_item.specs.Spelling.{Entry, padding, spelling, spellings, words}
use Rattle.kd_image.specs.declared.message.Message.{Message}
use Rattle.kd_image.specs.declared.attached.Attached.{Attached}
use Rattle.kd_image.specs.declared.notice.Notice.{Notice}
use Rattle.kd_image.specs.declared.notice.Notice.TheVariants.{IdAdd, IdRemove, NameAdd, NameRemove, NameChange, ReplyTimeout, ReplyDead}
use Rattle.kd_image.specs.Items.{item, Contents, contents, items}

-- a payload and the zeros up to the next multiple of 8
abbrev pub padded : List ℕ → List ℕ
padded bytes = bytes ++ replicate (padding (length bytes)) 0

-- payloads one after the other
abbrev pub laid : List (List ℕ) → List ℕ
laid payloads = flat_map padded payloads

-- the eight words in front; a negative priority is written as its two's complement
unfoldable pub header : ℕ → ℕ → ℤ → ℕ → ℕ → ℕ → ℕ → ℕ → List ℕ
header size flags priority dst source payload_type cookie last =
    words (size ∷ flags ∷ cast_unsigned w64 priority ∷ dst ∷ source ∷ payload_type ∷ cookie ∷ last
    ∷ [])

-- those of a message from this sender to this destination: whom it is for, also in a copy that a
-- monitor reads
abbrev pub message_header : ℕ → Message → ℕ → ℕ → List ℕ
message_header size m source dst =
    header size m.flags.0 m.priority dst source m.payload_type m.cookie m.last

-- how many bytes header and items have; no item's length depends on the numbers in it, so 0 may
-- stand for this very length
unfoldable pub front_length : Contents → ℕ
front_length c = 64 + length (spellings (items 0 c))

-- header and items
unfoldable pub front : Message → ℕ → ℕ → Attached → List ℕ
front m source dst a =
    let c : Contents = contents m a in
    message_header (front_length c) m source dst ++ spellings (items (front_length c) c)

-- the image of a message from this sender, to this destination, with this attached
unfoldable pub image : Message → ℕ → ℕ → Attached → List ℕ
image m source dst a = front m source dst a ++ laid m.payloads

unfoldable pub image_length : Message → Attached → ℕ
image_length m a = front_length (contents m a) + length (laid m.payloads)

-- the destination of what goes to all
abbrev pub any : ℕ
any = 2 ^ 64 - 1

-- the one item of a notice
abbrev pub notice_item : Notice → Entry
notice_item (IdAdd id) = item 12 (id ∷ []) []
notice_item (IdRemove id) = item 13 (id ∷ []) []
notice_item (NameAdd old new name) = item 14 (old ∷ new ∷ []) name
notice_item (NameRemove old new name) = item 15 (old ∷ new ∷ []) name
notice_item (NameChange old new name) = item 16 (old ∷ new ∷ []) name
notice_item (ReplyTimeout cookie) = item 17 [] []
notice_item (ReplyDead cookie) = item 18 [] []

-- a notice of a reply goes to the one that asked, every other to all
abbrev pub notice_destination : Notice → ℕ → ℕ
notice_destination (ReplyTimeout cookie) dst = dst
notice_destination (ReplyDead cookie) dst = dst
notice_destination _ dst = any

-- a notice of a reply tells by the last word which request it was
abbrev pub notice_last : Notice → ℕ
notice_last (ReplyTimeout cookie) = cookie
notice_last (ReplyDead cookie) = cookie
notice_last _ = 0

-- the image of a notice
unfoldable pub notice_image : Notice → ℕ → List ℕ
notice_image n dst =
    let it : List ℕ = spelling (notice_item n) in
    words ((64 + length it) ∷ 0 ∷ 0 ∷ notice_destination n dst ∷ 0 ∷ 0 ∷ 0 ∷ notice_last n ∷ [])
    ++ it
