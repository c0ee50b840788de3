-- The reading of images from left to right: at each place what the bytes before it allow to stand
-- there.
use Rattle.std.specs.Prelude.{ℕ, ◌+◌, ◌-◌, ◌%◌, ◌^◌, Bool, true, false, not, ◌&&◌, ◌==◌, nat_lt, if◌then◌else◌, List, [], ◌∷◌, ◌++◌, length, take, drop, Option, Some, None, Result, Ok, Err, is_none, option_map}
use Rattle.std.specs.Int.{cast_signed, w64}
use Rattle.std.specs.Str.{is_utf8}
use Rattle.kd_types.specs.Flags.{has_only}
use Rattle.kd_types.specs.Words.{is_empty}
use Rattle.kd_types.specs.declared.reply_error.ReplyError.{ReplyError}
use Rattle.kd_types.specs.declared.reply_error.ReplyError.TheVariants.{Bad}
use Rattle.kd_item.specs.Spelling.{Entry, number, padding}
use Rattle.kd_item.specs.Reading.{item_at, entries, left_over, placed, are_zeros}
use Rattle.kd_image.specs.declared.notice.Notice.{Notice}
use Rattle.kd_image.specs.declared.notice.Notice.TheVariants.{IdAdd, IdRemove, NameAdd, NameRemove, NameChange, ReplyTimeout, ReplyDead}
use Rattle.kd_image.specs.declared.header.Header.{Header}
use Rattle.kd_image.specs.declared.image.Image.{Image}
use Rattle.kd_image.specs.Items.{Contents, begins, padded_length, rising}
use Rattle.kd_image.specs.Images.{notice_destination, notice_last}

-- where the header breaks the format, if it does: the size word where it isn't the size of a header
-- and items that the bytes have, the flags where one is unknown
unfoldable pub header_break : List ℕ → Option ℕ
header_break bytes =
    if nat_lt (length bytes) 8 then Some 0
    else if nat_lt (number bytes) 64 then Some 0
    else if nat_lt (length bytes) (number bytes) then Some 0
    else if not (number bytes % 8 == 0) then Some 0
    else if has_only (number (drop 8 bytes)) 7 then None
    else Some 8

-- the words of a header
abbrev pub header_of : List ℕ → Header
header_of bytes = record {
  size = number bytes;
  flags = number (drop 8 bytes);
  priority = number (drop 16 bytes);
  dst = number (drop 24 bytes);
  source = number (drop 32 bytes);
  payload_type = number (drop 40 bytes);
  cookie = number (drop 48 bytes);
  last = number (drop 56 bytes);
}

-- what no item says
abbrev pub blank : Contents
blank = record {
  creds = None;
  names = [];
  description = None;
  moment = None;
  name = None;
  lengths = [];
  range = None;
}

-- how far the items have come: whether none was of this kind or of one that stands behind it
abbrev pub no_payload : Contents → Bool
no_payload c = is_empty c.lengths && is_none c.range

abbrev pub no_name : Contents → Bool
no_name c = is_none c.name && no_payload c

abbrev pub no_moment : Contents → Bool
no_moment c = is_none c.moment && no_name c

abbrev pub no_description : Contents → Bool
no_description c = is_none c.description && no_moment c

abbrev pub no_item : Contents → Bool
no_item c = is_none c.creds && (is_empty c.names && no_description c)

-- what is said with an item, if it was taken
abbrev pub if_taken : Bool → Contents → Option Contents
if_taken true c = Some c
if_taken false c = None

-- each item that may follow, and what the items say with it
unfoldable pub with_creds : Contents → List ℕ → Option Contents
with_creds c body =
    if not (no_item c) then None
    else if not (length body == 24) then None
    else if not (nat_lt (number body) (2 ^ 32)) then None
    else if not (nat_lt (number (drop 8 body)) (2 ^ 32)) then None
    else if not (nat_lt (number (drop 16 body)) 2) then None
    else Some (record c {
      creds =
          Some (record {
            uid = number body;
            gid = number (drop 8 body);
            privileged = number (drop 16 body) == 1;
          });
    })

-- a name stands behind those before it in byte order
unfoldable pub with_owned : Contents → List ℕ → Option Contents
with_owned c body =
    if not (no_description c) then None
    else if not (is_utf8 body) then None
    else if not (rising (c.names ++ body ∷ [])) then None
    else Some (record c { names = c.names ++ body ∷ [] })

unfoldable pub with_description : Contents → List ℕ → Option Contents
with_description c body =
    if not (no_description c) then None
    else if nat_lt 255 (length body) then None
    else if not (is_utf8 body) then None
    else Some (record c { description = Some body })

unfoldable pub with_moment : Contents → List ℕ → Option Contents
with_moment c body =
    if not (no_moment c) then None
    else if not (length body == 8) then None
    else Some (record c { moment = Some (number body) })

unfoldable pub with_name : Contents → List ℕ → Option Contents
with_name c body =
    if not (no_name c) then None
    else if not (is_utf8 body) then None
    else Some (record c { name = Some body })

-- a payload's bytes begin behind those of the payloads before it; a message has at most 16
unfoldable pub with_off : ℕ → Contents → List ℕ → Option Contents
with_off size c body =
    if not (length body == 16) then None
    else if not (nat_lt (length c.lengths) 16) then None
    else if not (number (drop 8 body) == begins size c.lengths) then None
    else Some (record c { lengths = c.lengths ++ number body ∷ [] })

unfoldable pub with_shared : Contents → List ℕ → Option Contents
with_shared c body =
    if not (is_none c.range) then None
    else if not (length body == 16) then None
    else Some (record c {
      range =
          Some (record {
            place = length c.lengths;
            start = number body;
            length = number (drop 8 body);
          });
    })

unfoldable pub with_item : ℕ → Contents → Entry → Option Contents
with_item size c e =
    if e.kind == 21 then with_creds c e.body
    else if e.kind == 22 then with_owned c e.body
    else if e.kind == 10 then with_description c e.body
    else if e.kind == 23 then with_moment c e.body
    else if e.kind == 3 then with_name c e.body
    else if e.kind == 19 then with_off size c e.body
    else if e.kind == 20 then with_shared c e.body
    else None

-- the items, each with its place, and then bytes that are no item, up to the end of a header and
-- items of so many bytes
abbrev pub read_on : ℕ → Contents → List (Entry × ℕ) → List ℕ → Result Contents ReplyError
read_on size c [] left = if is_empty left then Ok c else Err (Bad (size - length left))
read_on size c (x ∷ xs) left =
    elim (with_item size c x.0) [ None ↦ Err (Bad x.1) | Some d ↦ read_on size d xs left ]

-- what the items say that stand behind the header
unfoldable pub contents_in : ℕ → List ℕ → Result Contents ReplyError
contents_in size area = read_on size blank (placed 64 (entries area)) (left_over area)

-- a payload of so many bytes with its zeros, and the bytes behind
unfoldable pub payload_at : ℕ → List ℕ → Option (List ℕ × List ℕ)
payload_at n bytes =
    let parts : List ℕ × List ℕ = (take n bytes, drop (padded_length n) bytes) in
    if nat_lt (length bytes) (padded_length n) then None
    else if are_zeros (take (padding n) (drop n bytes)) then Some parts
    else None

-- payloads of these lengths from a place on, to the end of the bytes; `done` are those before it
abbrev pub payloads_from : List (List ℕ) → ℕ → List ℕ → List ℕ → Result (List (List ℕ)) ReplyError
payloads_from done at [] bytes = if is_empty bytes then Ok done else Err (Bad at)
payloads_from done at (n ∷ ns) bytes =
    elim (payload_at n bytes) [
      | None ↦ Err (Bad at)
      | Some x ↦ payloads_from (done ++ x.0 ∷ []) (at + padded_length n) ns x.1
    ]

-- the id in the item of an id notice
abbrev pub id_in : List ℕ → Option ℕ
id_in body = if length body == 8 then Some (number body) else None

-- old and new owner, and the name, in the item of a name notice
unfoldable pub owners_in : List ℕ → Option (ℕ × ℕ × List ℕ)
owners_in body =
    if nat_lt (length body) 16 then None
    else if is_utf8 (drop 16 body) then Some (number body, number (drop 8 body), drop 16 body)
    else None

-- the notice of an item, if it is one; a notice of a reply has its cookie in the header's last word
unfoldable pub notice_of : ℕ → Entry → Option Notice
notice_of last e =
    if e.kind == 12 then option_map IdAdd (id_in e.body)
    else if e.kind == 13 then option_map IdRemove (id_in e.body)
    else if e.kind == 14 then option_map (λ o. NameAdd o.0 o.1 o.2) (owners_in e.body)
    else if e.kind == 15 then option_map (λ o. NameRemove o.0 o.1 o.2) (owners_in e.body)
    else if e.kind == 16 then option_map (λ o. NameChange o.0 o.1 o.2) (owners_in e.body)
    else if e.kind == 17 then (if is_empty e.body then Some (ReplyTimeout last) else None)
    else if e.kind == 18 then (if is_empty e.body then Some (ReplyDead last) else None)
    else None

-- whether the header is that of this notice
abbrev pub is_header_of : Header → Notice → Bool
is_header_of h n =
    h.flags == 0
    && (h.priority == 0
    && (h.source == 0
    && (h.payload_type == 0
    && (h.cookie == 0
    && (h.dst == notice_destination n h.dst && h.last == notice_last n)))))

-- the notice behind a header, and the bytes behind its item
unfoldable pub notice_in : Header → List ℕ → Option (Notice × List ℕ)
notice_in h area = elim (item_at area) [
  | None ↦ None
  | Some x ↦ elim (notice_of h.last x.0) [
    | None ↦ None
    | Some n ↦ if is_header_of h n then Some (n, x.1) else None
  ]
]

-- what an image of a message says
abbrev pub message_value : Header → Contents → List (List ℕ) → Image
message_value h c payloads = record {
  size = h.size;
  flags = h.flags;
  priority = cast_signed w64 h.priority;
  dst = h.dst;
  source = h.source;
  payload_type = h.payload_type;
  cookie = h.cookie;
  last = h.last;
  attached = record {
    creds = c.creds;
    names = c.names;
    description = c.description;
    moment = c.moment;
  };
  dst_name = c.name;
  payloads = payloads;
  shared = c.range;
  notice = None;
}

-- what an image of a notice says
abbrev pub notice_value : Header → Notice → Image
notice_value h n = record (message_value h blank []) { notice = Some n }

-- a message: its items, then its payloads
unfoldable pub message_reading : Header → List ℕ → List ℕ → Result Image ReplyError
message_reading h area behind = elim (contents_in h.size area) [
  | Err e ↦ Err e
  | Ok c ↦ elim (payloads_from [] h.size c.lengths behind) [
    | Err e ↦ Err e
    | Ok payloads ↦ Ok (message_value h c payloads)
  ]
]

-- a notice has one item and no payload
unfoldable pub notice_reading : Header → Notice → List ℕ → List ℕ → Result Image ReplyError
notice_reading h n rest behind =
    if not (is_empty rest) then Err (Bad (h.size - length rest))
    else if not (is_empty behind) then Err (Bad h.size)
    else Ok (notice_value h n)

-- what the bytes say behind the header, or where they break the format
unfoldable pub behind_header : Header → List ℕ → List ℕ → Result Image ReplyError
behind_header h area behind =
    elim (notice_in h area) [
      | Some x ↦ notice_reading h x.0 x.1 behind
      | None ↦ message_reading h area behind
    ]

-- what an image says, or where bytes break its format
unfoldable pub reading : List ℕ → Result Image ReplyError
reading bytes =
    let area = drop 64 (take (number bytes) bytes) in
    let behind = drop (number bytes) bytes in
    elim (header_break bytes) [
      | Some at ↦ Err (Bad at)
      | None ↦ behind_header (header_of bytes) area behind
    ]
