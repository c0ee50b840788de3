-- Where bytes break the format of images: behind the longest beginning of them that can still
-- become a whole image.
use Rattle.std.specs.Prelude.{◌≡◌, ◌⊎◌, ◌≤◌, ◌<◌, ◌%◌, ◌^◌, ℕ, ◌+◌, true, List, ◌++◌, length, take, drop, Err}
use Rattle.kd_types.specs.Flags.{has_only}
use Rattle.kd_types.specs.declared.reply_error.ReplyError.TheVariants.{Bad}
use Rattle.kd_item.specs.Spelling.{number, spelling, spellings}
use Rattle.kd_image.specs.declared.notice.Notice.{Notice}
use Rattle.kd_image.specs.Images.{notice_destination, notice_item, notice_last}
use Rattle.kd_image.specs.Items.{Contents, items}
use Rattle.kd_image.specs.Reading.{reading}
use Rattle.kd_image.specs.Said.{IsNotice}
use Rattle.kd_places.specs.Images.{BeginItems, BeginPayloads, CanBeTold}
use Rattle.kd_places.specs.Replies.{AreBytes}

-- ---- the header

-- the size word is the size of a header and of whole words behind it, and the bytes have as many
pub record SayFront (bytes : List ℕ) : Type 0 where
  pub word : 8 ≤ length bytes
  pub low : 64 ≤ number bytes
  pub high : number bytes ≤ length bytes
  pub eights : number bytes % 8 ≡ 0

-- the word at a place
abbrev pub word_in : ℕ → List ℕ → ℕ
word_in place bytes = number (drop place bytes)

-- its flags are known
abbrev pub KnowFlags : List ℕ → Type 0
KnowFlags bytes = has_only (word_in 8 bytes) 7 ≡ true

-- what the header says is for items, and what is behind that
abbrev pub area_in : List ℕ → List ℕ
area_in bytes = drop 64 (take (number bytes) bytes)

abbrev pub behind_in : List ℕ → List ℕ
behind_in bytes = drop (number bytes) bytes

-- the header is that of this notice
pub record HeadNotice (bytes : List ℕ) (n : Notice) : Type 0 where
  pub flags : word_in 8 bytes ≡ 0
  pub priority : word_in 16 bytes ≡ 0
  pub dst : word_in 24 bytes ≡ notice_destination n (word_in 24 bytes)
  pub source : word_in 32 bytes ≡ 0
  pub payload_type : word_in 40 bytes ≡ 0
  pub cookie : word_in 48 bytes ≡ 0
  pub last : word_in 56 bytes ≡ notice_last n

-- ---- beginnings

-- all items of a message, and then payloads of the lengths that they tell
pub record BeginBehind (bytes : List ℕ) (place : ℕ) : Type 0 where
  pub told : Contents
  pub can : CanBeTold (number bytes) told
  pub spelled : area_in bytes ≡ spellings (items (number bytes) told)
  pub payloads : BeginPayloads (number bytes) told.lengths (behind_in bytes) place

-- the item of a notice
pub record BeginNotice (bytes : List ℕ) (place : ℕ) : Type 0 where
  pub notice : Notice
  pub can : IsNotice notice
  pub head : HeadNotice bytes notice
  pub rest : List ℕ
  pub spelled : area_in bytes ≡ spelling (notice_item notice) ++ rest
  pub ends : place ≡ 64 + length (spelling (notice_item notice))

-- up to this place the bytes have what some image begins with: the size word, or the header and
-- items of a message, or all of them and payloads, or the header and the item of a notice
abbrev pub BeginImage : List ℕ → ℕ → Type 0
BeginImage bytes place =
    (place ≡ 8)
    ⊎ ((KnowFlags bytes × BeginItems (number bytes) (area_in bytes) place)
    ⊎ ((KnowFlags bytes × BeginBehind bytes place)
    ⊎ (KnowFlags bytes × BeginNotice bytes place)))

-- what stands before the place can still become a whole image, and no further item or payload that
-- does stands behind it
pub record BreakImageAt (bytes : List ℕ) (at : ℕ) : Type 0 where
  pub size : SayFront bytes
  pub before : BeginImage bytes at
  pub here : (place : ℕ) → BeginImage bytes place → place ≤ at

-- the first place that breaks the format; it is 0 where the size word says what can't be
abbrev pub IsImagePlace : List ℕ → ℕ → Type 0
IsImagePlace bytes at = ((at ≡ 0) × (SayFront bytes → ⊥)) ⊎ BreakImageAt bytes at

-- ---- the laws

-- the place that a reader of images answers is that one
abbrev pub ImagePlacesAreTrue : Type 0
ImagePlacesAreTrue =
    (bytes : List ℕ) (at : ℕ) → AreBytes bytes → length bytes < 2 ^ 64
    → reading bytes ≡ Err (Bad at) → IsImagePlace bytes at

-- and there is no other
abbrev pub ImagePlacesAreOne : Type 0
ImagePlacesAreOne =
    (bytes : List ℕ) (at other : ℕ) → IsImagePlace bytes at → IsImagePlace bytes other → at ≡ other
