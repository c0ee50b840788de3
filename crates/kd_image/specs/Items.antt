-- What the items of a message tell, and the items that tell it.
use Rattle.std.specs.Prelude.{ℕ, ◌+◌, Bool, true, false, ◌&&◌, List, [], ◌∷◌, ◌++◌, length, take, drop, map, Option, Some, None}
use Rattle.std.specs.List.{sum_by}
use Rattle.kd_model.specs.Words.{text_below}
use Rattle.kd_types.specs.declared.creds.Creds.{Creds}
use Rattle.kd_item.specs.Spelling.{Entry, padding, words}
use Rattle.kd_image.specs.declared.message.SealedRange.{SealedRange}
use Rattle.kd_image.specs.declared.message.Message.{Message}
use Rattle.kd_image.specs.declared.attached.Attached.{Attached}

-- so many bytes, and the zeros up to the next multiple of 8
abbrev pub padded_length : ℕ → ℕ
padded_length n = n + padding n

-- an item of this kind, whose body is some numbers and then a text
abbrev pub item : ℕ → List ℕ → List ℕ → Entry
item kind ns text = record { kind = kind; body = words ns ++ text }

abbrev pub flag : Bool → ℕ
flag true = 1
flag false = 0

-- the sender's credentials, as they were handed in
abbrev pub creds_item : Creds → Entry
creds_item c = item 21 (c.uid ∷ c.gid ∷ flag c.privileged ∷ []) []

-- a name that the sender owns
abbrev pub owned_item : List ℕ → Entry
owned_item name = item 22 [] name

-- names in byte order, each of them once
abbrev pub rising : List (List ℕ) → Bool
rising [] = true
rising (n ∷ []) = true
rising (n ∷ m ∷ ns) = text_below n m && rising (m ∷ ns)

abbrev pub description_item : List ℕ → Entry
description_item text = item 10 [] text

-- when it was sent
abbrev pub moment_item : ℕ → Entry
moment_item moment = item 23 (moment ∷ []) []

-- the name that it was sent to
abbrev pub name_item : List ℕ → Entry
name_item name = item 3 [] name

-- where the bytes of the payload begin that stands behind payloads of these lengths: behind the
-- header and items, which have so many bytes, and behind each of those payloads with its zeros
abbrev pub begins : ℕ → List ℕ → ℕ
begins size before = size + sum_by padded_length before

-- a payload of this length behind these
abbrev pub off_item : ℕ → List ℕ → ℕ → Entry
off_item size before n = item 19 (n ∷ begins size before ∷ []) []

-- an item for each payload
abbrev pub off_items : ℕ → List ℕ → List ℕ → List Entry
off_items size before [] = []
off_items size before (n ∷ ns) = off_item size before n ∷ off_items size (before ++ n ∷ []) ns

-- a range of sealed bytes that goes with the message
abbrev pub shared_item : SealedRange → Entry
shared_item r = item 20 (r.start ∷ r.length ∷ []) []

-- the item of the range among those of the payloads: behind as many as its place says
abbrev pub with_range : Option SealedRange → List Entry → List Entry
with_range None es = es
with_range (Some r) es = take r.place es ++ shared_item r ∷ drop r.place es

-- the item of what is there
abbrev pub maybe : {X : Type 0} → (X → Entry) → Option X → List Entry
maybe f None = []
maybe f (Some x) = f x ∷ []

-- what the items of a message tell; of its payloads the lengths
pub record Contents : Type 0 where
  pub creds : Option Creds
  pub names : List (List ℕ)
  pub description : Option (List ℕ)
  pub moment : Option ℕ
  pub name : Option (List ℕ)
  pub lengths : List ℕ
  pub range : Option SealedRange

-- what those of a message tell that has this attached
abbrev pub contents : Message → Attached → Contents
contents m a = record {
  creds = a.creds;
  names = a.names;
  description = a.description;
  moment = a.moment;
  name = m.dst_name;
  lengths = map length m.payloads;
  range = m.sealed;
}

-- the items of what is attached, in their order
abbrev pub attached_items : Contents → List Entry
attached_items c =
    maybe creds_item c.creds ++ map owned_item c.names ++ maybe description_item c.description
    ++ maybe moment_item c.moment

-- the items of a message whose header and items have so many bytes
abbrev pub items : ℕ → Contents → List Entry
items size c =
    attached_items c ++ maybe name_item c.name ++ with_range c.range (off_items size [] c.lengths)
