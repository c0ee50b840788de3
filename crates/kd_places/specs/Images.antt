-- Where the items and the payloads of a message break the format of images: behind the longest
-- beginning of them that can still become those of a whole image.
use Rattle.std.specs.Prelude.{◌≡◌, ◌≤◌, ◌<◌, ◌^◌, ℕ, ◌+◌, true, List, [], ◌∷◌, ◌++◌, length, map, take, Err, IfSome}
use Rattle.std.specs.List.{AllByRecursion}
use Rattle.kd_item.specs.Spelling.{spellings}
use Rattle.kd_types.specs.declared.reply_error.ReplyError.TheVariants.{Bad}
use Rattle.kd_image.specs.Images.{laid}
use Rattle.kd_image.specs.Items.{Contents, begins, items, rising}
use Rattle.kd_image.specs.Reading.{contents_in, payloads_from}
use Rattle.kd_image.specs.Said.{IsText, IsWord}
use Rattle.kd_places.specs.Replies.{AreBytes}

-- ---- items

-- the numbers in the items of payloads of these lengths, behind those before them, are of 64 bits
abbrev pub AreOffs : ℕ → List ℕ → List ℕ → Type 0
AreOffs size before [] = Unit {0}
AreOffs size before (n ∷ ns) =
    IsWord n × IsWord (begins size before) × AreOffs size (before ++ n ∷ []) ns

-- items can tell this behind a header that says so many bytes for itself and them; where its last
-- payload would end isn't asked
pub record CanBeTold (size : ℕ) (c : Contents) : Type 0 where
  pub creds : IfSome c.creds (λ x. (x.uid < 2 ^ 32) × (x.gid < 2 ^ 32))
  pub names : AllByRecursion IsText c.names
  pub order : rising c.names ≡ true
  pub description : IfSome c.description (λ t. (length t ≤ 255) × IsText t)
  pub moment : IfSome c.moment IsWord
  pub name : IfSome c.name IsText
  pub few : length c.lengths ≤ 16
  pub offs : AreOffs size [] c.lengths
  pub range : IfSome c.range (λ r. (r.place ≤ length c.lengths) × IsWord r.start × IsWord r.length)

-- the bytes behind a header have, up to this place, whole items that tell something, in their order
pub record BeginItems (size : ℕ) (area : List ℕ) (place : ℕ) : Type 0 where
  pub told : Contents
  pub can : CanBeTold size told
  pub rest : List ℕ
  pub spelled : area ≡ spellings (items size told) ++ rest
  pub ends : place ≡ 64 + length (spellings (items size told))

-- what stands before the place tells something, and no further item that does stands behind it
pub record BreakItemsAt (size : ℕ) (area : List ℕ) (at : ℕ) : Type 0 where
  pub before : BeginItems size area at
  pub here : (place : ℕ) → BeginItems size area place → place ≤ at

-- the place that a reader of the items answers is that one
abbrev pub ItemPlacesAreTrue : Type 0
ItemPlacesAreTrue =
    (size at : ℕ) (area : List ℕ) → AreBytes area → 64 + length area ≡ size → size < 2 ^ 64
    → contents_in size area ≡ Err (Bad at) → BreakItemsAt size area at

-- ---- payloads

-- the bytes behind the items have, up to this place, the first payloads of these lengths, each with
-- its zeros
pub record BeginPayloads (size : ℕ) (lengths bytes : List ℕ) (place : ℕ) : Type 0 where
  pub payloads : List (List ℕ)
  pub long : map length payloads ≡ take (length payloads) lengths
  pub rest : List ℕ
  pub spelled : bytes ≡ laid payloads ++ rest
  pub ends : place ≡ size + length (laid payloads)

pub record BreakPayloadsAt (size : ℕ) (lengths bytes : List ℕ) (at : ℕ) : Type 0 where
  pub before : BeginPayloads size lengths bytes at
  pub here : (place : ℕ) → BeginPayloads size lengths bytes place → place ≤ at

-- the place that a reader of the payloads answers is that one
abbrev pub PayloadPlacesAreTrue : Type 0
PayloadPlacesAreTrue =
    (size at : ℕ) (lengths bytes : List ℕ)
    → payloads_from [] size lengths bytes ≡ Err (Bad at) → BreakPayloadsAt size lengths bytes at
