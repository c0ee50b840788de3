-- What items are, and the one spelling of each list of them.
use Rattle.std.specs.Prelude.{◌≡◌, ℕ, ◌+◌, ◌-◌, ◌%◌, ◌^◌, ◌<◌, List, ◌++◌, length, take, drop, replicate}
use Rattle.std.specs.List.{flat_map, AllByRecursion}
use Rattle.byteorder.specs.Endian.{little_bytes, little_number}

-- an item without its place
pub record Entry : Type 0 where
  pub kind : ℕ
  pub body : List ℕ

-- how many zeros follow n bytes, up to the next multiple of 8
abbrev pub padding : ℕ → ℕ
padding n = (8 - n % 8) % 8

-- the eight bytes of a number, the lowest first
unfoldable pub word : ℕ → List ℕ
word n = little_bytes 8 n

-- the words of several numbers, one after the other
abbrev pub words : List ℕ → List ℕ
words ns = flat_map word ns

-- how many bytes an item with a body of n bytes takes
abbrev pub item_length : ℕ → ℕ
item_length n = 16 + n + padding (16 + n)

-- the number of the first eight bytes
unfoldable pub number : List ℕ → ℕ
number bytes = little_number 8 bytes

-- the size of header and body, the kind, the body, zeros
abbrev pub spelling : Entry → List ℕ
spelling e =
    word (16 + length e.body) ++ word e.kind ++ e.body ++ replicate (padding (16 + length e.body)) 0

abbrev pub spellings : List Entry → List ℕ
spellings es = flat_map spelling es

-- what has a spelling
pub record Fits (e : Entry) : Type 0 where
  pub kind : e.kind < 2 ^ 64
  pub size : 16 + length e.body < 2 ^ 64

abbrev pub AreItems : List Entry → Type 0
AreItems es = AllByRecursion Fits es

-- whole items stand before this place, and none begins there
pub record BreaksAt (bytes : List ℕ) (at : ℕ) : Type 0 where
  pub inside : at < length bytes
  pub before : (es : List Entry) × AreItems es × (take at bytes ≡ spellings es)
  pub here : (e : Entry) (rest : List ℕ) → Fits e → drop at bytes ≡ spelling e ++ rest → ⊥
