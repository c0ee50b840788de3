-- Bytes packed into words of 64 bits.
use Rattle.std.specs.Prelude.{◌≡◌, ℕ, ◌+◌, ◌*◌, ◌/◌, ◌≤◌, ◌==◌, bit_and, Bool, List, length, get_or, take}
use Rattle.std.specs.List.{flat_map, list_all, zip}
use Rattle.byteorder.specs.Endian.{little_bytes}

-- a word's eight bytes, the lowest first
unfoldable pub packed_word : ℕ → List ℕ
packed_word w = little_bytes 8 w

-- the bytes of words, each word's lowest first
unfoldable pub unpacked : List ℕ → List ℕ
unpacked words = flat_map packed_word words

-- the words hold so many bytes, and zeros after them
pub record IsPacked (size : ℕ) (words : List ℕ) : Type 0 where
  pub count : length words ≡ (size + 7) / 8
  pub zeros : (k : ℕ) → size ≤ k → get_or (unpacked words) k 0 ≡ 0

-- the words hold these bytes, and zeros after them
pub record Packs (words bytes : List ℕ) : Type 0 where
  pub front : take (length bytes) (unpacked words) ≡ bytes
  pub packed : IsPacked (length bytes) words

-- the words of one to four generations, each so many words wide
pub record IsWide (generations width : ℕ) (words : List ℕ) : Type 0 where
  pub count : length words ≡ generations * width
  pub some : 1 ≤ generations
  pub few : generations ≤ 4
  pub wide : 1 ≤ width
  pub narrow : width ≤ 64

-- the filter's word has every bit of the mask's
abbrev pub word_fits : ℕ × ℕ → Bool
word_fits p = bit_and p.0 p.1 == p.1

-- each word of the filter has every bit of the mask's word beside it
abbrev pub words_fit : List ℕ → List ℕ → Bool
words_fit filter mask = list_all word_fits (zip filter mask)

-- a block of the filter's words beside one of the mask's
abbrev pub block_fits : List ℕ × List ℕ → Bool
block_fits p = words_fit p.0 p.1

-- the same of words in blocks
abbrev pub blocks_fit : List (List ℕ) → List (List ℕ) → Bool
blocks_fit filter mask = list_all block_fits (zip filter mask)
