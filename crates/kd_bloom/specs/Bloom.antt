-- Which bits a string has, and what filters and masks of strings are.
use Rattle.std.specs.Prelude.{◌≡◌, ℕ, ◌+◌, ◌*◌, ◌%◌, ◌<◌, ◌≤◌, ◌==◌, nat_le, min, Bool, ◌&&◌, ◌||◌, List, [], ◌∷◌, length, get_or, drop, map}
use Rattle.std.specs.List.{range_with_len, flat_map, Contains}
use Rattle.byteorder.specs.Endian.{big_number}
use Rattle.sha2.specs.Sha256.{sha256}
use Rattle.kd_model.specs.Words.{contains, some_of}
use Rattle.kd_bloom.specs.Bits.{bit_is_set}

-- a bus's size of filters, in bytes, is a multiple of 8 from 8 to 512, and it has 1 to 8 hashes
abbrev pub is_param : ℕ → ℕ → Bool
is_param size hashes =
    size % 8 == 0 && nat_le 8 size && nat_le size 512 && nat_le 1 hashes && nat_le hashes 8

-- a mask has one to four generations
abbrev pub is_mask_length : ℕ → ℕ → Bool
is_mask_length size length = some_of (λ n. length == n * size) (1 ∷ 2 ∷ 3 ∷ 4 ∷ [])

-- word j of a digest, the highest byte first, as the number of a bit
unfoldable pub digest_bit : ℕ → List ℕ → ℕ → ℕ
digest_bit size digest j = big_number 4 (drop (4 * j) digest) % (8 * size)

-- how many hashes count in a generation: each one has one more, up to the eight words of a digest
abbrev pub hash_count : ℕ → ℕ → ℕ
hash_count hashes generation = min 8 (hashes + generation)

-- the numbers of the first so many hashes of a digest
abbrev pub digest_bits : ℕ → ℕ → List ℕ → List ℕ
digest_bits size count digest = map (digest_bit size digest) (range_with_len 0 count)

-- the numbers of a string in a generation
unfoldable pub string_bits : ℕ → ℕ → ℕ → List ℕ → List ℕ
string_bits size hashes generation string =
    digest_bits size (hash_count hashes generation) (sha256 string)

-- the bits of the new bytes are those of the old ones and these
abbrev pub AddsBits : List ℕ → List ℕ → List ℕ → Type 0
AddsBits numbers old new =
    (b : ℕ) → bit_is_set new b ≡ (bit_is_set old b || contains b numbers)

-- the bytes are the filter of these strings: its set is the union of theirs
pub record IsFilter (size hashes generation : ℕ) (strings : List (List ℕ)) (bytes : List ℕ) : Type 0
  where
    pub sized : length bytes ≡ size
    pub bits :
        (b : ℕ)
        → bit_is_set bytes b ≡ contains b (flat_map (string_bits size hashes generation) strings)

-- the generations are the mask of these strings: each is their filter of that generation
pub record IsMask (size hashes : ℕ) (strings : List (List ℕ)) (generations : List (List ℕ)) : Type 0
  where
    pub each :
        (i : ℕ) → i < length generations → IsFilter size hashes i strings (get_or generations i [])

-- the first k generations have the bits of a digest too, the others are as they were
pub record Marked (size hashes k : ℕ) (digest : List ℕ) (olds news : List (List ℕ)) : Type 0 where
  pub count : length news ≡ length olds
  pub sized : (i : ℕ) → i < length olds → length (get_or news i []) ≡ size
  pub done :
      (i : ℕ) → i < k → i < length olds
      → AddsBits (digest_bits size (hash_count hashes i) digest)
      (get_or olds i []) (get_or news i [])
  pub left : (i : ℕ) → k ≤ i → get_or news i [] ≡ get_or olds i []

-- every string of the one list is in the other
abbrev pub AreAmong : List (List ℕ) → List (List ℕ) → Type 0
AreAmong some all = (s : List ℕ) → Contains some s → Contains all s
