-- Worked examples, as theorems that compute.
use Rattle.std.proofs.Common.{◌≡◌, true, false, [], ◌∷◌, refl}
use Rattle.sha2.specs.Sha256.{sha256, digest_bytes, hash_after, compress, rounds, schedule, first_words}
use Rattle.kd_bloom.specs.Bits.{bit_is_set, bit_numbers, passes, meets}
use Rattle.kd_bloom.specs.Bloom.{string_bits, digest_bit}

-- 5 is among the bits of 7, and not of 6; nothing is among those of anything
common : passes (7 ∷ []) (5 ∷ []) ≡ true
unfolding passes bit_numbers bit_is_set
common = refl

missing : passes (6 ∷ []) (5 ∷ []) ≡ false
unfolding passes bit_numbers bit_is_set
missing = refl

nothing : passes (6 ∷ []) (0 ∷ []) ≡ true
unfolding passes bit_numbers bit_is_set
nothing = refl

-- the bits of the filter of `abc` in generation 1
filter_bits : bit_numbers (0 ∷ 0 ∷ 0 ∷ 0x40 ∷ 8 ∷ 4 ∷ 0 ∷ 0x80 ∷ []) ≡ 30 ∷ 35 ∷ 42 ∷ 63 ∷ []
unfolding bit_numbers bit_is_set
filter_bits = refl

-- a mask of two generations is met by generation 0 of the first filter, and not by generation 7
first_generation : meets (1 ∷ []) 0 ((1 ∷ []) ∷ (3 ∷ []) ∷ []) ≡ true
unfolding passes bit_numbers bit_is_set
first_generation = refl

last_generation : meets (1 ∷ []) 7 ((1 ∷ []) ∷ (3 ∷ []) ∷ []) ≡ false
unfolding passes bit_numbers bit_is_set
last_generation = refl

-- `abc` at 8 bytes and 3 hashes
abc : string_bits 8 3 1 (97 ∷ 98 ∷ 99 ∷ []) ≡ 63 ∷ 42 ∷ 30 ∷ 35 ∷ []
unfolding string_bits digest_bit sha256 digest_bytes hash_after compress rounds schedule first_words
abc = refl
