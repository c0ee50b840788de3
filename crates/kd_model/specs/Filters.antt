-- How large the Bloom filters of a bus are, and how many bits a string sets in them.
use Rattle.std.specs.Prelude.{ℕ, Bool, ◌%◌, ◌&&◌, ◌==◌, nat_le}

-- bytes of a filter: a multiple of 8 from 8 to 512
abbrev pub is_bloom_size : ℕ → Bool
is_bloom_size size = nat_le 8 size && nat_le size 512 && size % 8 == 0

-- bits that a string sets: 1 to 8
abbrev pub is_hash_count : ℕ → Bool
is_hash_count hashes = nat_le 1 hashes && nat_le hashes 8
