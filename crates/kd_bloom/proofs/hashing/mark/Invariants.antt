use Rattle.std.proofs.Common.{◌≡◌, ◌||◌, ℕ, length}
use Rattle.kd_model.specs.Words.{contains}
use Rattle.kd_bloom.specs.Bits.{bit_is_set}
use Rattle.kd_bloom.specs.Bloom.{digest_bits}
use Rattle.kd_bloom.proofs.hashing.mark.Given as goal

-- the bits of the hashes so far are set
abbrev pub invariant-hashes : goal.invariant-hashes
invariant-hashes l = (length l.bytes ≡ length l.initial.bytes) × ((b : ℕ) → bit_is_set l.bytes b ≡ (bit_is_set l.initial.bytes b || contains b (digest_bits (length l.initial.bytes) l.j l.digest)))
