-- Words of flags, as sets of bits.
use Rattle.std.specs.Prelude.{ℕ, Bool, ◌==◌, bit_and}

-- the word has every bit of the mask
abbrev pub has_bits : ℕ → ℕ → Bool
has_bits word mask = bit_and word mask == mask

-- the word has no bit beside those of the mask
abbrev pub has_only : ℕ → ℕ → Bool
has_only word mask = bit_and word mask == word
