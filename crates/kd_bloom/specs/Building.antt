-- Filters and masks as they are built, string by string.
use Rattle.std.specs.Prelude.{ℕ, List}
use Rattle.kd_bloom.specs.Bloom.{IsFilter, IsMask}

-- a filter that is being built
pub record FilterSoFar : Type 0 where
  pub size : ℕ
  pub hashes : ℕ
  pub generation : ℕ
  pub bytes : List ℕ

-- it is the filter of the strings that were added
abbrev pub HasStrings : FilterSoFar → List (List ℕ) → Type 0
HasStrings f strings = IsFilter f.size f.hashes f.generation strings f.bytes

-- a mask that is being built
pub record MaskSoFar : Type 0 where
  pub size : ℕ
  pub hashes : ℕ
  pub generations : List (List ℕ)

-- it is the mask of the strings that were added
abbrev pub MasksStrings : MaskSoFar → List (List ℕ) → Type 0
MasksStrings m strings = IsMask m.size m.hashes strings m.generations
