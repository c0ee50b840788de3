-- Sets of bits, spelled as bytes: bit b is bit b mod 8, the least first, of byte b / 8.
use Rattle.std.specs.Prelude.{ℕ, zero, suc, ◌*◌, ◌/◌, ◌%◌, ◌-◌, ◌==◌, min, Bool, List, [], ◌∷◌, length, get_or, take, drop}
use Rattle.std.specs.Int.{bit_at}
use Rattle.std.specs.List.{range_with_len}
use Rattle.kd_model.specs.Words.{those, all_of}

-- bit b is set; past the bytes none is
unfoldable pub bit_is_set : List ℕ → ℕ → Bool
bit_is_set bytes b = bit_at (get_or bytes (b / 8) 0) (b % 8) == 1

-- the set: the numbers of the bits that are set, rising
unfoldable pub bit_numbers : List ℕ → List ℕ
bit_numbers bytes = those (bit_is_set bytes) (range_with_len 0 (8 * length bytes))

-- every number of the mask's set is in the filter's
unfoldable pub passes : List ℕ → List ℕ → Bool
passes filter mask = all_of (bit_is_set filter) (bit_numbers mask)

-- a filter of generation g is tested against the mask's generation g, or against its last one where
-- it has no such generation
abbrev pub tested : ℕ → List (List ℕ) → List ℕ
tested g generations = get_or generations (min g (length generations - 1)) []

-- whether a filter of generation g meets a mask of these generations
abbrev pub meets : List ℕ → ℕ → List (List ℕ) → Bool
meets filter g generations = passes filter (tested g generations)

-- each generation has so many bytes
abbrev pub has_filter_size : ℕ → List (List ℕ) → Bool
has_filter_size size = all_of (λ (g : List ℕ). length g == size)

-- n pieces of this size, one after the other
abbrev pub pieces : ℕ → ℕ → List ℕ → List (List ℕ)
pieces zero size bytes = []
pieces (suc n) size bytes = take size bytes ∷ pieces n size (drop size bytes)
