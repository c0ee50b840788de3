-- Names and labels: texts that are cut at their dots.
use Rattle.std.specs.Prelude.{ℕ, Bool, false, not, ◌&&◌, ◌||◌, List, [], ◌∷◌, length, nat_le, ◌==◌}
use Rattle.std.specs.List.{slice_split}
use Rattle.kd_model.specs.Words.{all_of, is_empty}

-- the pieces between the dots; a text without a dot is its one piece
abbrev pub elements : List ℕ → List (List ℕ)
elements text = slice_split (λ c. c == 46) text

-- `0` to `9`
abbrev pub is_digit : ℕ → Bool
is_digit c = nat_le 48 c && nat_le c 57

-- `A` to `Z` and `a` to `z`
abbrev pub is_letter : ℕ → Bool
is_letter c = (nat_le 65 c && nat_le c 90) || (nat_le 97 c && nat_le c 122)

-- a letter, a digit, `_` or `-`
abbrev pub is_name_byte : ℕ → Bool
is_name_byte c = is_letter c || is_digit c || c == 95 || c == 45

-- the first byte is a digit
abbrev pub begins_with_digit : List ℕ → Bool
begins_with_digit [] = false
begins_with_digit (c ∷ cs) = is_digit c

-- one or more bytes of names, of which the first is no digit
abbrev pub is_element : List ℕ → Bool
is_element e = not (is_empty e) && not (begins_with_digit e) && all_of is_name_byte e

-- two or more elements with dots between them, in at most 255 bytes
abbrev pub is_name : List ℕ → Bool
is_name text =
    nat_le (length text) 255 && nat_le 2 (length (elements text))
    && all_of is_element (elements text)

-- a byte of names or a dot
abbrev pub is_label_byte : ℕ → Bool
is_label_byte c = is_name_byte c || c == 46

-- 1 to 64 bytes of names and dots
abbrev pub is_label : List ℕ → Bool
is_label text = nat_le 1 (length text) && nat_le (length text) 64 && all_of is_label_byte text
