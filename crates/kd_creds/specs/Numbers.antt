-- Numbers of a configuration.
use Rattle.std.specs.Prelude.{ℕ, Bool, ◌-◌, ◌&&◌, nat_le, if◌then◌else◌, List, length, map, Option, Some, None}
use Rattle.std.specs.Int.Digits.{number_from_digits}
use Rattle.kd_types.specs.Words.{all_of}
use Rattle.kd_name.specs.Names.{is_digit}

-- what the digits write, the highest first
unfoldable pub digits_value : List ℕ → ℕ
digits_value word = number_from_digits 10 (map (λ c. c - 48) word)

-- one to ten digits, leading zeros among them
abbrev pub is_digits : List ℕ → Bool
is_digits word = nat_le 1 (length word) && nat_le (length word) 10 && all_of is_digit word

-- the number, where 32 bits hold it
abbrev pub in_32_bits : ℕ → Option ℕ
in_32_bits n = if nat_le n 4294967295 then Some n else None

-- the number that a word writes, if it writes one of 32 bits
unfoldable pub digits_number : List ℕ → Option ℕ
digits_number word =
    if is_digits word && nat_le (digits_value word) 4294967295 then Some (digits_value word)
    else None
