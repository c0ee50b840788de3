-- How numbers, flags and bytes stand in a line.
use Rattle.std.specs.Prelude.{ℕ, zero, ℤ, pos, ◌+◌, ◌/◌, ◌%◌, Bool, not, ◌&&◌, ◌==◌, nat_lt, if◌then◌else◌, List, [], ◌∷◌, ◌++◌, codes, decimal}
use Rattle.std.specs.Fmt.{signed_decimal}
use Rattle.std.specs.List.{flat_map}
use Rattle.kd_types.specs.Flags.{has_bits}

-- the digit of a number below 16: `0` is 48, `a` is 97
abbrev pub hex_digit : ℕ → ℕ
hex_digit n = if nat_lt n 10 then 48 + n else 87 + n

-- a byte that stands for itself within quotes: a printed one of ASCII, but `"` and `\`
abbrev pub is_plain : ℕ → Bool
is_plain b = nat_lt 31 b && nat_lt b 127 && not (b == 34) && not (b == 92)

-- a byte within quotes: as it is, or as `\x` and two digits
abbrev pub marked : ℕ → List ℕ
marked b =
    if is_plain b then b ∷ []
    else codes "\\x" ++ hex_digit (b / 16) ∷ hex_digit (b % 16) ∷ []

-- a blank, and bytes within quotes
unfoldable pub text : List ℕ → List ℕ
text bytes = codes " \"" ++ flat_map marked bytes ++ codes "\""

-- a blank, a name, and what it is
abbrev pub named : List ℕ → List ℕ → List ℕ
named name value = codes " " ++ name ++ codes "=" ++ value

-- a field and its number
unfoldable pub field : List ℕ → ℕ → List ℕ
field name n = named name (decimal n)

-- a field that is left out where it is 0
unfoldable pub some_field : List ℕ → ℕ → List ℕ
some_field name n = if n == 0 then [] else field name n

-- the same of a number that may be negative
unfoldable pub signed_field : List ℕ → ℤ → List ℕ
signed_field name (pos zero) = []
signed_field name n = named name (signed_decimal n)

-- an id; all ones stand for any
abbrev pub id_text : ℕ → List ℕ
id_text n = if n == 18446744073709551615 then codes "any" else decimal n

unfoldable pub id_field : List ℕ → ℕ → List ℕ
id_field name n = named name (id_text n)

-- an id that is left out where it is 0
unfoldable pub some_id_field : List ℕ → ℕ → List ℕ
some_id_field name n = if n == 0 then [] else id_field name n

-- a word, and bytes within quotes
unfoldable pub word_text : List ℕ → List ℕ → List ℕ
word_text word bytes = word ++ text bytes

-- a word, and one field
unfoldable pub word_field : List ℕ → List ℕ → ℕ → List ℕ
word_field word name n = word ++ field name n

-- a word, and one id
unfoldable pub word_id : List ℕ → ℕ → List ℕ
word_id word id = word ++ id_field (codes "id") id

-- a word, the old owner of a name and the new one, and the name
unfoldable pub change_text : List ℕ → ℕ → ℕ → List ℕ → List ℕ
change_text word old new name =
    word ++ id_field (codes "old") old ++ id_field (codes "new") new ++ text name

-- a flag where it is set
unfoldable pub flag : List ℕ → Bool → List ℕ
flag name is_set = if is_set then codes " +" ++ name else []

-- the flag of this bit of a word
unfoldable pub flag_of : ℕ → List ℕ → ℕ → List ℕ
flag_of word name mask = flag name (has_bits word mask)
