-- Whom the messages of a load are for. A bus of user 1000 has filters of 64 bytes and 8 hashes;
-- connection i has one rule, with the mask of one string: the letter t and the digit i mod 8. A
-- message to all has the filter of one such string.
use Rattle.std.specs.Prelude.{ℕ, ◌+◌, ◌%◌, ◌==◌, Bool, not, ◌&&◌, List, [], ◌∷◌, ◌++◌, codes, decimal, length, map, sum, flat_map}
use Rattle.std.specs.List.{range_with_len}
use Rattle.kd_model.specs.Words.{all_of, contains, those}
use Rattle.kd_bloom.specs.Bloom.{string_bits}
use Rattle.kd_load.specs.declared.message.Message.{Message}
use Rattle.kd_load.specs.declared.message.Target.{Target}
use Rattle.kd_load.specs.declared.message.Target.TheVariants.{All, One}
use Rattle.kd_load.specs.Load.{load}

-- ---- whom a message is for

-- the string of a digit
abbrev pub tag : ℕ → List ℕ
tag digit = codes "t" ++ (48 + digit) ∷ []

-- its bits in filters and masks
unfoldable pub tag_bits : ℕ → List ℕ
tag_bits digit = string_bits 64 8 0 (tag digit)

-- the filter of the one digit has all bits of the other one's mask
unfoldable pub tag_passes : ℕ → ℕ → Bool
tag_passes filter mask = all_of (λ b. contains b (tag_bits filter)) (tag_bits mask)

-- the digit of a connection's rule
abbrev pub digit_of : ℕ → ℕ
digit_of id = id % 8

-- the connection is in its audience, or is its destination; nobody is in the audience of what it
-- sent itself
abbrev pub is_aimed_at : ℕ → ℕ → Target → Bool
is_aimed_at id sender (All digit) = not (id == sender) && tag_passes digit (digit_of id)
is_aimed_at id sender (One one) = one == id

abbrev pub is_for : ℕ → Message → Bool
is_for id m = is_aimed_at id m.sender m.target

-- ---- how many are

-- how many of these messages are for the connection
abbrev pub count_for : ℕ → List Message → ℕ
count_for id ms = length (those (is_for id) ms)

-- how many messages are offered to it along a load, placed or not
unfoldable pub offered : (seed threads sends id : ℕ) → ℕ
offered seed threads sends id = count_for id (load seed threads sends)

-- of each connection, in the order of their ids
abbrev pub all_offered : (seed threads sends : ℕ) → List ℕ
all_offered seed threads sends = map (offered seed threads sends) (range_with_len 1 threads)

-- ---- the summary

-- a line of words
abbrev pub head_line : (seed threads sends : ℕ) → List ℕ
head_line seed threads sends =
    codes "storm " ++ decimal seed ++ codes " " ++ decimal threads ++ codes " " ++ decimal sends
    ++ 10 ∷ []

abbrev pub count_line : ℕ → ℕ → List ℕ
count_line id count =
    codes "conn " ++ decimal id ++ codes " offered " ++ decimal count ++ 10 ∷ []

abbrev pub total_line : ℕ → List ℕ
total_line total = codes "total " ++ decimal total ++ 10 ∷ []

-- of each connection its count, and the sum of all
abbrev pub summary : (seed threads sends : ℕ) → List ℕ
summary seed threads sends =
    head_line seed threads sends
    ++ flat_map (λ id. count_line id (offered seed threads sends id)) (range_with_len 1 threads)
    ++ total_line (sum (all_offered seed threads sends))
