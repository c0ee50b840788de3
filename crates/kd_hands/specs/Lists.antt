-- The entries of one pass, numbers in hands, marks and sweeps, and functions that differ at one
-- place.
use Rattle.std.specs.Prelude.{ℕ, ◌/◌, ◌%◌, ◌==◌, nat_lt, ◌&&◌, Bool, false, not, cond, List, map, filter, Option, Some, None}
use Rattle.std.specs.Int.{bit_at}
use Rattle.std.specs.List.{list_any, range_with_len}

-- of a list that has each entry with the number of the pass that made it, the entries of one pass
abbrev pub made_by : {E : Type 0} → ℕ → List (ℕ × E) → List (ℕ × E)
made_by j list = filter (λ x. x.0 == j) list

-- the number is in the hand
abbrev pub hand_has : ℕ → List ℕ → Bool
hand_has n hand = list_any (λ x. x == n) hand

-- the hand without the number
abbrev pub hand_without : ℕ → List ℕ → List ℕ
hand_without n hand = filter (λ x. not (x == n)) hand

-- the word has the mark of the number n: the word n / 64 has the bits of 64 numbers
abbrev pub has_mark : ℕ → ℕ → Bool
has_mark n word = bit_at word (n % 64) == 1

-- the number, one of 256, is marked in the words of a lock
abbrev pub is_marked : ℕ → (ℕ → ℕ) → Bool
is_marked n words = nat_lt n 256 && has_mark n (words (n / 64))

-- the number is in a word that was swept
abbrev pub was_swept : ℕ → List (ℕ × ℕ) → Bool
was_swept n words = list_any (λ w. w.0 == n / 64 && has_mark n w.1) words

-- the word of the number was swept
abbrev pub is_word_of : ℕ → List (ℕ × ℕ) → Bool
is_word_of n words = list_any (λ w. w.0 == n / 64) words

-- it is this one
abbrev pub is_at : ℕ → Option ℕ → Bool
is_at k None = false
is_at k (Some i) = i == k

-- the function, but for one place
abbrev pub at_place : {A : Type 0} → (ℕ → A) → ℕ → A → ℕ → A
at_place f l a k = cond (k == l) a (f k)

-- the first n values of the function
abbrev pub tabled : {A : Type 0} → ℕ → (ℕ → A) → List A
tabled n f = map f (range_with_len 0 n)
