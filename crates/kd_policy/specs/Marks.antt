-- Marks of patterns: a coarse test of which patterns an owner may have.
use Rattle.std.specs.Prelude.{◌≡◌, ℕ, Bool, true, ◌+◌, ◌*◌, ◌/◌, ◌%◌, ◌==◌, List, fold, slice_index}
use Rattle.std.specs.Int.{bit_at}
use Rattle.std.specs.List.{AllByRecursion}
use Rattle.kd_policy.specs.declared.entry.Entry.{Entry}

-- the mark of a text with one byte more behind it; 8191 is a prime
abbrev pub next_mark : ℕ → ℕ → ℕ
next_mark mark byte = (mark * 257 + byte) % 8191

-- the mark of a text
unfoldable pub mark_of : List ℕ → ℕ
mark_of text = fold next_mark 0 text

-- the mark is set: 64 of them stand in a word
unfoldable pub mark_is_set : List ℕ → ℕ → Bool
mark_is_set words mark = bit_at (slice_index words (mark / 64)) (mark % 64) == 1

-- the mark of each entry's pattern is set
abbrev pub AreMarked : List ℕ → List Entry → Type 0
AreMarked words es = AllByRecursion (λ (e : Entry). mark_is_set words (mark_of e.pattern) ≡ true) es
