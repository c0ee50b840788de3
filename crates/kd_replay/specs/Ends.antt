-- How a run's input was read, where the source tells what it has left.
use Rattle.std.specs.Prelude.{◌≡◌, ◌+◌, ℕ, List, length, Option}
use Rattle.std.specs.Io.KnownBytes.{Consumes, IsAtEnd}

-- these bytes were all that the source had left
abbrev pub WasReadToItsEnd : Option (List ℕ) → Option (List ℕ) → List ℕ → Type 0
WasReadToItsEnd left_before left_after bytes =
    Consumes left_before left_after bytes × IsAtEnd left_after

-- this many bytes were taken, and one more
abbrev pub HasReadTooMuch : ℕ → Option (List ℕ) → Option (List ℕ) → Type 0
HasReadTooMuch most left_before left_after =
    (bytes : List ℕ) × Consumes left_before left_after bytes × (length bytes ≡ most + 1)
