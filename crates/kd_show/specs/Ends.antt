-- How a run ends, and what was read and written then, where the source and the sink tell it.
use Rattle.std.specs.Prelude.{◌≡◌, ◌⊎◌, ◌+◌, ℕ, List, length, Option}
use Rattle.std.specs.Borrow.{Bor}
use Rattle.std.specs.Io.KnownBytes.{Consumes, IsAtEnd, Keeps}
use Rattle.kd_lines.specs.declared.end.End.{End}
use Rattle.kd_lines.specs.declared.end.End.TheVariants.{BadWords, ReadFault, TooMuchInput, OutOfMemory}
use Rattle.kd_lines.specs.Lines.{ShowsSo}
use Rattle.kd_lines.specs.Making.{MakesSo}
use Rattle.kd_show.specs.declared.words.Work.{Work}
use Rattle.kd_show.specs.declared.words.Work.TheVariants.{Show, Make}
use Rattle.kd_show.specs.Words.{AskFor}

-- what a work over these bytes came to
abbrev pub WorksSo : Work → List ℕ → Option (List ℕ) → Option (List ℕ) → End → Type 0
WorksSo (Show kind) bytes held_before held_after end = ShowsSo kind bytes held_before held_after end
WorksSo Make bytes held_before held_after end = MakesSo bytes held_before held_after end

-- these bytes were all that the source had left
abbrev pub WasReadToItsEnd : Option (List ℕ) → Option (List ℕ) → List ℕ → Type 0
WasReadToItsEnd left_before left_after bytes =
    Consumes left_before left_after bytes × IsAtEnd left_after

-- the greatest number of bytes that a run takes
abbrev pub most_input : ℕ
most_input = 16777216

-- the source was read to its end, and the work that the words ask for came to this over its bytes
abbrev pub IsWorked : List (Bor (List ℕ)) → Option (List ℕ) → Option (List ℕ)
    → Option (List ℕ) → Option (List ℕ) → End → Type 0
IsWorked words left_before left_after held_before held_after end =
    (work : Work) × (bytes : List ℕ) × AskFor work words
    × WasReadToItsEnd left_before left_after bytes
    × WorksSo work bytes held_before held_after end

-- what a run read and wrote, by its end: nothing is written before the words were looked at and the
-- input was read to its end
abbrev pub IsEnd : List (Bor (List ℕ)) → Option (List ℕ) → Option (List ℕ)
    → Option (List ℕ) → Option (List ℕ) → End → Type 0
IsEnd words left_before left_after held_before held_after BadWords =
    Keeps left_before left_after × Keeps held_before held_after
IsEnd words left_before left_after held_before held_after ReadFault = Keeps held_before held_after
IsEnd words left_before left_after held_before held_after TooMuchInput =
    (bytes : List ℕ) × Consumes left_before left_after bytes × (length bytes ≡ most_input + 1)
    × Keeps held_before held_after
IsEnd words left_before left_after held_before held_after OutOfMemory =
    Keeps held_before held_after
    ⊎ IsWorked words left_before left_after held_before held_after OutOfMemory
IsEnd words left_before left_after held_before held_after end =
    IsWorked words left_before left_after held_before held_after end
