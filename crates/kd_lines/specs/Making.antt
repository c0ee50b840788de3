-- What is made of lines: a frame of each that says something.
use Rattle.std.specs.Prelude.{◌≡◌, ℕ, ◌+◌, ◌<◌, ◌==◌, Bool, true, false, ◌||◌, if◌then◌else◌, List, [], ◌∷◌, length, take, Option}
use Rattle.kd_lines.specs.declared.kind.Kind.TheVariants.{Frames}
use Rattle.kd_lines.specs.declared.end.End.{End}
use Rattle.kd_lines.specs.declared.end.End.TheVariants.{Done, WriteFault, BadLine, OutOfMemory}
use Rattle.kd_lines.specs.Pieces.{IsPiece, WritesFront, WritesWhole, WritesUpTo}

-- how many bytes the first line has, with its newline
abbrev pub line_length : List ℕ → ℕ
line_length [] = 0
line_length (b ∷ bs) = if b == 10 then 1 else 1 + line_length bs

-- one line: it ends at its first newline, or has none
pub record IsOneLine (line : List ℕ) : Type 0 where
  pub some : 0 < length line
  pub one : line_length line ≡ length line

-- a byte between words
abbrev pub is_blank : ℕ → Bool
is_blank b = b == 32 || b == 9 || b == 10 || b == 13

-- a line without words, or whose first word begins with `#`
abbrev pub says_nothing : List ℕ → Bool
says_nothing [] = true
says_nothing (b ∷ bs) = if is_blank b then says_nothing bs else b == 35

-- what a line comes to: nothing where it says nothing, else one whole frame
abbrev pub MakesOf : Bool → List ℕ → Type 0
MakesOf true made = made ≡ []
MakesOf false made = IsPiece Frames made

abbrev pub IsMade : List ℕ → List ℕ → Type 0
IsMade line made = MakesOf (says_nothing line) made

-- the first line says something
abbrev pub BeginsWithWords : List ℕ → Type 0
BeginsWithWords bytes = says_nothing (take (line_length bytes) bytes) ≡ false

-- what making frames of these bytes came to
abbrev pub MakesSo : List ℕ → Option (List ℕ) → Option (List ℕ) → End → Type 0
MakesSo bytes held_before held_after Done =
    WritesWhole IsOneLine IsMade bytes held_before held_after
MakesSo bytes held_before held_after (BadLine at) =
    WritesUpTo IsOneLine IsMade BeginsWithWords bytes at held_before held_after
MakesSo bytes held_before held_after WriteFault =
    WritesFront IsOneLine IsMade bytes held_before held_after
MakesSo bytes held_before held_after OutOfMemory =
    WritesFront IsOneLine IsMade bytes held_before held_after
MakesSo bytes held_before held_after _ = ⊥
