-- What a whole configuration says, line by line.
use Rattle.std.specs.Prelude.{ℕ, Bool, true, false, not, ◌+◌, ◌&&◌, nat_lt, if◌then◌else◌, List, [], ◌∷◌, ◌++◌, length, count_by, Option, Some, None, Result, Ok, Err}
use Rattle.kd_types.specs.Words.{same, some_of}
use Rattle.kd_creds.specs.declared.error.ListenError.{ListenError}
use Rattle.kd_creds.specs.declared.error.ListenError.TheVariants.{Malformed, OutOfMemory}
use Rattle.kd_creds.specs.declared.line.ListenLine.{ListenLine}
use Rattle.kd_creds.specs.declared.line.ListenLine.TheVariants.{Bus, Socket}
use Rattle.kd_creds.specs.Lines.{line_pieces, is_skipped, listen_line}

-- the lines of a text: what stands between its line feeds. Behind a last line feed there is one
-- more, which is empty and says nothing
abbrev pub lines : List ℕ → List (List ℕ)
lines text = line_pieces 10 text

abbrev pub is_socket : ListenLine → Bool
is_socket (Bus name uid size hashes) = false
is_socket (Socket path creds sessions) = true

abbrev pub is_bus : ListenLine → Bool
is_bus (Bus name uid size hashes) = true
is_bus (Socket path creds sessions) = false

-- the line makes a bus of this name
abbrev pub is_bus_called : List ℕ → ListenLine → Bool
is_bus_called wanted (Bus name uid size hashes) = same name wanted
is_bus_called wanted (Socket path creds sessions) = false

-- whether the line may stand behind these: at most four buses, each of a name of its own, and at
-- most 64 sockets
abbrev pub line_may_follow : List ListenLine → ListenLine → Bool
line_may_follow given (Bus name uid size hashes) =
    not (some_of (is_bus_called name) given) && nat_lt (count_by is_bus given) 4
line_may_follow given (Socket path creds sessions) = nat_lt (count_by is_socket given) 64

-- what is said with a further line, unless it breaks a rule behind those before it
abbrev pub and_line : List ListenLine → Option ListenLine → Option (List ListenLine)
and_line given None = None
and_line given (Some line) = if line_may_follow given line then Some (given ++ line ∷ []) else None

unfoldable pub said_with : List ListenLine → List ℕ → Option (List ListenLine)
said_with given line = if is_skipped line then Some given else and_line given (listen_line line)

-- what the lines say behind those that are given, where the first of them begins at byte `at`; else
-- where the first begins that breaks a rule
unfoldable pub read_lines : ℕ → List ListenLine → List (List ℕ) → Result (List ListenLine) ℕ
read_lines at given [] = Ok given
read_lines at given (line ∷ more) =
    elim (said_with given line) [
      | None ↦ Err at
      | Some said ↦ read_lines (at + (length line + 1)) said more
    ]

-- there must be a socket; where there is none the text breaks this rule at its end
abbrev pub with_socket : ℕ → Result (List ListenLine) ℕ → Result (List ListenLine) ℕ
with_socket end (Err at) = Err at
with_socket end (Ok given) = if some_of is_socket given then Ok given else Err end

-- what a configuration says, or the byte at which the first line begins that breaks a rule
unfoldable pub listen_of : List ℕ → Result (List ListenLine) ℕ
listen_of text = with_socket (length text) (read_lines 0 [] (lines text))

-- a fact on the place at which a configuration is malformed; want of memory has none
abbrev pub IsMalformedAt : ListenError → (ℕ → Type 0) → Type 0
IsMalformedAt (Malformed at) P = P at
IsMalformedAt OutOfMemory P = Unit {0}
