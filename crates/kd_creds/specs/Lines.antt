-- What one line of a configuration says by itself.
use Rattle.std.specs.Prelude.{ℕ, Bool, true, false, ◌+◌, ◌&&◌, ◌==◌, nat_le, if◌then◌else◌, List, [], ◌∷◌, length, map, Option, Some, None, codes}
use Rattle.std.specs.Borrow.{Bor}
use Rattle.std.specs.List.{slice_split}
use Rattle.std.specs.Str.{is_utf8}
use Rattle.kd_types.specs.Words.{same}
use Rattle.kd_creds.specs.declared.line.ListenLine.{ListenLine}
use Rattle.kd_creds.specs.declared.line.ListenLine.TheVariants.{Bus, Socket}
use Rattle.kd_model.specs.Filters.{is_bloom_size, is_hash_count}
use Rattle.kd_name.specs.BusNames.{is_bus_name}
use Rattle.kd_creds.specs.Numbers.{digits_number}

-- the pieces of a text between the bytes `mark`
abbrev pub line_pieces : ℕ → List ℕ → List (List ℕ)
line_pieces mark text = slice_split (λ c. c == mark) text

-- the pieces of what is left behind a byte `mark`, where there was one
abbrev pub pieces_left : ℕ → Option (Bor (List ℕ)) → List (List ℕ)
pieces_left mark None = []
pieces_left mark (Some rest) = line_pieces mark rest.now

-- how many bytes are left, with the mark before them
abbrev pub bytes_left : Option (Bor (List ℕ)) → ℕ
bytes_left None = 0
bytes_left (Some rest) = length rest.now + 1

-- the words of a line: what stands between its blanks
abbrev pub line_words : List ℕ → List (List ℕ)
line_words line = line_pieces 32 line

-- the line says nothing: it is empty, or a comment
abbrev pub is_skipped : List ℕ → Bool
is_skipped [] = true
is_skipped (c ∷ cs) = c == 35

-- the bus of this name, user, Bloom size and number of hashes, where there may be one
abbrev pub bus_of : List ℕ → Option ℕ → Option ℕ → Option ℕ → Option ListenLine
bus_of name (Some uid) (Some size) (Some hashes) =
    if is_bus_name uid name && is_bloom_size size && is_hash_count hashes
    then Some (Bus name uid size hashes)
    else None
bus_of name _ _ _ = None

-- what the word for the rights of a socket's callers says
abbrev pub rights_of : List ℕ → Option Bool
rights_of word =
    if same word (codes "plain") then Some false
    else if same word (codes "privileged") then Some true else None

-- 1 to 100 bytes of text
abbrev pub is_path : List ℕ → Bool
is_path path = nat_le 1 (length path) && nat_le (length path) 100 && is_utf8 path

-- the socket of this path, whose callers have these credentials, for so many sessions, where there
-- may be one
abbrev pub socket_of : List ℕ → Option ℕ → Option ℕ → Option Bool → Option ℕ → Option ListenLine
socket_of path (Some uid) (Some gid) (Some privileged) (Some sessions) =
    if is_path path && nat_le 1 sessions
    then Some (Socket path (record { uid = uid; gid = gid; privileged = privileged }) sessions)
    else None
socket_of path _ _ _ _ = None

-- what these words say: `bus NAME UID SIZE HASHES` or `socket PATH UID GID RIGHTS SESSIONS`, else
-- nothing
abbrev pub said_by : List (List ℕ) → Option ListenLine
said_by (kind ∷ name ∷ uid ∷ size ∷ hashes ∷ []) =
    if same kind (codes "bus")
    then bus_of name (digits_number uid) (digits_number size) (digits_number hashes)
    else None
said_by (kind ∷ path ∷ uid ∷ gid ∷ rights ∷ sessions ∷ []) =
    if same kind (codes "socket")
    then
    socket_of path (digits_number uid) (digits_number gid) (rights_of rights)
    (digits_number sessions)
    else None
said_by _ = None

-- what a line says
unfoldable pub listen_line : List ℕ → Option ListenLine
listen_line line = said_by (line_words line)

-- the bytes of each word
abbrev pub word_bytes : List (Bor (List ℕ)) → List (List ℕ)
word_bytes ws = map (λ w. w.now) ws
