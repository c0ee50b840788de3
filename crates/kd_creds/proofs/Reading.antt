-- Reading one line more.
use Rattle.std.proofs.Common.{◌≡◌, ℕ, ◌+◌, Bool, List, [], ◌∷◌, length, Option, Some, None, Ok, Err, refl, if◌then◌else◌}
use Rattle.std.specs.Borrow.{Bor}
use Rattle.kd_types.specs.Words.{some_of}
use Rattle.kd_creds.specs.declared.line.ListenLine.{ListenLine}
use Rattle.kd_creds.specs.Lines.{pieces_left}
use Rattle.kd_creds.specs.Listen.{said_with, read_lines, listen_of, lines, is_socket}

-- a line that breaks a rule ends the reading where it begins
pub stops : (text : List ℕ) (at : ℕ) (given : List ListenLine) (rest : List (List ℕ)) (line : List ℕ) (more : List (List ℕ)) → read_lines at given rest ≡ read_lines 0 [] (lines text) → rest ≡ line ∷ more → said_with given line ≡ None → listen_of text ≡ Err at
unfolding listen_of read_lines
stops text at given rest line more same is broken =
    let here : read_lines at given (line ∷ more) ≡ Err at = rw (broken, read_lines) refl in
    rw (← same, is, here) refl

-- behind another line the reading goes on
pub goes_on : (text : List ℕ) (at : ℕ) (given said : List ListenLine) (rest : List (List ℕ)) (line : List ℕ) (more : List (List ℕ)) → read_lines at given rest ≡ read_lines 0 [] (lines text) → rest ≡ line ∷ more → said_with given line ≡ Some said → read_lines (at + (length line + 1)) said more ≡ read_lines 0 [] (lines text)
unfolding read_lines
goes_on text at given said rest line more same is kept =
    let here : read_lines at given (line ∷ more) ≡ read_lines (at + (length line + 1)) said more = rw (kept, read_lines) refl in
    rw (← same, is, here) refl

pub nothing_left : (mark : ℕ) (rest : Option (Bor (List ℕ))) → ((x : Bor (List ℕ)) → rest ≡ Some x → ⊥) → pieces_left mark rest ≡ []
nothing_left mark None never = refl
nothing_left mark (Some x) never = absurd (never x refl)

-- behind the last line it is asked for a socket
pub ends : (text : List ℕ) (at : ℕ) (given : List ListenLine) (rest : List (List ℕ)) (b : Bool) → read_lines at given rest ≡ read_lines 0 [] (lines text) → rest ≡ [] → some_of is_socket given ≡ b → listen_of text ≡ (if b then Ok given else Err (length text))
unfolding listen_of read_lines
ends text at given rest b same is told =
    let here : read_lines at given [] ≡ Ok given = refl in
    rw (← same, is, here, told) refl
