-- Bytes that come in several pieces.
use Rattle.std.proofs.Common.{◌≡◌, ℕ, ◌≤◌, List, [], ◌++◌, length, Option, sym, ap, ◌∙◌, append_assoc, arith}
use Rattle.std.proofs.lemmas.List.{append-nil, take-append-le}
use Rattle.std.specs.Io.KnownBytes.{Consumes}
use Rattle.byteorder.specs.Numbers.{little_from-take}
use Rattle.kd_item.specs.Spelling.{number}
use Rattle.kd_outside.proofs.Known.{consumes_nothing, consumes_more}
use Rattle.kd_client.specs.Causes.{Came}

pub came_nothing : (known : Option (List ℕ)) (held : List ℕ) → Came known known held held
came_nothing known held = record { bytes = []; joined = sym (append-nil held); read = consumes_nothing known }

pub came_more : (a b c : Option (List ℕ)) (held mid now : List ℕ) → Came a b held mid → Came b c mid now → Came a c held now
came_more a b c held mid now first second =
    record {
      bytes = first.bytes ++ second.bytes;
      joined = second.joined ∙ ap (λ (l : List ℕ). l ++ second.bytes) first.joined ∙ append_assoc held first.bytes second.bytes;
      read = consumes_more a b c first.bytes second.bytes first.read second.read;
    }

-- one more piece
pub came_piece : (a b c : Option (List ℕ)) (held mid now piece : List ℕ) → Came a b held mid → Consumes b c piece → now ≡ mid ++ piece → Came a c held now
came_piece a b c held mid now piece first read joined = came_more a b c held mid now first (record { bytes = piece; joined = joined; read = read })

-- what came of nothing is all that is held
pub all_came : (a b : Option (List ℕ)) (now : List ℕ) → Came a b [] now → Consumes a b now
all_came a b now came = rw came.joined came.read

-- the size word stays where more comes behind it
pub number_front : (xs ys : List ℕ) → 8 ≤ length xs → number (xs ++ ys) ≡ number xs
unfolding number
number_front xs ys long =
    sym (little_from-take 0 8 8 (xs ++ ys) (omega arith)) ∙ ap number (take-append-le 8 xs ys long) ∙ little_from-take 0 8 8 xs (omega arith)
