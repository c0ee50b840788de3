-- How long spellings are, and that what they hold are bytes.
use Rattle.std.proofs.Common.{◌≡◌, ℕ, ◌+◌, ◌*◌, ◌-◌, ◌%◌, List, [], ◌∷◌, ◌++◌, length, replicate, refl, length-append, arith}
use Rattle.std.proofs.lemmas.List.{length-replicate}
use Rattle.kd_item.specs.Spelling.{Entry, word, words, padding, item_length, spelling, spellings}
use Rattle.kd_item.proofs.Words.{IsBytes, IsBytes-front, IsBytes-behind, length-word, length-words}

-- a body of words and bytes
pub length-body : (ns bytes : List ℕ) → length (words ns ++ bytes) ≡ 8 * length ns + length bytes
length-body ns bytes = omega (arith, length-append (words ns) bytes, length-words ns)

pub length-spelling : (e : Entry) → length (spelling e) ≡ item_length (length e.body)
length-spelling e =
    let n = 16 + length e.body in
    let zs : List ℕ = replicate (padding n) 0 in
    let zeros : length zs ≡ padding n = length-replicate (padding n) 0 in
    omega (arith, zeros, length-append (word n ++ word e.kind ++ e.body) zs, length-append (word n ++ word e.kind) e.body, length-append (word n) (word e.kind), length-word n, length-word e.kind)

-- items take whole words
pub spellings_even : (es : List Entry) → length (spellings es) % 8 ≡ 0
spellings_even [] = refl
spellings_even (e ∷ es) =
    let len : length (spelling e) ≡ 16 + length e.body + (8 - (16 + length e.body) % 8) % 8 = length-spelling e in
    omega (arith, len, length-append (spelling e) (spellings es), spellings_even es)

-- the body of an item of bytes
pub body_bytes : (e : Entry) → IsBytes (spelling e) → IsBytes e.body
body_bytes e fits =
    let n = 16 + length e.body in
    IsBytes-behind (word n ++ word e.kind) e.body (IsBytes-front (word n ++ word e.kind ++ e.body) (replicate (padding n) 0) fits)
