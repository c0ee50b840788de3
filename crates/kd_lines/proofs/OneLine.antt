-- The first line of some bytes.
use Rattle.std.proofs.Common.{◌≡◌, ℕ, suc, ◌+◌, ◌≤◌, ◌<◌, Bool, true, false, List, [], ◌∷◌, length, take, refl, sym, ap, ◌∙◌, arith}
use Rattle.std.specs.Prelude.{◌==◌}
use Rattle.std.proofs.lemmas.List.{length-take-le}
use Rattle.kd_lines.specs.Making.{line_length, IsOneLine}

-- the line that begins with a byte, which is its newline or isn't
line_by_true : (b : ℕ) (bs : List ℕ) → (b == 10) ≡ true → line_length (b ∷ bs) ≡ 1
line_by_true b bs e = rw e refl

line_by_false : (b : ℕ) (bs : List ℕ) → (b == 10) ≡ false → line_length (b ∷ bs) ≡ 1 + line_length bs
line_by_false b bs e = rw e refl

within_by : (t : Bool) (b : ℕ) (bs : List ℕ) → (b == 10) ≡ t → line_length bs ≤ length bs → line_length (b ∷ bs) ≤ length (b ∷ bs)
within_by true b bs e rest = rw (line_by_true b bs e) (omega arith)
within_by false b bs e rest = rw (line_by_false b bs e) (omega (arith, rest))

pub line_within : (bytes : List ℕ) → line_length bytes ≤ length bytes
line_within [] = omega arith
line_within (b ∷ bs) = within_by (b == 10) b bs refl (line_within bs)

some_by : (t : Bool) (b : ℕ) (bs : List ℕ) → (b == 10) ≡ t → 0 < line_length (b ∷ bs)
some_by true b bs e = rw (line_by_true b bs e) (omega arith)
some_by false b bs e = rw (line_by_false b bs e) (omega arith)

pub line_some : (bytes : List ℕ) → 0 < length bytes → 0 < line_length bytes
line_some [] lt = absurd (omega (arith, lt))
line_some (b ∷ bs) lt = some_by (b == 10) b bs refl

take_next : (n b : ℕ) (bs : List ℕ) → take (1 + n) (b ∷ bs) ≡ b ∷ take n bs
take_next n b bs = let s : 1 + n ≡ suc n = omega arith in rw s refl

front_by : (t : Bool) (b : ℕ) (bs : List ℕ) → (b == 10) ≡ t → line_length (take (line_length bs) bs) ≡ line_length bs
    → line_length (take (line_length (b ∷ bs)) (b ∷ bs)) ≡ line_length (b ∷ bs)
front_by true b bs e rest = rw (line_by_true b bs e) (line_by_true b [] e)
front_by false b bs e rest = rw (line_by_false b bs e) (ap line_length (take_next (line_length bs) b bs) ∙ line_by_false b (take (line_length bs) bs) e ∙ ap (λ (n : ℕ). 1 + n) rest)

line_front : (bytes : List ℕ) → line_length (take (line_length bytes) bytes) ≡ line_length bytes
line_front [] = refl
line_front (b ∷ bs) = front_by (b == 10) b bs refl (line_front bs)

pub front_line : (bytes : List ℕ) → 0 < length bytes → IsOneLine (take (line_length bytes) bytes)
front_line bytes lt =
    let len : length (take (line_length bytes) bytes) ≡ line_length bytes = length-take-le (line_length bytes) bytes (line_within bytes) in
    record { some = rw len (line_some bytes lt); one = line_front bytes ∙ sym len }
