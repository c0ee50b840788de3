-- Bytes, and the words that they are packed into, as one number: bit b of either is bit b of it.
use Rattle.std.proofs.Common.{◌≡◌, ℕ, zero, suc, ◌+◌, ◌-◌, ◌*◌, ◌/◌, ◌%◌, ◌^◌, ◌<◌, ◌≤◌, List, [], ◌∷◌, ◌++◌, length, get_or, refl, ap, sym, ◌∙◌, arith}
use Rattle.std.specs.Int.{bit_at, byte_at, bytes_low_first}
use Rattle.std.proofs.lemmas.List.{get_or-append-add}
use Rattle.std.proofs.lemmas.Nat.{div-add-mod', mod_below}
use Rattle.std.proofs.lemmas.Nat.Bits.{bit_at-zero, bit_at_cat_low, bit_at_cat_high}
use Rattle.byteorder.specs.Numbers.{little_number-reads_back}
use Rattle.kd_bloom.specs.Packed.{packed_word, unpacked}

-- the number of these digits in base 2 ^ k, the lowest first
abbrev pub joined : ℕ → List ℕ → ℕ
joined k [] = 0
joined k (x ∷ xs) = joined k xs * 2 ^ k + x

-- each is below the bound
abbrev pub AreBelow : ℕ → List ℕ → Type 0
AreBelow n xs = (i : ℕ) → get_or xs i 0 < n

-- bit r of digit q is bit q * k + r of the number
pub bit_at-joined : (k : ℕ) (xs : List ℕ) (q r : ℕ) → AreBelow (2 ^ k) xs → r < k → bit_at (joined k xs) (q * k + r) ≡ bit_at (get_or xs q 0) r
bit_at-joined k [] q r below lt = bit_at-zero (q * k + r) ∙ sym (bit_at-zero r)
bit_at-joined k (x ∷ xs) zero r below lt =
    let place : 0 * k + r ≡ r = omega arith in
    ap (bit_at (joined k xs * 2 ^ k + x)) place ∙ bit_at_cat_low (joined k xs) k x r lt
bit_at-joined k (x ∷ xs) (suc q) r below lt =
    let place : suc q * k + r - k ≡ q * k + r = omega arith in
    let over : k ≤ suc q * k + r = omega arith in
    bit_at_cat_high (joined k xs) k x (suc q * k + r) (below 0) over ∙ ap (bit_at (joined k xs)) place ∙ bit_at-joined k xs q r (λ i. below (suc i)) lt

-- the same of any bit
pub bit_of_joined : (k : ℕ) (xs : List ℕ) (b : ℕ) → zero < k → AreBelow (2 ^ k) xs → bit_at (get_or xs (b / k) 0) (b % k) ≡ bit_at (joined k xs) b
bit_of_joined k xs b pos below =
    sym (bit_at-joined k xs (b / k) (b % k) below (mod_below b k pos)) ∙ ap (bit_at (joined k xs)) (div-add-mod' b k)

byte_below : (i x : ℕ) → byte_at i x < 256
byte_below zero x = mod_below x 256 (omega arith)
byte_below (suc i) x = mod_below (x / 256 ^ suc i) 256 (omega arith)

-- bytes of a number before others
low_below : (i n x : ℕ) (rest : List ℕ) → AreBelow 256 rest → AreBelow 256 (bytes_low_first i n x ++ rest)
low_below i zero x rest below j = below j
low_below i (suc n) x rest below zero = byte_below i x
low_below i (suc n) x rest below (suc j) = low_below (suc i) n x rest below j

word_below : (w : ℕ) (rest : List ℕ) → AreBelow 256 rest → AreBelow 256 (packed_word w ++ rest)
unfolding packed_word
word_below w rest below = low_below 0 8 w rest below

pub bytes_below : (ws : List ℕ) → AreBelow 256 (unpacked ws)
unfolding unpacked
bytes_below [] i = omega arith
bytes_below (w ∷ ws) i = word_below w (unpacked ws) (bytes_below ws) i

word_joined : (w : ℕ) (rest : List ℕ) → w < 2 ^ 64 → joined 8 (packed_word w ++ rest) ≡ joined 8 rest * 2 ^ 64 + w
unfolding packed_word
word_joined w rest lt = let e = little_number-reads_back 8 w rest lt in omega (arith, e)

-- the bytes of words join to the same number as the words
pub same_joined : (ws : List ℕ) → AreBelow (2 ^ 64) ws → joined 8 (unpacked ws) ≡ joined 64 ws
unfolding unpacked
same_joined [] below = refl
same_joined (w ∷ ws) below = word_joined w (unpacked ws) (below 0) ∙ ap (λ (n : ℕ). n * 2 ^ 64 + w) (same_joined ws (λ i. below (suc i)))

-- a bit of the bytes is a bit of a word
pub bit_of_word : (ws : List ℕ) (b : ℕ) → AreBelow (2 ^ 64) ws → bit_at (get_or (unpacked ws) (b / 8) 0) (b % 8) ≡ bit_at (get_or ws (b / 64) 0) (b % 64)
bit_of_word ws b below =
    bit_of_joined 8 (unpacked ws) b (omega arith) (bytes_below ws) ∙ ap (λ (n : ℕ). bit_at n b) (same_joined ws below) ∙ sym (bit_of_joined 64 ws b (omega arith) below)

-- the parts of bytes are bytes
pub front_below : (n : ℕ) (xs ys zs : List ℕ) → 0 < n → zs ≡ xs ++ ys → AreBelow n zs → AreBelow n xs
front_below n [] ys zs pos e below i = pos
front_below n (x ∷ xs) ys zs pos e below zero = rw e at (below 0)
front_below n (x ∷ xs) ys zs pos e below (suc i) = front_below n xs ys (xs ++ ys) pos refl (λ j. rw e at (below (suc j))) i

pub back_below : (n : ℕ) (xs ys zs : List ℕ) → zs ≡ xs ++ ys → AreBelow n zs → AreBelow n ys
back_below n xs ys zs e below i = rw (e, get_or-append-add xs ys i 0) at (below (length xs + i))
