-- Words that hold bytes.
use Rattle.std.proofs.Common.{◌≡◌, ℕ, zero, suc, ◌+◌, ◌-◌, ◌*◌, ◌/◌, ◌%◌, ◌<◌, ◌≤◌, ◌==◌, ◌⊎◌, inl, inr, List, [], ◌∷◌, ◌++◌, length, get_or, take, replicate, refl, ap, sym, ◌∙◌, arith, length-append, append_assoc}
use Rattle.std.specs.Int.{bit_at}
use Rattle.std.proofs.lemmas.Bool.{cases_lt}
use Rattle.std.proofs.lemmas.List.{append-nil, take_at, take_all, length-take-le, length-replicate, get_or_past, get_or-take, get_or-append_right}
use Rattle.std.proofs.lemmas.Nat.{le_bytes_8}
use Rattle.byteorder.specs.Numbers.{length-bytes_low_first}
use Rattle.byteorder.specs.Endian.{little_number}
use Rattle.kd_bloom.specs.Bits.{bit_is_set, passes}
use Rattle.kd_bloom.specs.Packed.{packed_word, unpacked, IsPacked, Packs}
use Rattle.kd_bloom.proofs.Sets.{passes_same}

pub length-word : (w : ℕ) → length (packed_word w) ≡ 8
unfolding packed_word
length-word w = length-bytes_low_first 0 8 w

pub length-unpacked : (ws : List ℕ) → length (unpacked ws) ≡ 8 * length ws
unfolding unpacked
length-unpacked [] = refl
length-unpacked (w ∷ ws) = let e = length-append (packed_word w) (unpacked ws) in let l = length-word w in let r = length-unpacked ws in omega arith

-- one word more
pub unpacked_more : (ws : List ℕ) (w : ℕ) → unpacked (ws ++ w ∷ []) ≡ unpacked ws ++ packed_word w
unfolding unpacked
unpacked_more [] w = append-nil (packed_word w)
unpacked_more (x ∷ ws) w = ap (packed_word x ++◌) (unpacked_more ws w) ∙ sym (append_assoc (packed_word x) (unpacked ws) (packed_word w))

-- eight bytes are the word of their number
pub word_of : (bytes : List ℕ) (w : ℕ) → length bytes ≡ 8 → ((i : ℕ) → get_or bytes i 0 < 256) → w ≡ little_number 8 bytes → packed_word w ≡ bytes
unfolding packed_word
word_of bytes w len fits e = rw e (le_bytes_8 bytes (little_number 8 bytes) len fits (omega arith))

zeros_past : (z i : ℕ) → get_or (replicate {A = ℕ} z 0) i 0 ≡ zero
zeros_past zero i = refl
zeros_past (suc z) zero = refl
zeros_past (suc z) (suc i) = zeros_past z i

-- words that spell the bytes and fewer than eight zeros hold the bytes
pub packs : (ws bytes : List ℕ) (z : ℕ) → z < 8 → unpacked ws ≡ bytes ++ replicate z 0 → Packs ws bytes
packs ws bytes z few e = record {
  front = rw e (take_at bytes (replicate z 0) (length bytes) refl);
  packed = record {
    count = omega (arith, length-unpacked ws, ap length e, length-append bytes (replicate z 0), length-replicate {A = ℕ} z 0);
    zeros = λ k past. rw e (get_or-append_right bytes (replicate z 0) (length bytes) k 0 refl past ∙ zeros_past z (k - length bytes));
  };
}

-- whole words spell just the bytes
pub packs_whole : (ws bytes : List ℕ) → Packs ws bytes → length bytes % 8 ≡ 0 → unpacked ws ≡ bytes
packs_whole ws bytes p whole =
    let count = p.packed.count in
    let all : length (unpacked ws) ≤ length bytes = omega (arith, length-unpacked ws) in
    sym (take_all (length bytes) (unpacked ws) all) ∙ p.front

-- the words have the bits of the bytes that they hold
pub same_bits : (ws bytes : List ℕ) → Packs ws bytes → (b : ℕ) → bit_is_set (unpacked ws) b ≡ bit_is_set bytes b
unfolding bit_is_set
same_bits ws bytes p b = ap (λ (n : ℕ). bit_at n (b % 8) == 1) (go (cases_lt (b / 8) (length bytes)))
  where
    go : (b / 8 < length bytes) ⊎ (length bytes ≤ b / 8) → get_or (unpacked ws) (b / 8) 0 ≡ get_or bytes (b / 8) 0
    go (inl within) = sym (get_or-take (length bytes) (unpacked ws) (b / 8) 0 within) ∙ ap (λ (l : List ℕ). get_or l (b / 8) 0) p.front
    go (inr past) = p.packed.zeros (b / 8) past ∙ sym (get_or_past bytes (b / 8) 0 past)

-- so a test of the words is one of the bytes
pub passes_packed : (fs f ms m : List ℕ) → Packs fs f → Packs ms m → passes (unpacked fs) (unpacked ms) ≡ passes f m
passes_packed fs f ms m pf pm = passes_same (unpacked fs) f (unpacked ms) m (same_bits fs f pf) (same_bits ms m pm)

-- equally many bytes are packed into equally many words
pub same_count : (fs f ms m : List ℕ) → Packs fs f → Packs ms m → length f ≡ length m → length fs ≡ length ms
same_count fs f ms m pf pm e = pf.packed.count ∙ ap (λ (n : ℕ). (n + 7) / 8) e ∙ sym pm.packed.count

pub length_packed : (size : ℕ) (ws : List ℕ) → IsPacked size ws → length (take size (unpacked ws)) ≡ size
length_packed size ws p = let count = p.count in let len = length-unpacked ws in length-take-le size (unpacked ws) (omega arith)

-- packed words hold the bytes as which they are seen
pub packs_seen : (size : ℕ) (ws : List ℕ) → IsPacked size ws → Packs ws (take size (unpacked ws))
packs_seen size ws p =
    let len = length_packed size ws p in
    record { front = ap (λ (n : ℕ). take n (unpacked ws)) len; packed = rw len p }

-- bytes and zeros are bytes
pub filled_below : (bytes : List ℕ) (z : ℕ) → ((i : ℕ) → get_or bytes i 0 < 256) → (i : ℕ) → get_or (bytes ++ replicate z 0) i 0 < 256
filled_below [] z below i = let e = zeros_past z i in omega arith
filled_below (x ∷ xs) z below zero = below 0
filled_below (x ∷ xs) z below (suc i) = filled_below xs z (λ j. below (suc j)) i

-- the last word
pub packs_last : (ws : List ℕ) (w : ℕ) (rest bytes : List ℕ) → unpacked ws ++ rest ≡ bytes → 0 < length rest → length rest < 8 → packed_word w ≡ rest ++ replicate (8 - length rest) 0 → Packs (ws ++ w ∷ []) bytes
packs_last ws w rest bytes all some few last =
    packs (ws ++ w ∷ []) bytes (8 - length rest) (omega arith)
    (unpacked_more ws w ∙ ap (unpacked ws ++◌) last ∙ sym (append_assoc (unpacked ws) rest (replicate (8 - length rest) 0)) ∙ ap (λ (l : List ℕ). l ++ replicate (8 - length rest) 0) all)

-- no word is left
pub packs_all : (ws rest bytes : List ℕ) → unpacked ws ++ rest ≡ bytes → length rest ≡ 0 → Packs ws bytes
packs_all ws [] bytes all none = packs ws bytes 0 (omega arith) (sym (append-nil (unpacked ws)) ∙ all ∙ sym (append-nil bytes))
packs_all ws (x ∷ rest) bytes all none = absurd (omega arith)
