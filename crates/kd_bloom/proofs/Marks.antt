-- Setting bits.
use Rattle.std.proofs.Common.{◌≡◌, ℕ, zero, suc, ◌+◌, ◌*◌, ◌/◌, ◌%◌, ◌^◌, ◌<◌, ◌==◌, Bool, true, false, ◌||◌, ◌⊎◌, inl, inr, List, [], ◌∷◌, ◌++◌, length, get_or, set, replicate, refl, ap, sym, ◌∙◌, arith, bit_or}
use Rattle.std.specs.Int.{bit_at, w8}
use Rattle.std.specs.List.{flat_map}
use Rattle.std.proofs.lemmas.Grind.{flat_map-append}
use Rattle.std.proofs.lemmas.Bool.{cases_eq, ne_eqb, eq-eqb, or_right}
use Rattle.std.proofs.lemmas.List.{append-nil, length-replicate, get_or-set_same, get_or-set_other}
use Rattle.std.proofs.lemmas.List.FromFn.{map-range_with_len_more}
use Rattle.std.proofs.lemmas.Nat.Bits.{bit_at-zero, bit_at_set_same, bit_at_set_other}
use Rattle.kd_model.specs.Words.{contains}
use Rattle.kd_bloom.specs.Bits.{bit_is_set}
use Rattle.kd_bloom.specs.Bloom.{digest_bit, digest_bits, hash_count, string_bits, IsFilter}
use Rattle.sha2.specs.Sha256.{sha256}

pub or_false : (x : Bool) → (x || false) ≡ x
or_false true = refl
or_false false = refl

pub or_assoc : (x y z : Bool) → ((x || y) || z) ≡ (x || (y || z))
or_assoc true y z = refl
or_assoc false y z = refl

-- a byte with one bit more
abbrev pub with_bit : List ℕ → ℕ → List ℕ
with_bit bytes bit = set bytes (bit / 8) (bit_or (get_or bytes (bit / 8) 0) (1 * 2 ^ (bit % 8) % 2 ^ 8))

pub has-with_bit : (bytes : List ℕ) (bit : ℕ) → bit < 8 * length bytes → (b : ℕ) → bit_is_set (with_bit bytes bit) b ≡ (bit_is_set bytes b || b == bit)
unfolding bit_is_set
has-with_bit bytes bit within b = go (cases_eq (b / 8) (bit / 8)) (cases_eq (b % 8) (bit % 8))
  where
    other_bit : ((b ≡ bit) → ⊥) → get_or (with_bit bytes bit) (b / 8) 0 / 2 ^ (b % 8) % 2 ≡ get_or bytes (b / 8) 0 / 2 ^ (b % 8) % 2 → (bit_at (get_or (with_bit bytes bit) (b / 8) 0) (b % 8) == 1) ≡ ((bit_at (get_or bytes (b / 8) 0) (b % 8) == 1) || b == bit)
    other_bit apart e = ap (λ (n : ℕ). n == 1) e ∙ sym (or_false _) ∙ ap (λ (t : Bool). (bit_at (get_or bytes (b / 8) 0) (b % 8) == 1) || t) (sym (ne_eqb b bit apart))

    go : (b / 8 ≡ bit / 8) ⊎ (b / 8 ≡ bit / 8 → ⊥) → (b % 8 ≡ bit % 8) ⊎ (b % 8 ≡ bit % 8 → ⊥) → (bit_at (get_or (with_bit bytes bit) (b / 8) 0) (b % 8) == 1) ≡ ((bit_at (get_or bytes (b / 8) 0) (b % 8) == 1) || b == bit)
    go (inr apart) r = other_bit (λ e. apart (ap (λ (n : ℕ). n / 8) e)) (ap (λ (n : ℕ). bit_at n (b % 8)) (get_or-set_other bytes (bit / 8) (b / 8) _ 0 apart))
    go (inl q) (inr apart) =
        other_bit (λ e. apart (ap (λ (n : ℕ). n % 8) e))
        (rw q (ap (λ (n : ℕ). bit_at n (b % 8)) (get_or-set_same bytes (bit / 8) _ 0 (omega arith)) ∙ bit_at_set_other w8 (get_or bytes (bit / 8) 0) (bit % 8) (omega arith) (b % 8) apart))
    go (inl q) (inl r) =
        rw (q, r) (ap (λ (n : ℕ). bit_at n (bit % 8) == 1) (get_or-set_same bytes (bit / 8) _ 0 (omega arith)) ∙ ap (λ (n : ℕ). n == 1) (bit_at_set_same w8 (get_or bytes (bit / 8) 0) (bit % 8) (omega arith)) ∙ sym (or_right _ _ (eq-eqb b bit (omega arith))))

pub contains-append : (b : ℕ) (xs ys : List ℕ) → contains b (xs ++ ys) ≡ (contains b xs || contains b ys)
contains-append b [] ys = refl
contains-append b (x ∷ xs) ys = ap (λ (t : Bool). (b == x) || t) (contains-append b xs ys) ∙ sym (or_assoc (b == x) (contains b xs) (contains b ys))

-- one hash more
pub digest_bits_more : (size j : ℕ) (digest : List ℕ) (b : ℕ) → contains b (digest_bits size (j + 1) digest) ≡ (contains b (digest_bits size j digest) || b == digest_bit size digest j)
digest_bits_more size j digest b =
    ap (contains b) (map-range_with_len_more (digest_bit size digest) 0 j j (omega arith)) ∙ contains-append b (digest_bits size j digest) (digest_bit size digest j ∷ [])
    ∙ ap (λ (t : Bool). contains b (digest_bits size j digest) || t) (or_false (b == digest_bit size digest j))

-- ---- filters

zero_past : (n i : ℕ) → get_or (replicate {A = ℕ} n 0) i 0 ≡ zero
zero_past zero i = refl
zero_past (suc n) zero = refl
zero_past (suc n) (suc i) = zero_past n i

no_bits : (n b : ℕ) → bit_is_set (replicate n 0) b ≡ false
unfolding bit_is_set
no_bits n b =
    let none : bit_at (get_or (replicate {A = ℕ} n 0) (b / 8) 0) (b % 8) ≡ 0 = ap (λ (k : ℕ). bit_at k (b % 8)) (zero_past n (b / 8)) ∙ bit_at-zero (b % 8) in
    ap (λ (k : ℕ). k == 1) none

-- zeros are the filter of no string
pub filter_none : (size hashes g : ℕ) → IsFilter size hashes g [] (replicate size 0)
filter_none size hashes g = record { sized = length-replicate size 0; bits = no_bits size }

-- one string more
pub filter_more : (size hashes g : ℕ) (strings : List (List ℕ)) (s old new : List ℕ) → IsFilter size hashes g strings old → length new ≡ size → ((b : ℕ) → bit_is_set new b ≡ (bit_is_set old b || contains b (digest_bits size (hash_count hashes g) (sha256 s)))) → IsFilter size hashes g (strings ++ s ∷ []) new
unfolding string_bits
filter_more size hashes g strings s old new f len more = record {
  sized = len;
  bits = λ b. more b ∙ ap (λ (t : Bool). t || contains b (string_bits size hashes g s)) (f.bits b)
      ∙ sym (ap (contains b) (flat_map-append (string_bits size hashes g) strings (s ∷ []) ∙ ap (flat_map (string_bits size hashes g) strings ++◌) (append-nil (string_bits size hashes g s))) ∙ contains-append b (flat_map (string_bits size hashes g) strings) (string_bits size hashes g s));
}

-- one hash more is marked
pub marked_bits : (old before now : List ℕ) (size : ℕ) (digest : List ℕ) (bit j : ℕ) → ((b : ℕ) → bit_is_set before b ≡ (bit_is_set old b || contains b (digest_bits size j digest))) → bit ≡ digest_bit size digest j → ((b : ℕ) → bit_is_set now b ≡ (bit_is_set before b || b == bit)) → (b : ℕ) → bit_is_set now b ≡ (bit_is_set old b || contains b (digest_bits size (j + 1) digest))
marked_bits old before now size digest bit j so_far e more b =
    more b ∙ ap (λ (t : Bool). t || b == bit) (so_far b) ∙ or_assoc (bit_is_set old b) (contains b (digest_bits size j digest)) (b == bit)
    ∙ ap (λ (n : ℕ). bit_is_set old b || (contains b (digest_bits size j digest) || b == n)) e ∙ ap (bit_is_set old b ||◌) (sym (digest_bits_more size j digest b))
