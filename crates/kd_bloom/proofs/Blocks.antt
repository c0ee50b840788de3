-- A test of words, block by block.
use Rattle.std.proofs.Common.{◌≡◌, ℕ, zero, suc, ◌+◌, ◌*◌, ◌/◌, ◌^◌, ◌<◌, ◌-◌, ◌==◌, Bool, true, false, ◌&&◌, ◌⊎◌, inl, inr, List, [], ◌∷◌, length, get_or, take, drop, bit_and, bit_or, refl, ap, sym, ◌∙◌, arith, length-drop}
use Rattle.std.specs.List.{list_all, zip}
use Rattle.std.specs.Simd.{first_chunks}
use Rattle.std.proofs.lemmas.Bool.{cases_eq, eq-eqb, ne_eqb}
use Rattle.std.proofs.lemmas.List.{drop-drop}
use Rattle.std.proofs.lemmas.Nat.{and-not, le_or_l, le_or_r}
use Rattle.kd_model.proofs.Truth.{and_true}
use Rattle.kd_bloom.specs.Bits.{passes}
use Rattle.kd_bloom.specs.Packed.{unpacked, word_fits, words_fit, blocks_fit}
use Rattle.kd_bloom.proofs.Joined.{AreBelow}
use Rattle.kd_bloom.proofs.Sets.{passes_by_words}

and_both : (a b c : Bool) → (a && (b && c)) ≡ ((a && b) && c)
and_both true b c = refl
and_both false b c = refl

-- ---- a test of pairs, one by one

-- one pair more
pub pairs_more : {X : Type 0} (p : X × X → Bool) (xs ys : List X) (i : ℕ) (d : X) → i < length xs → i < length ys → list_all p (zip (take (i + 1) xs) (take (i + 1) ys)) ≡ (list_all p (zip (take i xs) (take i ys)) && p (get_or xs i d, get_or ys i d))
pairs_more p (x ∷ xs) (y ∷ ys) zero d lx ly = and_true (p (x, y))
pairs_more p (x ∷ xs) (y ∷ ys) (suc i) d lx ly =
    let next : suc i + 1 ≡ suc (i + 1) = omega arith in
    rw next (ap (p (x, y) &&◌) (pairs_more p xs ys i d (omega arith) (omega arith)) ∙ and_both (p (x, y)) (list_all p (zip (take i xs) (take i ys))) _)
pairs_more p [] ys i d lx ly = absurd (omega arith)
pairs_more p (x ∷ xs) [] i d lx ly = absurd (omega arith)

-- a pair that fails
pub pairs_fail : {X : Type 0} (p : X × X → Bool) (xs ys : List X) (i : ℕ) (d : X) → i < length xs → i < length ys → p (get_or xs i d, get_or ys i d) ≡ false → list_all p (zip xs ys) ≡ false
pairs_fail p (x ∷ xs) (y ∷ ys) zero d lx ly fails = rw fails refl
pairs_fail p (x ∷ xs) (y ∷ ys) (suc i) d lx ly fails = ap (p (x, y) &&◌) (pairs_fail p xs ys i d (omega arith) (omega arith) fails) ∙ and_false (p (x, y))
  where
    and_false : (b : Bool) → (b && false) ≡ false
    and_false true = refl
    and_false false = refl
pairs_fail p [] ys i d lx ly fails = absurd (omega arith)
pairs_fail p (x ∷ xs) [] i d lx ly fails = absurd (omega arith)

-- ---- a word

-- the filter's word lacks nothing of the mask's where it has every bit of it
pub word_by_lack : (f m : ℕ) → f < 2 ^ 64 → m < 2 ^ 64 → (bit_and (2 ^ 64 - 1 - f) m == 0) ≡ word_fits (f, m)
word_by_lack f m lf lm = go (cases_eq (bit_and (2 ^ 64 - 1 - f) m) 0)
  where
    go : (bit_and (2 ^ 64 - 1 - f) m ≡ 0) ⊎ (bit_and (2 ^ 64 - 1 - f) m ≡ 0 → ⊥) → (bit_and (2 ^ 64 - 1 - f) m == 0) ≡ word_fits (f, m)
    go (inl none) = let whole = and-not 64 f m lf lm in eq-eqb _ 0 none ∙ sym (eq-eqb (bit_and f m) m (omega arith))
    go (inr some) = let whole = and-not 64 f m lf lm in ne_eqb _ 0 some ∙ sym (ne_eqb (bit_and f m) m (λ same. some (omega arith)))

-- two lacks together
pub lacks_together : (a b : ℕ) → (bit_or a b == 0) ≡ ((a == 0) && (b == 0))
lacks_together zero zero = refl
lacks_together zero (suc b) = let le = le_or_r 0 (suc b) in ne_eqb (bit_or 0 (suc b)) 0 (λ none. omega arith) ∙ sym (ne_eqb (suc b) 0 (λ none. omega arith))
lacks_together (suc a) b = let le = le_or_l (suc a) b in ne_eqb (bit_or (suc a) b) 0 (λ none. omega arith) ∙ ap (λ (t : Bool). t && (b == 0)) (sym (ne_eqb (suc a) 0 (λ none. omega arith)))

-- ---- blocks

-- the first words and the others
cut : (n : ℕ) (fs ms : List ℕ) → length fs ≡ length ms → words_fit fs ms ≡ (words_fit (take n fs) (take n ms) && words_fit (drop n fs) (drop n ms))
cut zero fs ms e = refl
cut (suc n) [] [] e = refl
cut (suc n) [] (m ∷ ms) e = absurd (omega arith)
cut (suc n) (f ∷ fs) [] e = absurd (omega arith)
cut (suc n) (f ∷ fs) (m ∷ ms) e = ap (word_fits (f, m) &&◌) (cut n fs ms (omega arith)) ∙ and_both (word_fits (f, m)) _ _

-- the first blocks and the words behind them
by_blocks : (k : ℕ) (fs ms : List ℕ) → length fs ≡ length ms → (blocks_fit (first_chunks 8 k fs) (first_chunks 8 k ms) && words_fit (drop (k * 8) fs) (drop (k * 8) ms)) ≡ words_fit fs ms
by_blocks zero fs ms e = refl
by_blocks (suc k) fs ms e =
    let place : 8 + k * 8 ≡ suc k * 8 = omega arith in
    let later = by_blocks k (drop 8 fs) (drop 8 ms) (omega (arith, length-drop 8 fs, length-drop 8 ms)) in
    let behind : (xs : List ℕ) → drop (suc k * 8) xs ≡ drop (k * 8) (drop 8 xs) = λ xs. sym (drop-drop (k * 8) 8 xs ∙ ap (λ (n : ℕ). drop n xs) place) in
    rw (behind fs, behind ms) (sym (and_both (words_fit (take 8 fs) (take 8 ms)) _ _) ∙ ap (words_fit (take 8 fs) (take 8 ms) &&◌) later ∙ sym (cut 8 fs ms e))

-- so a test of the blocks and of the rest is one of the sets
pub passes_by_blocks : (fs ms : List ℕ) (fb mb : List (List ℕ)) (fr mr : List ℕ) → length fs ≡ length ms → AreBelow (2 ^ 64) fs → AreBelow (2 ^ 64) ms → fb ≡ first_chunks 8 (length fs / 8) fs → mb ≡ first_chunks 8 (length ms / 8) ms → fr ≡ drop (length fs / 8 * 8) fs → mr ≡ drop (length ms / 8 * 8) ms → (blocks_fit fb mb && words_fit fr mr) ≡ passes (unpacked fs) (unpacked ms)
passes_by_blocks fs ms fb mb fr mr same bf bm efb emb efr emr =
    rw (efb, emb, efr, emr, same) (by_blocks (length ms / 8) fs ms same) ∙ passes_by_words fs ms same bf bm
