-- Sets of bits: what passes says, and that it may be told by words.
use Rattle.std.proofs.Common.{◌≡◌, ℕ, zero, suc, ◌+◌, ◌*◌, ◌/◌, ◌%◌, ◌^◌, ◌<◌, ◌≤◌, ◌==◌, Bool, true, false, cond, ◌⊎◌, inl, inr, List, [], ◌∷◌, length, get_or, refl, ap, sym, ◌∙◌, arith, bit_and, min, filter}
use Rattle.std.specs.Int.{bit_at}
use Rattle.std.specs.List.{list_all, range_with_len}
use Rattle.std.proofs.lemmas.Bool.{cases_lt, cases_eq, and_parts, false≢true, eqb-true, eq-eqb}
use Rattle.std.proofs.lemmas.List.{get_or_past}
use Rattle.std.proofs.lemmas.Nat.{and_le_r, div-mul-add, mod-mul-add}
use Rattle.std.proofs.lemmas.Nat.Bits.{bit_at_and, bit_at-zero, bit_at-lt, same_from_bits_below}
use Rattle.std.specs.Int.Bits.{and_zero_r}
use Rattle.kd_bloom.specs.Bits.{bit_is_set, bit_numbers, passes}
use Rattle.kd_bloom.specs.Packed.{unpacked, words_fit}
use Rattle.kd_bloom.proofs.Joined.{AreBelow, bit_of_word}

-- what passes a test throughout a filtered range
all_kept : (p q : ℕ → Bool) (a n : ℕ) → ((b : ℕ) → q b ≡ true → p b ≡ true) → list_all p (filter q (range_with_len a n)) ≡ true
all_kept p q a zero h = refl
all_kept p q a (suc n) h = go (q a) refl (all_kept p q (a + 1) n h)
  where
    go : (t : Bool) → q a ≡ t → list_all p (filter q (range_with_len (a + 1) n)) ≡ true → list_all p (cond t (a ∷ filter q (range_with_len (a + 1) n)) (filter q (range_with_len (a + 1) n))) ≡ true
    go true e later = rw (h a e) later
    go false e later = later

-- what passes a test of all that is kept passes it wherever it would be kept
kept_all : (p q : ℕ → Bool) (a n b : ℕ) → list_all p (filter q (range_with_len a n)) ≡ true → a ≤ b → b < a + n → q b ≡ true → p b ≡ true
kept_all p q a zero b all low high here = absurd (omega arith)
kept_all p q a (suc n) b all low high here = go (q a) refl all (cases_eq a b) (λ rest more. kept_all p q (a + 1) n b rest more (omega arith) here)
  where
    go : (t : Bool) → q a ≡ t → list_all p (cond t (a ∷ filter q (range_with_len (a + 1) n)) (filter q (range_with_len (a + 1) n))) ≡ true → (a ≡ b) ⊎ (a ≡ b → ⊥) → (list_all p (filter q (range_with_len (a + 1) n)) ≡ true → a + 1 ≤ b → p b ≡ true) → p b ≡ true
    go true e both (inl same) later = rw (← same) ((and_parts (p a) _ both).0)
    go true e both (inr other) later = later ((and_parts (p a) _ both).1) (omega arith)
    go false e rest (inl same) later = absurd (false≢true (sym e ∙ ap q same ∙ here))
    go false e rest (inr other) later = later rest (omega arith)

-- a bit that is set lies within the bytes
has_within : (bytes : List ℕ) (b : ℕ) → bit_is_set bytes b ≡ true → b < 8 * length bytes
unfolding bit_is_set
has_within bytes b here = go (cases_lt b (8 * length bytes))
  where
    go : (b < 8 * length bytes) ⊎ (8 * length bytes ≤ b) → b < 8 * length bytes
    go (inl within) = within
    go (inr past) =
        let none : get_or bytes (b / 8) 0 ≡ 0 = get_or_past bytes (b / 8) 0 (omega arith) in
        let bit : bit_at (get_or bytes (b / 8) 0) (b % 8) ≡ 0 = ap (λ (n : ℕ). bit_at n (b % 8)) none ∙ bit_at-zero (b % 8) in
        let one : bit_at (get_or bytes (b / 8) 0) (b % 8) ≡ 1 = eqb-true _ _ here in
        absurd (omega arith)

-- where every bit of the mask is one of the filter, it passes
pub passes_true : (f m : List ℕ) → ((b : ℕ) → bit_is_set m b ≡ true → bit_is_set f b ≡ true) → passes f m ≡ true
unfolding passes bit_numbers
passes_true f m h = all_kept (bit_is_set f) (bit_is_set m) 0 (8 * length m) h

-- and only there
pub passes_each : (f m : List ℕ) → passes f m ≡ true → (b : ℕ) → bit_is_set m b ≡ true → bit_is_set f b ≡ true
unfolding passes bit_numbers
passes_each f m all b here =
    let within = has_within m b here in
    kept_all (bit_is_set f) (bit_is_set m) 0 (8 * length m) b all (omega arith) (omega arith) here

pub same_bool : (x y : Bool) → (x ≡ true → y ≡ true) → (y ≡ true → x ≡ true) → x ≡ y
same_bool true y to from = sym (to refl)
same_bool false true to from = from refl
same_bool false false to from = refl

-- passing goes by the sets alone
pub passes_same : (f f' m m' : List ℕ) → ((b : ℕ) → bit_is_set f b ≡ bit_is_set f' b) → ((b : ℕ) → bit_is_set m b ≡ bit_is_set m' b) → passes f m ≡ passes f' m'
passes_same f f' m m' ef em =
    same_bool (passes f m) (passes f' m')
    (λ all. passes_true f' m' (λ b here. sym (ef b) ∙ passes_each f m all b (em b ∙ here)))
    (λ all. passes_true f m (λ b here. ef b ∙ passes_each f' m' all b (sym (em b) ∙ here)))

-- ---- by words

abbrev AllFit : List ℕ → List ℕ → Type 0
AllFit fs ms = (i : ℕ) → bit_and (get_or fs i 0) (get_or ms i 0) ≡ get_or ms i 0

zip_all : (fs ms : List ℕ) → length fs ≡ length ms → AllFit fs ms → words_fit fs ms ≡ true
zip_all [] ms e h = refl
zip_all (f ∷ fs) [] e h = refl
zip_all (f ∷ fs) (m ∷ ms) e h = rw (eq-eqb (bit_and f m) m (h 0)) (zip_all fs ms (omega arith) (λ i. h (suc i)))

all_zip : (fs ms : List ℕ) → length fs ≡ length ms → words_fit fs ms ≡ true → AllFit fs ms
all_zip fs [] e h i = and_zero_r (get_or fs i 0)
all_zip [] (m ∷ ms) e h i = absurd (omega arith)
all_zip (f ∷ fs) (m ∷ ms) e h zero = eqb-true _ _ ((and_parts (bit_and f m == m) _ h).0)
all_zip (f ∷ fs) (m ∷ ms) e h (suc i) = all_zip fs ms (omega arith) ((and_parts (bit_and f m == m) _ h).1) i

one_in_both : (x y z : ℕ) → x < 2 → z ≡ min x y → z ≡ y → y ≡ 1 → x ≡ 1
one_in_both x y z lt e same one = omega arith

lesser_same : (x y : ℕ) → x < 2 → y < 2 → (y ≡ 1 → x ≡ 1) → min x y ≡ y
lesser_same x y lx ly h = go (cases_eq y 1)
  where
    go : (y ≡ 1) ⊎ (y ≡ 1 → ⊥) → min x y ≡ y
    go (inl one) = let also = h one in omega arith
    go (inr none) = omega arith

word_has : (ws : List ℕ) (b : ℕ) → AreBelow (2 ^ 64) ws → bit_is_set (unpacked ws) b ≡ (bit_at (get_or ws (b / 64) 0) (b % 64) == 1)
unfolding bit_is_set
word_has ws b below = ap (λ (n : ℕ). n == 1) (bit_of_word ws b below)

fit_each : (fs ms : List ℕ) → AreBelow (2 ^ 64) fs → AreBelow (2 ^ 64) ms → AllFit fs ms → (b : ℕ) → bit_is_set (unpacked ms) b ≡ true → bit_is_set (unpacked fs) b ≡ true
fit_each fs ms bf bm fit b here =
    let m = get_or ms (b / 64) 0 in
    let f = get_or fs (b / 64) 0 in
    let one : bit_at (get_or ms (b / 64) 0) (b % 64) ≡ 1 = eqb-true _ _ (sym (word_has ms b bm) ∙ here) in
    let same : bit_at (bit_and (get_or fs (b / 64) 0) (get_or ms (b / 64) 0)) (b % 64) ≡ bit_at (get_or ms (b / 64) 0) (b % 64) = ap (λ (n : ℕ). bit_at n (b % 64)) (fit (b / 64)) in
    word_has fs b bf ∙ eq-eqb _ 1 (one_in_both _ _ _ (bit_at-lt (get_or fs (b / 64) 0) (b % 64)) (bit_at_and (get_or fs (b / 64) 0) (get_or ms (b / 64) 0) (b % 64)) same one)

each_fit : (fs ms : List ℕ) → AreBelow (2 ^ 64) fs → AreBelow (2 ^ 64) ms → ((b : ℕ) → bit_is_set (unpacked ms) b ≡ true → bit_is_set (unpacked fs) b ≡ true) → AllFit fs ms
each_fit fs ms bf bm h i =
    same_from_bits_below 64 _ (get_or ms i 0) (let le = and_le_r (get_or fs i 0) (get_or ms i 0) in let lt = bm i in omega arith) (bm i) one_bit
  where
    set_in_mask : (j : ℕ) → j < 64 → bit_at (get_or ms i 0) j ≡ 1 → bit_at (get_or fs i 0) j ≡ 1
    set_in_mask j lt one =
        let q : (i * 64 + j) / 64 ≡ i = div-mul-add i 64 j lt in
        let r : (i * 64 + j) % 64 ≡ j = mod-mul-add i 64 j lt in
        let mask : bit_is_set (unpacked ms) (i * 64 + j) ≡ true = word_has ms (i * 64 + j) bm ∙ rw (q, r) (eq-eqb _ 1 one) in
        rw (q, r) at (eqb-true _ _ (sym (word_has fs (i * 64 + j) bf) ∙ h (i * 64 + j) mask))

    one_bit : (j : ℕ) → j < 64 → bit_at (bit_and (get_or fs i 0) (get_or ms i 0)) j ≡ bit_at (get_or ms i 0) j
    one_bit j lt = bit_at_and (get_or fs i 0) (get_or ms i 0) j ∙ lesser_same _ _ (bit_at-lt (get_or fs i 0) j) (bit_at-lt (get_or ms i 0) j) (set_in_mask j lt)

-- word by word the test is the same
pub passes_by_words : (fs ms : List ℕ) → length fs ≡ length ms → AreBelow (2 ^ 64) fs → AreBelow (2 ^ 64) ms → words_fit fs ms ≡ passes (unpacked fs) (unpacked ms)
passes_by_words fs ms e bf bm =
    same_bool (words_fit fs ms) (passes (unpacked fs) (unpacked ms))
    (λ all. passes_true (unpacked fs) (unpacked ms) (fit_each fs ms bf bm (all_zip fs ms e all)))
    (λ all. zip_all fs ms e (each_fit fs ms bf bm (passes_each (unpacked fs) (unpacked ms) all)))
