-- The number that digits write, one digit after the other.
use Rattle.std.proofs.Common.{◌≡◌, ℕ, ◌+◌, ◌-◌, ◌*◌, ◌<◌, ◌≤◌, Bool, true, false, nat_le, List, length, get_or, drop, map, refl, ap, ◌∙◌, arith, add-one, lit<, leb-true}
use Rattle.std.proofs.Math.Seq.{drop-cons}
use Rattle.std.specs.Int.Digits.{number_from_digits_after}
use Rattle.std.proofs.lemmas.Int.Digits.{number_after_ge}
use Rattle.kd_creds.specs.Numbers.{digits_value}

-- what the digits write behind those of `before`
abbrev pub value_behind : ℕ → List ℕ → ℕ
value_behind before word = number_from_digits_after 10 before (map (λ c. c - 48) word)

-- one digit more
pub value_more : (word : List ℕ) (i before : ℕ) → i < length word → value_behind (before * 10 + (get_or word i 0 - 48)) (drop (i + 1) word) ≡ value_behind before (drop i word)
value_more word i before lt = rw (drop-cons word i 0 lt) (ap (λ k. value_behind (before * 10 + (get_or word i 0 - 48)) (drop k word)) (add-one i))

-- it only grows
pub value_grows : (before : ℕ) (word : List ℕ) → before ≤ value_behind before word
value_grows before word = number_after_ge 10 before (map (λ c. c - 48) word) (lit< tt)

pub value_whole : (word : List ℕ) → value_behind 0 word ≡ digits_value word
unfolding digits_value
value_whole word = refl

by_cases : (n top : ℕ) (b : Bool) → (b ≡ true → n ≤ top) → top < n → b ≡ false
by_cases n top true small above = absurd (omega (arith, small refl))
by_cases n top false small above = refl

-- once the digits so far are above 32 bits, so is the whole
pub too_great : (word : List ℕ) (i before : ℕ) → i < length word → value_behind before (drop i word) ≡ digits_value word → 4294967295 < before * 10 + (get_or word i 0 - 48) → nat_le (digits_value word) 4294967295 ≡ false
too_great word i before lt same above =
    let more = value_more word i before lt in
    let grows : before * 10 + (get_or word i 0 - 48) ≤ value_behind (before * 10 + (get_or word i 0 - 48)) (drop (i + 1) word) = value_grows (before * 10 + (get_or word i 0 - 48)) (drop (i + 1) word) in
    let whole : before * 10 + (get_or word i 0 - 48) ≤ digits_value word = rw (← (more ∙ same)) grows in
    by_cases (digits_value word) 4294967295 (nat_le (digits_value word) 4294967295) (λ e. leb-true _ _ e) (omega (arith, whole, above))
