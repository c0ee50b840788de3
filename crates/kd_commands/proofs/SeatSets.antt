-- Who is in a set of seats.
use Rattle.std.proofs.Common.{◌≡◌, ℕ, ◌+◌, ◌<◌, ◌≤◌, suc, zero, Bool, true, false, List, refl, sym, ap, ◌∙◌, arith}
use Rattle.std.specs.Prelude.{◌==◌, ◌||◌, ◌&&◌}
use Rattle.std.specs.List.{range_with_len}
use Rattle.std.proofs.lemmas.Bool.{eqb-false, eqb-true}
use Rattle.std.proofs.lemmas.Map.Views.{any-filter_same}
use Rattle.kd_model.specs.Words.{contains}
use Rattle.kd_model.proofs.Truth.{and_true}
use Rattle.kd_commands.specs.State.{seat_set}

-- a range has each number from its first up to its end
pub range_has : (n from count : ℕ) → from ≤ n → n < from + count → contains n (range_with_len from count) ≡ true
range_has n from zero low high = absurd (omega arith)
range_has n from (suc count) low high = go (n == from) refl (λ above. range_has n (from + 1) count above (omega arith))
  where
    go : (b : Bool) → (n == from) ≡ b → (from + 1 ≤ n → contains n (range_with_len (from + 1) count) ≡ true)
        → (b || contains n (range_with_len (from + 1) count)) ≡ true
    go true e rest = refl
    go false e rest = rest (omega (arith, low, eqb-false n from e))

-- of what a set was made of, and one of the 64
set_has : (n : ℕ) (seats : List ℕ) → contains n (seat_set seats) ≡ (contains n seats && contains n (range_with_len 0 64))
unfolding seat_set
set_has n seats =
    any-filter_same (λ k. n == k) (λ k. contains k seats) (contains n seats) (λ k e. ap (λ m. contains m seats) (sym (eqb-true n k e))) (range_with_len 0 64)

-- a seat that is one of the 64 is in the set where it is among those that it was made of
pub in_set : (n : ℕ) (seats : List ℕ) → n < 64 → contains n (seat_set seats) ≡ contains n seats
in_set n seats low =
    set_has n seats
    ∙ ap (λ b. contains n seats && b) (range_has n 0 64 (omega arith) (omega (arith, low)))
    ∙ and_true (contains n seats)

-- and no other is
pub not_in_set : (n : ℕ) (seats : List ℕ) → contains n seats ≡ false → contains n (seat_set seats) ≡ false
not_in_set n seats e = set_has n seats ∙ ap (λ b. b && contains n (range_with_len 0 64)) e
