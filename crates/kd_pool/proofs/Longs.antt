-- Why a length has no place that no pool has.
use Rattle.std.specs.Prelude.{◌≡◌, ◌<◌, ◌≤◌, ◌+◌, ◌==◌, ℕ, Bool, true, false, not, List, [], ◌∷◌, Some, None, cond, length, nat_le, option_map, refl, sum_by}
use Rattle.std.specs.List.{find, list_any, range_with_len}
use Rattle.std.proofs.Common.{ap, arith, eqb, suc, zero, ◌∙◌, ⊎_elim}
use Rattle.std.proofs.lemmas.Bool.{cases_eq}
use Rattle.std.proofs.lemmas.Bool.Decides.{nat_tests}
use Rattle.std.proofs.lemmas.List.{length-map}
use Rattle.std.proofs.lemmas.List.Sums.{sum_by-cons}
use Rattle.std.proofs.lemmas.Map.Steps.{le-length_from_below}
use Rattle.kd_model.proofs.Truth.{not_false}
use Rattle.kd_model.proofs.Places.{numbers, order_is_whole}
use Rattle.kd_model.specs.Slices.{Book, IsSound, best_gap, gaps, gaps_from, has_number, is_better, lowest_unused, place, unused_number, used}
use Rattle.kd_model.specs.Words.{least, some_of, those}
use Rattle.kd_model.specs.declared.placed.Gap.{Gap}
use Rattle.kd_model.specs.declared.placed.Placed.{Placed}
use Rattle.kd_model.specs.declared.slice_no.TheConstants.{SLICES}

-- no number of a range passes a test that finds none
found_nowhere : (p : ℕ → Bool) (n a q : ℕ) → find p (range_with_len a n) ≡ None → a ≤ q → q < a + n → p q ≡ false
found_nowhere p zero a q h low high = absurd (omega arith)
found_nowhere p (suc n) a q h low high = go (p a) refl h (found_nowhere p n (a + 1) q)
  where
    go : (b : Bool) → p a ≡ b → cond b (Some a) (find p (range_with_len (a + 1) n)) ≡ None → (find p (range_with_len (a + 1) n) ≡ None → a + 1 ≤ q → q < a + 1 + n → p q ≡ false) → p q ≡ false
    go true e f more = cc
    go false e f more = ⊎_elim (λ same. ap p same ∙ e) (λ other. more f (omega arith) (omega arith)) (cases_eq q a)

swapped : (q n : ℕ) → eqb q n ≡ (n == q)
swapped q n = go (n == q) refl
  where
    go : (b : Bool) → (n == q) ≡ b → eqb q n ≡ b
    go true e = grind (arith, nat_tests)
    go false e = grind (arith, nat_tests)

any_number : (q : ℕ) (ss : List Placed) → list_any (eqb q) (numbers ss) ≡ some_of (has_number q) ss
any_number q [] = refl
any_number q (s ∷ ss) = rw (swapped q s.number, any_number q ss) refl

-- where no number is unused there are as many slices as numbers
pub all_in_use : (b : Book) → unused_number b ≡ None → SLICES ≤ length b.slices
unfolding lowest_unused
all_in_use b h =
    let each : (q : ℕ) → q < SLICES → list_any (eqb q) (numbers b.slices) ≡ true = λ q l. any_number q b.slices ∙ not_false (some_of (has_number q) b.slices) (found_nowhere (λ n. not (some_of (has_number n) b.slices)) SLICES 0 q h (omega arith) (omega arith)) in
    let many = le-length_from_below (numbers b.slices) SLICES each in
    omega (arith, many, length-map b.slices (λ (s : Placed). s.number))

none_hold : (len : ℕ) (gs : List Gap) → sum_by (λ (g : Gap). g.len) gs < len → those (λ (g : Gap). nat_le len g.len) gs ≡ []
none_hold len [] h = refl
none_hold len (g ∷ gs) h =
    let sum : sum_by (λ (x : Gap). x.len) (g ∷ gs) ≡ g.len + sum_by (λ (x : Gap). x.len) gs = sum_by-cons (λ (x : Gap). x.len) g gs in
    let small : g.len < len = omega (arith, sum) in
    let out : nat_le len g.len ≡ false = grind (arith, nat_tests) in
    rw out (none_hold len gs (omega (arith, sum)))

-- no gap holds more than the pool has
pub nothing_holds : (b : Book) (len : ℕ) → IsSound b → b.size < len → place b len ≡ None
unfolding place best_gap gaps
nothing_holds b len s h =
    let made_up : used b + sum_by (λ (g : Gap). g.len) (gaps_from 0 b.size b.slices) ≡ b.size = omega (arith, order_is_whole 0 b.size b.slices s.order) in
    ap (λ gs. option_map (λ (g : Gap). g.start) (least is_better gs)) (none_hold len (gaps_from 0 b.size b.slices) (omega (arith, made_up)))
