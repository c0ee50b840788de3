-- What a walk along the slices knows of the gaps behind and before it.
use Rattle.std.specs.Prelude.{◌≡◌, ◌<◌, ◌≤◌, ◌+◌, ◌-◌, ℕ, Bool, true, false, List, [], ◌∷◌, Option, cond, fold, max, nat_lt, not, refl, sum_by, Some, None}
use Rattle.std.specs.List.{find, range_with_len}
use Rattle.std.specs.Ordering.{nat_cmp, ord_max}
use Rattle.std.proofs.Common.{ap, arith, suc, sym, ◌∙◌}
use Rattle.std.proofs.lemmas.Bool.Decides.{nat_tests}
use Rattle.std.proofs.lemmas.List.Elements.{filter-append}
use Rattle.std.proofs.lemmas.List.Sums.{fold-append, sum_by-cons}
use Rattle.kd_model.proofs.Least.{least_of_append, lesser_assoc}
use Rattle.kd_model.proofs.Places.{gaps_rank}
use Rattle.kd_model.specs.Slices.{AreInOrder, between, slice_end, gaps_from, has_number, is_better, lowest_unused}
use Rattle.kd_model.specs.Words.{least, lesser, some_of, those}
use Rattle.kd_model.specs.declared.slice_no.TheConstants.{SLICES}
use Rattle.kd_model.specs.declared.placed.Gap.{Gap}
use Rattle.kd_model.specs.declared.placed.Placed.{Placed}
use Rattle.kd_slices.specs.Gaps.{gap_holds}

-- the best of some gaps for a length
abbrev pub best_of : ℕ → List Gap → Option Gap
best_of len gs = least is_better (those (gap_holds len) gs)

-- the best so far and the best of what is left are the best of all
pub record Searches (start size len : ℕ) (best : Option Gap) (all rest : List Placed) : Type 0 where
  pub order : AreInOrder start size rest
  pub whole : lesser is_better best (best_of len (gaps_from start size rest)) ≡ best_of len (gaps_from 0 size all)

pub searches_on : (start size len : ℕ) (best next : Option Gap) (all ss : List Placed) (s : Placed) → Searches start size len best all (s ∷ ss) → next ≡ lesser is_better best (best_of len (between start s.offset)) → Searches (slice_end s) size len next all ss
searches_on start size len best next all ss s h e =
    let here = best_of len (between start s.offset) in
    let rest = best_of len (gaps_from (slice_end s) size ss) in
    let both : best_of len (gaps_from start size (s ∷ ss)) ≡ lesser is_better here rest = ap (least is_better) (filter-append (gap_holds len) (between start s.offset) (gaps_from (slice_end s) size ss)) ∙ least_of_append is_better gaps_rank (those (gap_holds len) (between start s.offset)) (those (gap_holds len) (gaps_from (slice_end s) size ss)) in
    record {
      order = h.order.2;
      whole = ap (λ o. lesser is_better o rest) e ∙ lesser_assoc is_better gaps_rank best here rest ∙ ap (lesser is_better best) (sym both) ∙ h.whole;
    }

-- slices in order end within the size
pub ends_within : (start size : ℕ) (ss : List Placed) → AreInOrder start size ss → start ≤ size
ends_within start size [] o = o
ends_within start size (s ∷ ss) o = let rest = ends_within (slice_end s) size ss o.2 in omega arith

-- slices in order take no more bytes than there are
pub total_within : (start size : ℕ) (ss : List Placed) → AreInOrder start size ss → start + sum_by (λ (s : Placed). s.len) ss ≤ size
total_within start size [] o = omega arith
total_within start size (s ∷ ss) o = let rest = total_within (slice_end s) size ss o.2 in rw sum_by-cons (omega arith)

-- the greatest of a number and the lengths of some gaps
abbrev pub greatest : ℕ → List Gap → ℕ
greatest most gs = fold (λ m (g : Gap). max m g.len) most gs

-- what lies between two places counts by its length
pub greatest_between : (most start upto : ℕ) → greatest most (between start upto) ≡ max most (upto - start)
greatest_between most start upto = go (nat_lt start upto) refl
  where
    go : (b : Bool) → nat_lt start upto ≡ b → greatest most (elim b [ true ↦ record { start = start; len = upto - start } ∷ [] | false ↦ [] ]) ≡ max most (upto - start)
    go true e = refl
    go false e = grind (arith, nat_tests)

-- the greatest so far and what is left make the greatest of all
pub record Measures (start size most : ℕ) (all rest : List Placed) : Type 0 where
  pub order : AreInOrder start size rest
  pub greatest : greatest most (gaps_from start size rest) ≡ greatest 0 (gaps_from 0 size all)

pub measures_on : (start size most next : ℕ) (all ss : List Placed) (s : Placed) → Measures start size most all (s ∷ ss) → next ≡ max most (s.offset - start) → Measures (slice_end s) size next all ss
measures_on start size most next all ss s h e =
    let here : greatest most (between start s.offset) ≡ next = greatest_between most start s.offset ∙ sym e in
    record {
      order = h.order.2;
      greatest = ap (λ m. greatest m (gaps_from (slice_end s) size ss)) (sym here) ∙ sym (fold-append (λ m (g : Gap). max m g.len) most (between start s.offset) (gaps_from (slice_end s) size ss)) ∙ h.greatest;
    }

-- the lowest unused number from one on
unfoldable pub unused_from : List Placed → ℕ → Option ℕ
unused_from ss n = find (λ k. not (some_of (has_number k) ss)) (range_with_len n (SLICES - n))

pub unused_from_start : (ss : List Placed) → lowest_unused ss ≡ unused_from ss 0
unfolding lowest_unused unused_from
unused_from_start ss = refl

unused_on : (ss : List Placed) (n : ℕ) → n < SLICES → unused_from ss n ≡ cond (not (some_of (has_number n) ss)) (Some n) (unused_from ss (n + 1))
unfolding unused_from
unused_on ss n h = let left : SLICES - n ≡ suc (SLICES - (n + 1)) = omega arith in rw left refl

-- a number in use leaves those behind it
pub passes_over : (ss : List Placed) (n : ℕ) → n < SLICES → some_of (has_number n) ss ≡ true → unused_from ss n ≡ unused_from ss (n + 1)
passes_over ss n h e = unused_on ss n h ∙ ap (λ b. cond (not b) (Some n) (unused_from ss (n + 1))) e

-- an unused one is found
pub stops_at : (ss : List Placed) (n : ℕ) → n < SLICES → some_of (has_number n) ss ≡ false → unused_from ss n ≡ Some n
stops_at ss n h e = unused_on ss n h ∙ ap (λ b. cond (not b) (Some n) (unused_from ss (n + 1))) e

-- behind the last number there is none
pub finds_none : (ss : List Placed) (n : ℕ) → SLICES ≤ n → unused_from ss n ≡ None
unfolding unused_from
finds_none ss n h = let left : SLICES - n ≡ 0 = omega arith in rw left refl

-- `max` of two numbers
pub max_is : (m n : ℕ) → ord_max nat_cmp m n ≡ max m n
max_is m n = grind (arith, nat_tests)
