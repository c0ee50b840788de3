-- Where a search by id ends among rows, and the rows after an edit at that place.
use Rattle.std.proofs.Common.{◌≡◌, ℕ, ◌+◌, ◌-◌, ◌<◌, ◌≤◌, List, length, get_or, set, Result, Ok, Err, IfOk, IfErr, sym, ap, ◌∙◌, subst, arith}
use Rattle.std.specs.List.{insert, remove}
use Rattle.std.specs.List.Sorted.{IsSearchInRange, IsBinarySearchResult, IsNonDecreasingBy}
use Rattle.std.specs.Ordering.{nat_cmp, ordering_index}
use Rattle.std.proofs.lemmas.Cmp.{ranked}
use Rattle.std.proofs.lemmas.List.Sorted.{IsNonDecreasingBy-from_default}
use Rattle.std.proofs.lemmas.List.Edits.{length-insert, get_or-insert_below, get_or-insert_at, get_or-insert_above, length-remove, get_or-remove_below, get_or-remove_above}
use Rattle.std.proofs.lemmas.List.{get_or_default}
use Rattle.std.proofs.lemmas.Bool.Decides.{nat_tests}
use Rattle.std.proofs.lemmas.Grind.{common_steps}
use Rattle.kd_registry.specs.declared.holdings.Holding.{Holding}
use Rattle.kd_registry.specs.Counts.{row_at, AreRows, IsAt, IsGapFor}

abbrev empty : Holding
empty = record { id = 0; count = 0 }

-- no row is the connection's
abbrev pub HasNoRow : List Holding → ℕ → Type 0
HasNoRow l id = (k : ℕ) → k < length l → (row_at l k).id ≡ id → ⊥

module _ (l : List Holding) (rows : AreRows l) (id : ℕ) where
  comparisons_rise : IsNonDecreasingBy (λ (h : Holding). ordering_index (nat_cmp h.id id)) l
  comparisons_rise = IsNonDecreasingBy-from_default (λ (h : Holding). ordering_index (nat_cmp h.id id)) l empty (λ i j le within.
      let ids_rise : (row_at l i).id ≤ (row_at l j).id = grind (arith, rows.rising i j, λ (same : i ≡ j). ap (λ k. (row_at l k).id) same) in
      grind (arith, nat_tests))

  -- a binary search ends at the connection's row, or at the gap for it
  pub searched : (r : Result ℕ ℕ) → IsSearchInRange r (length l) → IsBinarySearchResult (λ (h : Holding). nat_cmp h.id id) l r → record { found : IfOk r (IsAt l id); absent : IfErr r (IsGapFor l id) }
  searched (Ok at) within equal = record { found = record { within = within; has_id = ranked _ id _ (sym (equal empty)) }; absent = tt }
  searched (Err at) within parted = record {
    found = tt;
    absent = record {
      within = within;
      lower_before = λ k lt. ranked _ id _ (sym ((parted comparisons_rise).0 k empty (omega arith) lt));
      higher_after = λ k le lt. ranked _ id _ (sym ((parted comparisons_rise).1 k empty le lt));
    };
  }

-- where there is a gap there is no row
pub none_in_gap : (l : List Holding) (id place : ℕ) → IsGapFor l id place → HasNoRow l id
none_in_gap l id place gap k lt e = grind (arith, gap.lower_before k, gap.higher_after k, e, lt)

module _ (l : List Holding) (rows : AreRows l) (id place : ℕ) (at : IsAt l id place) where
  -- the row that was read isn't empty
  pub some_count : (h : Holding) → h ≡ get_or l place h → 0 < h.count
  some_count h read = omega (arith, rows.some place at.within, ap (λ (x : Holding). x.count) (read ∙ get_or_default l place h empty at.within))

  -- another count in it keeps the order
  pub rows_set : (count : ℕ) → 0 < count → AreRows (set l place (record { id = id; count = count }))
  rows_set count more = record {
    rising = λ i j lt within. grind (arith, common_steps, rows.rising i j, rows.rising i place, rows.rising place j, at.within, at.has_id);
    some = λ k within. grind (arith, common_steps, rows.some k, more, at.within);
  }

  below : (k : ℕ) → k < place → row_at (remove l place) k ≡ row_at l k
  below k lt = get_or-remove_below l place empty k lt at.within

  above : (k : ℕ) → place ≤ k → row_at (remove l place) k ≡ row_at l (k + 1)
  above k le = get_or-remove_above l place empty k le at.within

  -- and so does its end
  pub rows_remove : AreRows (remove l place)
  rows_remove = record {
    rising = λ i j lt within. grind (arith, below i, above i, below j, above j, rows.rising i j, rows.rising i (j + 1), rows.rising (i + 1) (j + 1), length-remove l place at.within);
    some = λ k within. grind (arith, below k, above k, rows.some k, rows.some (k + 1), length-remove l place at.within);
  }

  -- it was the only one
  pub none_left : HasNoRow (remove l place) id
  none_left k lt e = grind (arith, below k, above k, rows.rising k place, rows.rising place (k + 1), length-remove l place at.within, at.within, at.has_id, e, lt)

-- a row for it in the gap keeps the order
pub rows_insert : (l : List Holding) (id place count : ℕ) → AreRows l → IsGapFor l id place → 0 < count → AreRows (insert l place (record { id = id; count = count }))
rows_insert l id place count rows gap more = record {
  rising = λ i j lt within. grind (arith, under i, here i, over i, under j, here j, over j, rows.rising i j, rows.rising i (j - 1), rows.rising (i - 1) (j - 1), gap.lower_before i, gap.higher_after (j - 1), size);
  some = λ k within. grind (arith, under k, here k, over k, rows.some k, rows.some (k - 1), more, size);
}
  where
    new : List Holding
    new = insert l place (record { id = id; count = count })

    size : length new ≡ length l + 1
    size = length-insert l place (record { id = id; count = count }) gap.within

    under : (k : ℕ) → k < place → row_at new k ≡ row_at l k
    under k lt = get_or-insert_below l place (record { id = id; count = count }) empty k lt gap.within

    here : (k : ℕ) → k ≡ place → row_at new k ≡ record { id = id; count = count }
    here k e = rw e (get_or-insert_at l place (record { id = id; count = count }) empty gap.within)

    over : (k : ℕ) → place < k → row_at new k ≡ row_at l (k - 1)
    over k lt = subst (λ q. row_at new q ≡ row_at l (k - 1)) {x = k - 1 + 1} (omega arith) (get_or-insert_above l place (record { id = id; count = count }) empty (k - 1) (omega arith) gap.within)
