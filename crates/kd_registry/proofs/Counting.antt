-- What an edit makes of the counts, in the rows and in the claims.
use Rattle.std.proofs.Common.{◌≡◌, ℕ, suc, ◌+◌, ◌<◌, ◌≤◌, Bool, true, false, List, [], ◌∷◌, length, get_or, set, refl, sym, ap, ◌∙◌, subst, arith, cond}
use Rattle.std.specs.Prelude.{not, ◌&&◌, ◌==◌}
use Rattle.std.specs.List.{insert, remove, sum_by}
use Rattle.std.proofs.lemmas.Bool.Decides.{nat_tests}
use Rattle.std.proofs.lemmas.List.{get_or_default}
use Rattle.std.proofs.lemmas.List.Edits.{length-remove}
use Rattle.std.proofs.lemmas.List.Elements.{filter_agree}
use Rattle.std.proofs.lemmas.List.Sums.{sum_by-cons, sum_by-set, sum_by-insert, sum_by-remove, length-filter, count_by-le-length}
use Rattle.kd_registry.specs.declared.claim.Claim.{Claim}
use Rattle.kd_registry.specs.declared.holdings.Holding.{Holding}
use Rattle.kd_registry.specs.Claims.{is_ordinary_claim, left_by}
use Rattle.kd_registry.specs.Counts.{row_at, AreRows, IsAt, anyone, only, but, row_count, claim_count, is_chosen, weight, claimed, Tells}
use Rattle.kd_registry.proofs.Filters.{filter_twice}
use Rattle.kd_registry.proofs.Finding.{HasNoRow, none_left}

-- In the rows

abbrev empty : Holding
empty = record { id = 0; count = 0 }

-- a connection without a row counts nothing
pub none_counted : (l : List Holding) (id : ℕ) → HasNoRow l id → claim_count (only id) l ≡ 0
none_counted [] id none = refl
none_counted (h ∷ hs) id none = grind (arith, nat_tests, sum_by-cons (row_count (only id)) h hs, none 0 (omega arith), none_counted hs id (λ k lt. none (suc k) (omega (arith, lt))))

-- and changes no count where it is left out
pub none_less : (chosen : ℕ → Bool) (l : List Holding) (id : ℕ) → HasNoRow l id → claim_count chosen l ≡ claim_count (but chosen id) l
none_less chosen [] id none = refl
none_less chosen (h ∷ hs) id none =
    sum_by-cons (row_count chosen) h hs
    ∙ ap (row_count chosen h +◌) (none_less chosen hs id (λ k lt. none (suc k) (omega (arith, lt))))
    ∙ ap (◌+ claim_count (but chosen id) hs) (same (chosen h.id) (h.id == id) (other (h.id == id) refl))
    ∙ sym (sum_by-cons (row_count (but chosen id)) h hs)
  where
    other : (b : Bool) → (h.id == id) ≡ b → b ≡ false
    other b e = grind (arith, nat_tests, e, none 0 (omega arith))

    same : (a b : Bool) → b ≡ false → cond a h.count 0 ≡ cond (a && not b) h.count 0
    same true b e = rw e refl
    same false b e = refl

-- no more rows than claims
pub few_rows : (l : List Holding) → AreRows l → length l ≤ claim_count anyone l
few_rows l rows = go l rows.some
  where
    go : (l : List Holding) → ((k : ℕ) → k < length l → 0 < (row_at l k).count) → length l ≤ claim_count anyone l
    go [] some = omega arith
    go (h ∷ hs) some = omega (arith, sum_by-cons (row_count anyone) h hs, some 0 (omega arith), go hs (λ k lt. some (suc k) (omega (arith, lt))))

module _ (l : List Holding) (rows : AreRows l) (id place : ℕ) (at : IsAt l id place) where
  -- a connection's count stands in its row
  pub counted_at : claim_count (only id) l ≡ (row_at l place).count
  counted_at = grind (arith, nat_tests, sum_by-remove (row_count (only id)) l place empty at.within, none_counted (remove l place) id (none_left l rows id place at), at.has_id)

  -- all claims less
  pub counted_cleared : (chosen : ℕ → Bool) → claim_count chosen (remove l place) ≡ claim_count (but chosen id) l
  counted_cleared chosen = none_less chosen (remove l place) id (none_left l rows id place at) ∙ go (sum_by-remove (row_count (but chosen id)) l place empty at.within)
    where
      go : claim_count (but chosen id) (remove l place) + row_count (but chosen id) (row_at l place) ≡ claim_count (but chosen id) l → claim_count (but chosen id) (remove l place) ≡ claim_count (but chosen id) l
      go s = omega (arith, s, nothing (chosen (row_at l place).id) ((row_at l place).id == id) (grind (arith, nat_tests, at.has_id)))
        where
          nothing : (a b : Bool) → b ≡ true → cond (a && not b) (row_at l place).count 0 ≡ 0
          nothing true b e = rw e refl
          nothing false b e = refl

-- what was read of it
pub count_read : (z l s : List Holding) (id place : ℕ) (h : Holding) → z ≡ l → l ≡ s → AreRows l → IsAt z id place → h ≡ get_or l place h → h.count ≡ claim_count (only id) s
count_read z l s id place h e f rows at read =
    let at' : IsAt l id place = subst (λ y. IsAt y id place) e at in
    ap (λ (x : Holding). x.count) (read ∙ get_or_default l place h empty at'.within)
    ∙ sym (counted_at l rows id place at')
    ∙ ap (claim_count (only id)) f

-- In the claims

weighed : (chosen : ℕ → Bool) (r : List Claim) → claimed chosen r ≡ sum_by (weight chosen) r
weighed chosen r = length-filter (is_chosen chosen) r

pub claimed_insert : (chosen : ℕ → Bool) (r : List Claim) (place : ℕ) (x : Claim) → claimed chosen (insert r place x) ≡ claimed chosen r + weight chosen x
claimed_insert chosen r place x = omega (arith, weighed chosen r, weighed chosen (insert r place x), sum_by-insert (weight chosen) r place x)

pub claimed_remove : (chosen : ℕ → Bool) (r : List Claim) (place : ℕ) (d : Claim) → place < length r → claimed chosen (remove r place) + weight chosen (get_or r place d) ≡ claimed chosen r
claimed_remove chosen r place d lt = omega (arith, weighed chosen r, weighed chosen (remove r place), sum_by-remove (weight chosen) r place d lt)

pub claimed_set : (chosen : ℕ → Bool) (r : List Claim) (place : ℕ) (x d : Claim) → place < length r → claimed chosen (set r place x) + weight chosen (get_or r place d) ≡ claimed chosen r + weight chosen x
claimed_set chosen r place x d lt = omega (arith, weighed chosen r, weighed chosen (set r place x), sum_by-set (weight chosen) r place x d lt)

pub claimed_left : (chosen : ℕ → Bool) (r : List Claim) (id : ℕ) → claimed chosen (left_by r id) ≡ claimed (but chosen id) r
claimed_left chosen r id = ap length (filter_twice (is_chosen chosen) (λ (c : Claim). not (c.id == id)) r ∙ filter_agree (λ (c : Claim). not (c.id == id) && is_chosen chosen c) (is_chosen (but chosen id)) (λ c. go (c.id == id) (is_ordinary_claim c) (chosen c.id)) r)
  where
    go : (a b c : Bool) → (not a && (b && c)) ≡ (b && (c && not a))
    go true true true = refl
    go true true false = refl
    go true false c = refl
    go false true true = refl
    go false true false = refl
    go false false c = refl

pub few_claimed : (chosen : ℕ → Bool) (r : List Claim) → claimed chosen r ≤ length r
few_claimed chosen r = omega (arith, weighed chosen r, count_by-le-length (is_chosen chosen) r)

-- The rows beside the claims, where x is the claim at the place

pub weight_within : (h : List Holding) (r : List Claim) (place : ℕ) (x : Claim) → Tells h r → place < length r → x ≡ get_or r place x → weight (only x.id) x ≤ claim_count (only x.id) h
weight_within h r place x tells lt read = omega (arith, tells (only x.id), claimed_remove (only x.id) r place x lt, ap (weight (only x.id)) read)

-- without it, with another in its place
pub told_without : (chosen : ℕ → Bool) (h h' : List Holding) (r : List Claim) (place : ℕ) (x : Claim) → Tells h r → claim_count chosen h' + weight chosen x ≡ claim_count chosen h → place < length r → x ≡ get_or r place x → claim_count chosen h' ≡ claimed chosen (remove r place)
told_without chosen h h' r place x tells less lt read = omega (arith, less, tells chosen, claimed_remove chosen r place x lt, ap (weight chosen) read)

pub told_with : (chosen : ℕ → Bool) (h h' h'' : List Holding) (r : List Claim) (place : ℕ) (x y : Claim) → Tells h r → claim_count chosen h' + weight chosen x ≡ claim_count chosen h → claim_count chosen h'' ≡ claim_count chosen h' + weight chosen y → place < length r → x ≡ get_or r place x → claim_count chosen h'' ≡ claimed chosen (set r place y)
told_with chosen h h' h'' r place x y tells less more lt read = omega (arith, less, more, tells chosen, claimed_set chosen r place y x lt, ap (weight chosen) read)

-- and there is room for another
pub room_again : (h h' : List Holding) (r : List Claim) (place : ℕ) (x : Claim) → Tells h r → claim_count anyone h' + weight anyone x ≡ claim_count anyone h → place < length r → x ≡ get_or r place x → length r ≤ 4160 → claim_count anyone h' < 4160
room_again h h' r place x tells less lt read le = omega (arith, told_without anyone h h' r place x tells less lt read, few_claimed anyone (remove r place), length-remove r place lt, le)
