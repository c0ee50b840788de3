-- Claims in the order of names and ranks.
use Rattle.std.proofs.Common.{◌≡◌, ℕ, zero, suc, ◌+◌, ◌<◌, ◌≤◌, Bool, true, false, List, [], ◌∷◌, ◌++◌, length, get_or, take, drop, refl, sym, ap, ◌∙◌, subst, arith, cond, inl, inr}
use Rattle.std.specs.Prelude.{not, ◌&&◌, ◌||◌, ◌⊎◌, filter}
use Rattle.std.specs.List.{list_all}
use Rattle.std.proofs.lemmas.Bool.{true≢false, and_parts, and_from, or_cases, or_left, or_right, not_from_false, cases_lt}
use Rattle.std.proofs.lemmas.List.{drop-take, drop_at, take_at}
use Rattle.kd_model.specs.Words.{same, text_below, all_of}
use Rattle.kd_registry.specs.declared.claim.Claim.{Claim}
use Rattle.kd_registry.specs.Claims.{is_ordinary_claim, is_claim_of, is_on, ranks, lower, higher, with_ranks, claim_stands_before, ranked}
use Rattle.kd_model.proofs.Texts.{below_trans, below_itself, not_both, not_same, not_same_above, same_text, same_from, three}
use Rattle.kd_registry.proofs.Filters.{all_kept, all_filter, all_append, all_weaker, all_at, keeps_none}

-- why one claim stands before another
abbrev Because : Claim → Claim → Type 0
Because c d = (text_below c.name d.name ≡ true) ⊎ ((same c.name d.name ≡ true) × (is_ordinary_claim c ≡ true) × (not (is_claim_of c.id d) ≡ true))

pub because : (c d : Claim) → claim_stands_before c d ≡ true → Because c d
because c d h = go (or_cases (text_below c.name d.name) (same c.name d.name && is_ordinary_claim c && not (is_claim_of c.id d)) h)
  where
    go : (text_below c.name d.name ≡ true) ⊎ ((same c.name d.name && is_ordinary_claim c && not (is_claim_of c.id d)) ≡ true) → Because c d
    go (inl t) = inl t
    go (inr t) =
        let u = and_parts (same c.name d.name && is_ordinary_claim c) (not (is_claim_of c.id d)) t in
        let v = and_parts (same c.name d.name) (is_ordinary_claim c) u.0 in
        inr (v.0, v.1, u.1)

pub below_stands : (c d : Claim) → text_below c.name d.name ≡ true → claim_stands_before c d ≡ true
below_stands c d t = or_left (text_below c.name d.name) (same c.name d.name && is_ordinary_claim c && not (is_claim_of c.id d)) t

pub same_stands : (c d : Claim) → same c.name d.name ≡ true → is_ordinary_claim c ≡ true → is_claim_of c.id d ≡ false → claim_stands_before c d ≡ true
same_stands c d s o f = or_right (text_below c.name d.name) _ (and_from (same c.name d.name && is_ordinary_claim c) (not (is_claim_of c.id d)) (and_from (same c.name d.name) (is_ordinary_claim c) s o) (not_from_false (is_claim_of c.id d) f))

-- a later claim isn't on a lower name
later_not_below : (c d : Claim) → claim_stands_before c d ≡ true → text_below d.name c.name ≡ false
later_not_below c d h = go (because c d h)
  where
    go : Because c d → text_below d.name c.name ≡ false
    go (inl t) = not_both c.name d.name t
    go (inr t) = ap (λ x. text_below x c.name) (sym (same_text c.name d.name t.0)) ∙ below_itself c.name

later_above : (n : List ℕ) (c d : Claim) → text_below n c.name ≡ true → claim_stands_before c d ≡ true → text_below n d.name ≡ true
later_above n c d a h = go (because c d h)
  where
    go : Because c d → text_below n d.name ≡ true
    go (inl t) = below_trans n c.name d.name a t
    go (inr t) = ap (text_below n) (sym (same_text c.name d.name t.0)) ∙ a

earlier_below : (n : List ℕ) (c d : Claim) → claim_stands_before c d ≡ true → text_below d.name n ≡ true → text_below c.name n ≡ true
earlier_below n c d h b = go (because c d h)
  where
    go : Because c d → text_below c.name n ≡ true
    go (inl t) = below_trans c.name d.name n t b
    go (inr t) = ap (λ x. text_below x n) (same_text c.name d.name t.0) ∙ b

earlier_not_above : (n : List ℕ) (c d : Claim) → claim_stands_before c d ≡ true → not (text_below n d.name) ≡ true → not (text_below n c.name) ≡ true
earlier_not_above n c d h b = go (text_below n c.name) refl
  where
    go : (x : Bool) → text_below n c.name ≡ x → not x ≡ true
    go false e = refl
    go true e = absurd (true≢false (sym b ∙ ap not (later_above n c d e h)))

-- the claims on lower names, on the name, on higher names
pub parts : (r : List Claim) (n : List ℕ) → ranked r ≡ true → r ≡ lower r n ++ (ranks r n ++ higher r n)
parts [] n h = refl
parts (c ∷ cs) n h = go (parts cs n h'.1) (three c.name n)
  where
    h' : (all_of (claim_stands_before c) cs ≡ true) × (ranked cs ≡ true)
    h' = and_parts (all_of (claim_stands_before c) cs) (ranked cs) h

    go : cs ≡ lower cs n ++ (ranks cs n ++ higher cs n) → (text_below c.name n ≡ true) ⊎ ((c.name ≡ n) ⊎ (text_below n c.name ≡ true)) → c ∷ cs ≡ lower (c ∷ cs) n ++ (ranks (c ∷ cs) n ++ higher (c ∷ cs) n)
    go rest (inl t) = rw (t, not_same c.name n t, not_both c.name n t) (ap (c ∷◌) rest)
    go rest (inr (inl e)) =
        let low : lower cs n ≡ [] = keeps_none (λ (d : Claim). text_below d.name n) cs (all_weaker (claim_stands_before c) (λ (d : Claim). not (text_below d.name n)) (λ d b. not_from_false (text_below d.name n) (ap (text_below d.name) (sym e) ∙ later_not_below c d b)) cs h'.0) in
        let t1 : text_below c.name n ≡ false = ap (λ x. text_below x n) e ∙ below_itself n in
        let t2 : same c.name n ≡ true = same_from c.name n e in
        let t3 : text_below n c.name ≡ false = ap (text_below n) e ∙ below_itself n in
        rw (t1, t2, t3, low) (ap (c ∷◌) (rest ∙ ap (◌++ (ranks cs n ++ higher cs n)) low))
    go rest (inr (inr t)) =
        let low : lower cs n ≡ [] = keeps_none (λ (d : Claim). text_below d.name n) cs (all_weaker (claim_stands_before c) (λ (d : Claim). not (text_below d.name n)) (λ d b. not_from_false (text_below d.name n) (not_both n d.name (later_above n c d t b))) cs h'.0) in
        let mid : ranks cs n ≡ [] = keeps_none (is_on n) cs (all_weaker (claim_stands_before c) (λ (d : Claim). not (same d.name n)) (λ d b. not_from_false (same d.name n) (not_same_above n d.name (later_above n c d t b))) cs h'.0) in
        rw (not_both n c.name t, not_same_above n c.name t, t, low, mid) (ap (c ∷◌) (rest ∙ ap (◌++ (ranks cs n ++ higher cs n)) low ∙ ap (◌++ higher cs n) mid))

-- the place behind the claims on a name
pub end_is_count : (r : List Claim) (n : List ℕ) → length (filter (λ (d : Claim). not (text_below n d.name)) r) ≡ length (lower r n) + length (ranks r n)
end_is_count [] n = refl
end_is_count (c ∷ cs) n = go (end_is_count cs n) (three c.name n)
  where
    go : length (filter (λ (d : Claim). not (text_below n d.name)) cs) ≡ length (lower cs n) + length (ranks cs n) → (text_below c.name n ≡ true) ⊎ ((c.name ≡ n) ⊎ (text_below n c.name ≡ true)) → length (filter (λ (d : Claim). not (text_below n d.name)) (c ∷ cs)) ≡ length (lower (c ∷ cs) n) + length (ranks (c ∷ cs) n)
    go rest (inl t) = rw (not_both c.name n t, t, not_same c.name n t) (omega (arith, rest))
    go rest (inr (inl e)) =
        let t1 : text_below c.name n ≡ false = ap (λ x. text_below x n) e ∙ below_itself n in
        let t2 : same c.name n ≡ true = same_from c.name n e in
        let t3 : text_below n c.name ≡ false = ap (text_below n) e ∙ below_itself n in
        rw (t3, t1, t2) (omega (arith, rest))
    go rest (inr (inr t)) = rw (t, not_both n c.name t, not_same_above n c.name t) rest

before_at : (r : List Claim) (i j : ℕ) (d : Claim) → ranked r ≡ true → i < j → j < length r → claim_stands_before (get_or r i d) (get_or r j d) ≡ true
before_at [] i j d h lt inside = absurd (omega (arith, inside))
before_at (c ∷ cs) i zero d h lt inside = absurd (omega (arith, lt))
before_at (c ∷ cs) zero (suc j) d h lt inside = all_at (claim_stands_before c) cs j d (and_parts (all_of (claim_stands_before c) cs) (ranked cs) h).0 (omega (arith, inside))
before_at (c ∷ cs) (suc i) (suc j) d h lt inside = before_at cs i j d (and_parts (all_of (claim_stands_before c) cs) (ranked cs) h).1 (omega (arith, lt)) (omega (arith, inside))

-- what a binary search for the two places asks
pub lower_first : (r : List Claim) (n : List ℕ) → ranked r ≡ true → (i j : ℕ) (d : Claim) → i ≤ j → j < length r → text_below (get_or r j d).name n ≡ true → text_below (get_or r i d).name n ≡ true
lower_first r n h i j d le inside t = go (cases_lt i j)
  where
    go : (i < j) ⊎ (j ≤ i) → text_below (get_or r i d).name n ≡ true
    go (inl lt) = earlier_below n (get_or r i d) (get_or r j d) (before_at r i j d h lt inside) t
    go (inr ge) = let e : j ≡ i = omega (arith, le, ge) in subst (λ k. text_below (get_or r k d).name n ≡ true) e t

pub higher_last : (r : List Claim) (n : List ℕ) → ranked r ≡ true → (i j : ℕ) (d : Claim) → i ≤ j → j < length r → not (text_below n (get_or r j d).name) ≡ true → not (text_below n (get_or r i d).name) ≡ true
higher_last r n h i j d le inside t = go (cases_lt i j)
  where
    go : (i < j) ⊎ (j ≤ i) → not (text_below n (get_or r i d).name) ≡ true
    go (inl lt) = earlier_not_above n (get_or r i d) (get_or r j d) (before_at r i j d h lt inside) t
    go (inr ge) = let e : j ≡ i = omega (arith, le, ge) in subst (λ k. not (text_below n (get_or r k d).name) ≡ true) e t

-- what stands between the two places
pub middle : (r : List Claim) (n : List ℕ) → ranked r ≡ true → (s e : ℕ) → s ≡ length (lower r n) → e ≡ length (lower r n) + length (ranks r n) → drop s (take e r) ≡ ranks r n
middle r n h s e es ee =
    let whole : drop (length (lower r n)) r ≡ ranks r n ++ higher r n = ap (drop (length (lower r n))) (parts r n h) ∙ drop_at (lower r n) (ranks r n ++ higher r n) (length (lower r n)) refl in
    ap (λ k. drop k (take e r)) es ∙ ap (λ k. drop (length (lower r n)) (take k r)) ee ∙ drop-take (length (lower r n)) (length (ranks r n)) r ∙ ap (take (length (ranks r n))) whole ∙ take_at (ranks r n) (higher r n) (length (ranks r n)) refl

-- parts of what is in order are in order
pub ranked_filter : (p : Claim → Bool) (r : List Claim) → ranked r ≡ true → ranked (filter p r) ≡ true
ranked_filter p [] h = refl
ranked_filter p (c ∷ cs) h =
    let h' = and_parts (all_of (claim_stands_before c) cs) (ranked cs) h in
    go (p c) (all_filter (claim_stands_before c) p cs h'.0) (ranked_filter p cs h'.1)
  where
    go : (b : Bool) → all_of (claim_stands_before c) (filter p cs) ≡ true → ranked (filter p cs) ≡ true → ranked (cond b (c ∷ filter p cs) (filter p cs)) ≡ true
    go true first rest = and_from (all_of (claim_stands_before c) (filter p cs)) (ranked (filter p cs)) first rest
    go false first rest = rest

-- each claim of one list stands before each of another
abbrev pub all_before : List Claim → List Claim → Bool
all_before xs ys = all_of (λ x. all_of (claim_stands_before x) ys) xs

pub across : (P Q : Claim → Bool) → ((c d : Claim) → P c ≡ true → Q d ≡ true → claim_stands_before c d ≡ true) → (xs ys : List Claim) → list_all P xs ≡ true → list_all Q ys ≡ true → all_before xs ys ≡ true
across P Q f xs ys hp hq = all_weaker P (λ x. all_of (claim_stands_before x) ys) (λ x px. all_weaker Q (claim_stands_before x) (λ y qy. f x y px qy) ys hq) xs hp

pub ranked_append : (xs ys : List Claim) → ranked xs ≡ true → ranked ys ≡ true → all_before xs ys ≡ true → ranked (xs ++ ys) ≡ true
ranked_append [] ys hx hy ha = hy
ranked_append (x ∷ xs) ys hx hy ha =
    let x' = and_parts (all_of (claim_stands_before x) xs) (ranked xs) hx in
    let a' = and_parts (all_of (claim_stands_before x) ys) (all_before xs ys) ha in
    and_from (all_of (claim_stands_before x) (xs ++ ys)) (ranked (xs ++ ys)) (all_append (claim_stands_before x) xs ys x'.0 a'.0) (ranked_append xs ys x'.1 hy a'.1)

-- other claims on one name leave the order of names
pub with_ranks_ranked : (r : List Claim) (n : List ℕ) (mine : List Claim) → ranked r ≡ true → ranked mine ≡ true → all_of (is_on n) mine ≡ true → ranked (with_ranks r n mine) ≡ true
with_ranks_ranked r n mine h m on =
    let is_low : Claim → Bool = λ (c : Claim). text_below c.name n in
    let is_high : Claim → Bool = λ (c : Claim). text_below n c.name in
    let low : all_of is_low (lower r n) ≡ true = all_kept is_low r in
    let high : all_of is_high (higher r n) ≡ true = all_kept is_high r in
    let mine_first : all_before mine (higher r n) ≡ true = across (is_on n) is_high (λ c d p q. below_stands c d (ap (λ x. text_below x d.name) (same_text c.name n p) ∙ q)) mine (higher r n) on high in
    let rest_on : all_of (λ d. is_on n d || is_high d) (mine ++ higher r n) ≡ true = all_append (λ d. is_on n d || is_high d) mine (higher r n) (all_weaker (is_on n) (λ d. is_on n d || is_high d) (λ d q. or_left (is_on n d) (is_high d) q) mine on) (all_weaker is_high (λ d. is_on n d || is_high d) (λ d q. or_right (is_on n d) (is_high d) q) (higher r n) high) in
    ranked_append (lower r n) (mine ++ higher r n) (ranked_filter is_low r h)
    (ranked_append mine (higher r n) m (ranked_filter is_high r h) mine_first)
    (across is_low (λ d. is_on n d || is_high d) (λ c d p q. low_first c d p (or_cases (is_on n d) (is_high d) q)) (lower r n) (mine ++ higher r n) low rest_on)
  where
    low_first : (c d : Claim) → text_below c.name n ≡ true → (is_on n d ≡ true) ⊎ (text_below n d.name ≡ true) → claim_stands_before c d ≡ true
    low_first c d p (inl q) = below_stands c d (ap (text_below c.name) (same_text d.name n q) ∙ p)
    low_first c d p (inr q) = below_stands c d (below_trans c.name n d.name p q)
