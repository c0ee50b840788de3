-- Edits of one claim at its place, and what they make of the claims on its name.
use Rattle.std.proofs.Common.{◌≡◌, ℕ, zero, suc, ◌+◌, ◌-◌, ◌<◌, ◌≤◌, Bool, true, false, List, [], ◌∷◌, ◌++◌, length, get_or, set, map, drop, Some, None, refl, sym, ap, ◌∙◌, arith, cond, inl, inr}
use Rattle.std.specs.Prelude.{not, ◌&&◌, ◌⊎◌, ◌==◌, filter}
use Rattle.std.specs.List.{insert, remove, position}
use Rattle.std.proofs.lemmas.Bool.{true≢false, and_parts, not-true, eqb-true}
use Rattle.std.proofs.lemmas.List.{length-append, set-append_left, set-append_right, take_at, drop_at}
use Rattle.std.proofs.lemmas.List.Edits.{insert-append_left, insert-append_right, remove-append_left, remove-append_right, insert_end, length-remove}
use Rattle.std.proofs.lemmas.List.Quantifiers.{position-Some}
use Rattle.std.proofs.lemmas.List.Elements.{filter-append, filter_agree}
use Rattle.std.proofs.lemmas.List.Filters.{length-filter_both}
use Rattle.kd_model.specs.Words.{same, text_below, all_of, those, but_those, some_of}
use Rattle.kd_registry.specs.declared.claim.Claim.{Claim}
use Rattle.kd_registry.specs.declared.claim.Stake.TheVariants.{Activator}
use Rattle.kd_registry.specs.Claims.{is_ordinary_claim, is_claim_of, is_on, ranks, lower, higher, with_ranks, released, claim_stands_before, ranked, gives_way, staying, queued_claims}
use Rattle.kd_model.proofs.Texts.{below_itself, not_same, not_same_above, same_text}
use Rattle.kd_registry.proofs.Filters.{all_kept, all_weaker, all_at, all_both, any_at, keeps_all, keeps_none, filter_twice, filter_after, filter_agree_on, none_any, position_none}
use Rattle.kd_registry.proofs.Ranked.{because, parts, ranked_filter}

-- An edit at a place among the claims on a name

pub place_within : (r : List Claim) (n : List ℕ) (j : ℕ) → ranked r ≡ true → j ≤ length (ranks r n) → length (lower r n) + j ≤ length r
place_within r n j h le = omega (arith, le, ap length (parts r n h), length-append (lower r n) (ranks r n ++ higher r n), length-append (ranks r n) (higher r n))

pub insert_in : (r : List Claim) (n : List ℕ) (j : ℕ) (x : Claim) → ranked r ≡ true → j ≤ length (ranks r n) → insert r (length (lower r n) + j) x ≡ with_ranks r n (insert (ranks r n) j x)
insert_in r n j x h le =
    ap (λ z. insert z (length (lower r n) + j) x) (parts r n h)
    ∙ insert-append_right (lower r n) (ranks r n ++ higher r n) (length (lower r n)) (length (lower r n) + j) x refl (omega arith)
    ∙ ap (λ k. lower r n ++ insert (ranks r n ++ higher r n) k x) (at_rank (length (lower r n)) j)
    ∙ ap (lower r n ++◌) (insert-append_left (ranks r n) (higher r n) j x le)
  where
    at_rank : (a j : ℕ) → a + j - a ≡ j
    at_rank a j = omega arith

pub remove_in : (r : List Claim) (n : List ℕ) (j : ℕ) → ranked r ≡ true → j < length (ranks r n) → remove r (length (lower r n) + j) ≡ with_ranks r n (remove (ranks r n) j)
remove_in r n j h lt =
    ap (λ z. remove z (length (lower r n) + j)) (parts r n h)
    ∙ remove-append_right (lower r n) (ranks r n ++ higher r n) (length (lower r n)) (length (lower r n) + j) refl (omega arith)
    ∙ ap (λ k. lower r n ++ remove (ranks r n ++ higher r n) k) (at_rank (length (lower r n)) j)
    ∙ ap (lower r n ++◌) (remove-append_left (ranks r n) (higher r n) j lt)
  where
    at_rank : (a j : ℕ) → a + j - a ≡ j
    at_rank a j = omega arith

pub set_in : (r : List Claim) (n : List ℕ) (j : ℕ) (x : Claim) → ranked r ≡ true → j < length (ranks r n) → set r (length (lower r n) + j) x ≡ with_ranks r n (set (ranks r n) j x)
set_in r n j x h lt =
    ap (λ z. set z (length (lower r n) + j) x) (parts r n h)
    ∙ set-append_right (lower r n) (ranks r n ++ higher r n) (length (lower r n)) (length (lower r n) + j) x refl (omega arith)
    ∙ ap (λ k. lower r n ++ set (ranks r n ++ higher r n) k x) (at_rank (length (lower r n)) j)
    ∙ ap (lower r n ++◌) (set-append_left (ranks r n) (higher r n) j x lt)
  where
    at_rank : (a j : ℕ) → a + j - a ≡ j
    at_rank a j = omega arith

-- Claims on one name

-- of one connection there is one at most
alone : (n : List ℕ) (id : ℕ) (c : Claim) (cs : List Claim) → all_of (is_on n) (c ∷ cs) ≡ true → all_of (claim_stands_before c) cs ≡ true → is_claim_of id c ≡ true → all_of (λ d. not (is_claim_of id d)) cs ≡ true
alone n id c cs on h of = all_weaker (λ d. is_on n d && claim_stands_before c d) (λ d. not (is_claim_of id d)) (λ d q. other d (and_parts (is_on n d) (claim_stands_before c d) q)) cs (all_both (is_on n) (claim_stands_before c) cs on'.1 h)
  where
    on' : (is_on n c ≡ true) × (all_of (is_on n) cs ≡ true)
    on' = and_parts (is_on n c) (all_of (is_on n) cs) on

    id_is : c.id ≡ id
    id_is = eqb-true c.id id (and_parts (is_ordinary_claim c) (c.id == id) of).1

    other : (d : Claim) → (is_on n d ≡ true) × (claim_stands_before c d ≡ true) → not (is_claim_of id d) ≡ true
    other d q = go (because c d q.1)
      where
        go : (text_below c.name d.name ≡ true) ⊎ ((same c.name d.name ≡ true) × (is_ordinary_claim c ≡ true) × (not (is_claim_of c.id d) ≡ true)) → not (is_claim_of id d) ≡ true
        go (inl t) = absurd (true≢false (sym t ∙ ap (text_below c.name) (same_text d.name n q.0 ∙ sym (same_text c.name n on'.0)) ∙ below_itself c.name))
        go (inr t) = ap (λ i. not (is_claim_of i d)) (sym id_is) ∙ t.2

-- without it is with one removed
pub but_one : (n : List ℕ) (id : ℕ) (mine : List Claim) (k : ℕ) (d : Claim) → ranked mine ≡ true → all_of (is_on n) mine ≡ true → k < length mine → is_claim_of id (get_or mine k d) ≡ true → but_those (is_claim_of id) mine ≡ remove mine k
but_one n id [] k d h on lt of = absurd (omega (arith, lt))
but_one n id (c ∷ cs) zero d h on lt of =
    rw (of) (keeps_all (λ x. not (is_claim_of id x)) cs (alone n id c cs on (and_parts (all_of (claim_stands_before c) cs) (ranked cs) h).0 of))
but_one n id (c ∷ cs) (suc k) d h on lt of = go (is_claim_of id c) refl (but_one n id cs k d h'.1 (and_parts (is_on n c) (all_of (is_on n) cs) on).1 (omega (arith, lt)) of)
  where
    h' : (all_of (claim_stands_before c) cs ≡ true) × (ranked cs ≡ true)
    h' = and_parts (all_of (claim_stands_before c) cs) (ranked cs) h

    go : (b : Bool) → is_claim_of id c ≡ b → but_those (is_claim_of id) cs ≡ remove cs k → cond (not b) (c ∷ but_those (is_claim_of id) cs) (but_those (is_claim_of id) cs) ≡ remove (c ∷ cs) (suc k)
    go true e rest = absurd (true≢false (sym (all_at (λ x. not (is_claim_of id x)) cs k d (alone n id c cs on h'.0 e) (omega (arith, lt))) ∙ ap not of))
    go false e rest = ap (c ∷◌) rest

-- a claim in the place of those of its connection
abbrev pub renewed : Claim → Claim → Claim
renewed x c = cond (is_claim_of x.id c) x c

renews_none : (x : Claim) (mine : List Claim) → all_of (λ d. not (is_claim_of x.id d)) mine ≡ true → map (renewed x) mine ≡ mine
renews_none x [] h = refl
renews_none x (c ∷ cs) h = let h' = and_parts (not (is_claim_of x.id c)) (all_of (λ d. not (is_claim_of x.id d)) cs) h in rw (not-true (is_claim_of x.id c) h'.0, renews_none x cs h'.1) refl

pub renews_one : (n : List ℕ) (x : Claim) (mine : List Claim) (k : ℕ) (d : Claim) → ranked mine ≡ true → all_of (is_on n) mine ≡ true → k < length mine → is_claim_of x.id (get_or mine k d) ≡ true → map (renewed x) mine ≡ set mine k x
renews_one n x [] k d h on lt of = absurd (omega (arith, lt))
renews_one n x (c ∷ cs) zero d h on lt of =
    rw (of) (ap (x ∷◌) (renews_none x cs (alone n x.id c cs on (and_parts (all_of (claim_stands_before c) cs) (ranked cs) h).0 of)))
renews_one n x (c ∷ cs) (suc k) d h on lt of = go (is_claim_of x.id c) refl (renews_one n x cs k d h'.1 (and_parts (is_on n c) (all_of (is_on n) cs) on).1 (omega (arith, lt)) of)
  where
    h' : (all_of (claim_stands_before c) cs ≡ true) × (ranked cs ≡ true)
    h' = and_parts (all_of (claim_stands_before c) cs) (ranked cs) h

    go : (b : Bool) → is_claim_of x.id c ≡ b → map (renewed x) cs ≡ set cs k x → cond b x c ∷ map (renewed x) cs ≡ c ∷ set cs k x
    go true e rest = absurd (true≢false (sym (all_at (λ y. not (is_claim_of x.id y)) cs k d (alone n x.id c cs on h'.0 e) (omega (arith, lt))) ∙ ap not of))
    go false e rest = ap (c ∷◌) rest

-- the ordinary ones stand first
pub ordinary_first : (n : List ℕ) (mine : List Claim) → ranked mine ≡ true → all_of (is_on n) mine ≡ true → mine ≡ those is_ordinary_claim mine ++ but_those is_ordinary_claim mine
ordinary_first n [] h on = refl
ordinary_first n (c ∷ []) h on = go (is_ordinary_claim c)
  where
    go : (b : Bool) → c ∷ [] ≡ cond b (c ∷ []) [] ++ cond (not b) (c ∷ []) []
    go true = refl
    go false = refl
ordinary_first n (c ∷ d ∷ ds) h on = go (is_ordinary_claim c) refl (ordinary_first n (d ∷ ds) h'.1 on'.1)
  where
    h' : (all_of (claim_stands_before c) (d ∷ ds) ≡ true) × (ranked (d ∷ ds) ≡ true)
    h' = and_parts (all_of (claim_stands_before c) (d ∷ ds)) (ranked (d ∷ ds)) h

    on' : (is_on n c ≡ true) × (all_of (is_on n) (d ∷ ds) ≡ true)
    on' = and_parts (is_on n c) (all_of (is_on n) (d ∷ ds)) on

    ordinary : (text_below c.name d.name ≡ true) ⊎ ((same c.name d.name ≡ true) × (is_ordinary_claim c ≡ true) × (not (is_claim_of c.id d) ≡ true)) → is_ordinary_claim c ≡ true
    ordinary (inl t) = absurd (true≢false (sym t ∙ ap (text_below c.name) (same_text d.name n (and_parts (is_on n d) (all_of (is_on n) ds) on'.1).0 ∙ sym (same_text c.name n on'.0)) ∙ below_itself c.name))
    ordinary (inr t) = t.1

    go : (b : Bool) → is_ordinary_claim c ≡ b → d ∷ ds ≡ those is_ordinary_claim (d ∷ ds) ++ but_those is_ordinary_claim (d ∷ ds) → c ∷ d ∷ ds ≡ cond b (c ∷ those is_ordinary_claim (d ∷ ds)) (those is_ordinary_claim (d ∷ ds)) ++ cond (not b) (c ∷ but_those is_ordinary_claim (d ∷ ds)) (but_those is_ordinary_claim (d ∷ ds))
    go true e rest = ap (c ∷◌) rest
    go false e rest = absurd (true≢false (sym (ordinary (because c d (and_parts (claim_stands_before c d) (all_of (claim_stands_before c) ds) h'.0).0)) ∙ e))

-- Releasing

-- a claim that goes leaves the others of the name
pub released_is : (r : List Claim) (id : ℕ) (n : List ℕ) → ranked r ≡ true → released r id n ≡ with_ranks r n (but_those (is_claim_of id) (ranks r n))
released_is r id n h =
    ap (filter stays) (parts r n h)
    ∙ filter-append stays (lower r n) (ranks r n ++ higher r n)
    ∙ ap (filter stays (lower r n) ++◌) (filter-append stays (ranks r n) (higher r n))
    ∙ ap (◌++ (filter stays (ranks r n) ++ filter stays (higher r n))) (keeps_all stays (lower r n) (all_weaker (λ (c : Claim). text_below c.name n) stays (λ c t. stays_off c (not_same c.name n t)) (lower r n) (all_kept (λ (c : Claim). text_below c.name n) r)))
    ∙ ap (λ z. lower r n ++ (filter stays (ranks r n) ++ z)) (keeps_all stays (higher r n) (all_weaker (λ (c : Claim). text_below n c.name) stays (λ c t. stays_off c (not_same_above n c.name t)) (higher r n) (all_kept (λ (c : Claim). text_below n c.name) r)))
    ∙ ap (λ z. lower r n ++ (z ++ higher r n)) (filter_agree_on (is_on n) stays (λ c. not (is_claim_of id c)) (λ c t. ap (λ b. not (b && is_claim_of id c)) t) (ranks r n) (all_kept (is_on n) r))
  where
    stays : Claim → Bool
    stays c = not (is_on n c && is_claim_of id c)

    stays_off : (c : Claim) → same c.name n ≡ false → stays c ≡ true
    stays_off c t = ap (λ b. not (b && is_claim_of id c)) t

pub ranks_released : (r : List Claim) (id : ℕ) (n : List ℕ) → ranks (released r id n) n ≡ but_those (is_claim_of id) (ranks r n)
ranks_released r id n =
    filter_twice (is_on n) (λ c. not (is_on n c && is_claim_of id c)) r
    ∙ filter_agree (λ c. not (is_on n c && is_claim_of id c) && is_on n c) (λ c. is_on n c && not (is_claim_of id c)) (λ c. go (is_on n c) (is_claim_of id c)) r
    ∙ sym (filter_twice (λ c. not (is_claim_of id c)) (is_on n) r)
  where
    go : (a b : Bool) → (not (a && b) && a) ≡ (a && not b)
    go true true = refl
    go true false = refl
    go false b = refl

pub lower_released : (r : List Claim) (id : ℕ) (n : List ℕ) → lower (released r id n) n ≡ lower r n
lower_released r id n = filter_after (λ (c : Claim). text_below c.name n) (λ c. not (is_on n c && is_claim_of id c)) (λ c t. ap (λ b. not (b && is_claim_of id c)) (not_same c.name n t)) r

pub higher_released : (r : List Claim) (id : ℕ) (n : List ℕ) → higher (released r id n) n ≡ higher r n
higher_released r id n = filter_after (λ (c : Claim). text_below n c.name) (λ c. not (is_on n c && is_claim_of id c)) (λ c t. ap (λ b. not (b && is_claim_of id c)) (not_same_above n c.name t)) r

-- what stands where, after a claim of the name went
pub after_released : (r : List Claim) (id : ℕ) (n : List ℕ) (x : Claim) → with_ranks (released r id n) n (x ∷ staying (ranks (released r id n) n)) ≡ with_ranks r n (x ∷ staying (but_those (is_claim_of id) (ranks r n)))
after_released r id n x =
    ap (λ z. with_ranks (released r id n) n (x ∷ staying z)) (ranks_released r id n)
    ∙ ap (λ z. z ++ ((x ∷ staying (but_those (is_claim_of id) (ranks r n))) ++ higher (released r id n) n)) (lower_released r id n)
    ∙ ap (λ z. lower r n ++ ((x ∷ staying (but_those (is_claim_of id) (ranks r n))) ++ z)) (higher_released r id n)

-- those and the others are all
pub counts_both : (p : Claim → Bool) (mine : List Claim) → length (those p mine) + length (but_those p mine) ≡ length mine
counts_both p mine = length-filter_both p (λ c. not (p c)) (λ c. refl) mine

-- Where a connection's claim stands

nobody : Claim
nobody = record { name = []; id = 0; stake = Activator }

abbrev At : List Claim → ℕ → List ℕ → ℕ → Type 0
At r id n k = (k < length (ranks r n)) × (is_claim_of id (get_or (ranks r n) k nobody) ≡ true)

at_rank_of : (r : List Claim) (id : ℕ) (n : List ℕ) (k : ℕ) → Some k ≡ position (is_claim_of id) (ranks r n) → At r id n k
at_rank_of r id n k e = let p = position-Some (is_claim_of id) (ranks r n) k nobody (sym e) in (p.0, p.1)

pub rank_within : (r : List Claim) (id : ℕ) (n : List ℕ) (k : ℕ) → ranked r ≡ true → Some k ≡ position (is_claim_of id) (ranks r n) → length (lower r n) + k < length r
rank_within r id n k h e = omega (arith, place_within r n (k + 1) h (omega (arith, (at_rank_of r id n k e).0)))

pub has_claim : (r : List Claim) (id : ℕ) (n : List ℕ) (k : ℕ) → Some k ≡ position (is_claim_of id) (ranks r n) → some_of (is_claim_of id) (ranks r n) ≡ true
has_claim r id n k e = let at = at_rank_of r id n k e in any_at (is_claim_of id) (ranks r n) k nobody at.0 at.1

pub has_no_claim : (r : List Claim) (id : ℕ) (n : List ℕ) → None ≡ position (is_claim_of id) (ranks r n) → some_of (is_claim_of id) (ranks r n) ≡ false
has_no_claim r id n e = position_none (is_claim_of id) (ranks r n) (sym e)

-- the claims on a name are on it, and in order
mine_on : (r : List Claim) (n : List ℕ) → all_of (is_on n) (ranks r n) ≡ true
mine_on r n = all_kept (is_on n) r

mine_ranked : (r : List Claim) (n : List ℕ) → ranked r ≡ true → ranked (ranks r n) ≡ true
mine_ranked r n h = ranked_filter (is_on n) r h

pub removes_one : (r : List Claim) (id : ℕ) (n : List ℕ) (k : ℕ) → ranked r ≡ true → Some k ≡ position (is_claim_of id) (ranks r n) → remove r (length (lower r n) + k) ≡ released r id n
removes_one r id n k h e =
    let at = at_rank_of r id n k e in
    remove_in r n k h at.0
    ∙ ap (with_ranks r n) (sym (but_one n id (ranks r n) k nobody (mine_ranked r n h) (mine_on r n) at.0 at.1))
    ∙ sym (released_is r id n h)

pub removes_none : (r : List Claim) (id : ℕ) (n : List ℕ) → ranked r ≡ true → None ≡ position (is_claim_of id) (ranks r n) → r ≡ released r id n
removes_none r id n h e =
    let keeps : but_those (is_claim_of id) (ranks r n) ≡ ranks r n = keeps_all (λ c. not (is_claim_of id c)) (ranks r n) (none_any (is_claim_of id) (ranks r n) (has_no_claim r id n e)) in
    parts r n h ∙ ap (with_ranks r n) (sym keeps) ∙ sym (released_is r id n h)

pub counts_one : (r : List Claim) (id : ℕ) (n : List ℕ) (k : ℕ) → ranked r ≡ true → Some k ≡ position (is_claim_of id) (ranks r n) → length (those (is_claim_of id) (ranks r n)) ≡ 1
counts_one r id n k h e =
    let at = at_rank_of r id n k e in
    omega (arith, counts_both (is_claim_of id) (ranks r n), ap length (but_one n id (ranks r n) k nobody (mine_ranked r n h) (mine_on r n) at.0 at.1), length-remove (ranks r n) k at.0)

pub counts_none : (r : List Claim) (id : ℕ) (n : List ℕ) → None ≡ position (is_claim_of id) (ranks r n) → length (those (is_claim_of id) (ranks r n)) ≡ 0
counts_none r id n e = ap length (keeps_none (is_claim_of id) (ranks r n) (none_any (is_claim_of id) (ranks r n) (has_no_claim r id n e)))

-- Putting a claim to its place

owner_there : (mine : List Claim) → gives_way mine ≡ true → 0 < length mine
owner_there [] g = absurd (true≢false (sym g))
owner_there (o ∷ cs) g = omega arith

pub owner_within : (r : List Claim) (n : List ℕ) → ranked r ≡ true → gives_way (ranks r n) ≡ true → length (lower r n) < length r
owner_within r n h g = omega (arith, place_within r n 1 h (omega (arith, owner_there (ranks r n) g)))

over_first : (mine : List Claim) (x : Claim) → gives_way mine ≡ true → set mine 0 x ≡ x ∷ drop 1 mine
over_first [] x g = absurd (true≢false (sym g))
over_first (o ∷ cs) x g = refl

pub puts_over : (r : List Claim) (n : List ℕ) (x : Claim) (s : ℕ) → ranked r ≡ true → s ≡ length (lower r n) → gives_way (ranks r n) ≡ true → set r s x ≡ with_ranks r n (x ∷ staying (ranks r n))
puts_over r n x s h e g =
    let place : s ≡ length (lower r n) + 0 = omega (arith, e) in
    let rest : staying (ranks r n) ≡ drop 1 (ranks r n) = rw g refl in
    ap (λ k. set r k x) place
    ∙ set_in r n 0 x h (owner_there (ranks r n) g)
    ∙ ap (with_ranks r n) (over_first (ranks r n) x g ∙ ap (x ∷◌) (sym rest))

pub puts_before : (r : List Claim) (n : List ℕ) (x : Claim) (s : ℕ) → ranked r ≡ true → s ≡ length (lower r n) → gives_way (ranks r n) ≡ false → insert r s x ≡ with_ranks r n (x ∷ staying (ranks r n))
puts_before r n x s h e g =
    let place : s ≡ length (lower r n) + 0 = omega (arith, e) in
    let rest : staying (ranks r n) ≡ ranks r n = rw g refl in
    ap (λ k. insert r k x) place
    ∙ insert_in r n 0 x h (omega arith)
    ∙ ap (λ z. with_ranks r n (x ∷ z)) (sym rest)

pub puts_last : (r : List Claim) (n : List ℕ) (x : Claim) (e : ℕ) → ranked r ≡ true → e ≡ length (lower r n) + length (ranks r n) → insert r e x ≡ with_ranks r n (ranks r n ++ x ∷ [])
puts_last r n x e h p =
    ap (λ k. insert r k x) p
    ∙ insert_in r n (length (ranks r n)) x h (omega arith)
    ∙ ap (with_ranks r n) (insert_end (ranks r n) x)

insert_between : (xs ys : List Claim) (x : Claim) → insert (xs ++ ys) (length xs) x ≡ xs ++ x ∷ ys
insert_between xs ys x = ap (◌++ x ∷ drop (length xs) (xs ++ ys)) (take_at xs ys (length xs) refl) ∙ ap (λ z. xs ++ x ∷ z) (drop_at xs ys (length xs) refl)

pub queues_behind : (r : List Claim) (n : List ℕ) (x : Claim) (s : ℕ) → ranked r ≡ true → s ≡ length (lower r n) → None ≡ position (is_claim_of x.id) (ranks r n) → insert r (s + length (those is_ordinary_claim (ranks r n))) x ≡ with_ranks r n (queued_claims x (ranks r n))
queues_behind r n x s h e p =
    let mine : List Claim = ranks r n in
    let few : length (those is_ordinary_claim mine) ≤ length mine = omega (arith, counts_both is_ordinary_claim mine) in
    let split : mine ≡ those is_ordinary_claim mine ++ but_those is_ordinary_claim mine = ordinary_first n mine (mine_ranked r n h) (mine_on r n) in
    let new : queued_claims x mine ≡ those is_ordinary_claim mine ++ x ∷ but_those is_ordinary_claim mine = rw (has_no_claim r x.id n p) refl in
    ap (λ k. insert r (k + length (those is_ordinary_claim mine)) x) e
    ∙ insert_in r n (length (those is_ordinary_claim mine)) x h few
    ∙ ap (with_ranks r n) (ap (λ z. insert z (length (those is_ordinary_claim mine)) x) split ∙ insert_between (those is_ordinary_claim mine) (but_those is_ordinary_claim mine) x ∙ sym new)

pub queues_again : (r : List Claim) (n : List ℕ) (x : Claim) (s k : ℕ) → ranked r ≡ true → s ≡ length (lower r n) → Some k ≡ position (is_claim_of x.id) (ranks r n) → set r (s + k) x ≡ with_ranks r n (queued_claims x (ranks r n))
queues_again r n x s k h e p =
    let at = at_rank_of r x.id n k p in
    let new : queued_claims x (ranks r n) ≡ map (renewed x) (ranks r n) = rw (has_claim r x.id n k p) refl in
    ap (λ a. set r (a + k) x) e
    ∙ set_in r n k x h at.0
    ∙ ap (with_ranks r n) (sym (renews_one n x (ranks r n) k nobody (mine_ranked r n h) (mine_on r n) at.0 at.1) ∙ sym new)

pub ordinary_within : (r : List Claim) (n : List ℕ) → ranked r ≡ true → length (lower r n) + length (those is_ordinary_claim (ranks r n)) ≤ length r
ordinary_within r n h = place_within r n (length (those is_ordinary_claim (ranks r n))) h (omega (arith, counts_both is_ordinary_claim (ranks r n)))

-- what was found for equal arguments
pub start_here : (s : ℕ) (z r : List Claim) (m n : List ℕ) → s ≡ length (lower z m) → z ≡ r → m ≡ n → s ≡ length (lower r n)
start_here s z r m n e f g = e ∙ ap (λ y. length (lower y m)) f ∙ ap (λ y. length (lower r y)) g

pub ranks_here : (q z r : List Claim) (m n : List ℕ) → q ≡ ranks z m → z ≡ r → m ≡ n → q ≡ ranks r n
ranks_here q z r m n e f g = e ∙ ap (λ y. ranks y m) f ∙ ap (ranks r) g
