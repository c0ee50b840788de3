-- What an acquire makes of the claims on a name is in order again.
use Rattle.std.proofs.Common.{◌≡◌, ℕ, Bool, true, false, List, [], ◌∷◌, ◌++◌, drop, map, Some, None, refl, sym, ap, ◌∙◌, cond, inl, inr}
use Rattle.std.specs.Prelude.{not, ◌&&◌, ◌||◌, ◌⊎◌, ◌==◌, filter}
use Rattle.std.specs.List.{list_all}
use Rattle.std.proofs.lemmas.Bool.{true≢false, and_parts, and_from, and_left, or_cases, or_left, or_right, not-true, eqb-true, eq-eqb, false_from_ne_true}
use Rattle.kd_model.specs.Words.{same, all_of, those, but_those, some_of, first}
use Rattle.kd_registry.specs.declared.claim.Claim.{Claim}
use Rattle.kd_registry.specs.Claims.{is_ordinary_claim, is_placeholder, is_claim_of, is_on, ranks, activators, head, owner, with_ranks, claim_stands_before, ranked, gives_way, staying, taken, queued_claims}
use Rattle.kd_model.proofs.Texts.{same_text, same_from, same_itself}
use Rattle.kd_registry.proofs.Filters.{all_kept, all_filter, all_weaker, all_both, all_append, none_any}
use Rattle.kd_registry.proofs.Ranked.{same_stands, ranked_filter, ranked_append, across, all_before, with_ranks_ranked}
use Rattle.kd_registry.proofs.Places.{renewed, ordinary_first}

-- two claims on one name have the same name
one_name : (n : List ℕ) (c d : Claim) → is_on n c ≡ true → is_on n d ≡ true → same c.name d.name ≡ true
one_name n c d p q = same_from c.name d.name (same_text c.name n p ∙ sym (same_text d.name n q))

-- a placeholder isn't an ordinary claim of anybody
placeholder_of_none : (id : ℕ) (c : Claim) → is_placeholder c ≡ true → is_claim_of id c ≡ false
placeholder_of_none id c p = and_left (is_ordinary_claim c) (c.id == id) (not-true (is_ordinary_claim c) p)

-- The owner

drops_all : (p : Claim → Bool) (mine : List Claim) → list_all p mine ≡ true → list_all p (drop 1 mine) ≡ true
drops_all p [] h = refl
drops_all p (c ∷ cs) h = (and_parts (p c) (list_all p cs) h).1

drops_ranked : (mine : List Claim) → ranked mine ≡ true → ranked (drop 1 mine) ≡ true
drops_ranked [] h = refl
drops_ranked (c ∷ cs) h = (and_parts (all_of (claim_stands_before c) cs) (ranked cs) h).1

staying_all : (p : Claim → Bool) (mine : List Claim) → list_all p mine ≡ true → list_all p (staying mine) ≡ true
staying_all p mine h = go (gives_way mine)
  where
    go : (b : Bool) → list_all p (cond b (drop 1 mine) mine) ≡ true
    go true = drops_all p mine h
    go false = h

staying_ranked : (mine : List Claim) → ranked mine ≡ true → ranked (staying mine) ≡ true
staying_ranked mine h = go (gives_way mine)
  where
    go : (b : Bool) → ranked (cond b (drop 1 mine) mine) ≡ true
    go true = drops_ranked mine h
    go false = h

taken_ranked : (n : List ℕ) (x : Claim) (mine : List Claim) → is_ordinary_claim x ≡ true → is_on n x ≡ true → ranked mine ≡ true → all_of (is_on n) mine ≡ true → ranked (taken x mine) ≡ true
taken_ranked n x mine o on h all =
    let others : Claim → Bool = λ c. not (is_claim_of x.id c) in
    let rest : List Claim = but_those (is_claim_of x.id) mine in
    let mine_on : all_of (is_on n) (staying rest) ≡ true = staying_all (is_on n) rest (all_filter (is_on n) others mine all) in
    let mine_others : all_of others (staying rest) ≡ true = staying_all others rest (all_kept others mine) in
    and_from (all_of (claim_stands_before x) (staying rest)) (ranked (staying rest))
    (all_weaker (λ d. is_on n d && others d) (claim_stands_before x) (λ d q. let q' = and_parts (is_on n d) (others d) q in same_stands x d (one_name n x d on q'.0) o (not-true (is_claim_of x.id d) q'.1)) (staying rest) (all_both (is_on n) others (staying rest) mine_on mine_others))
    (staying_ranked rest (ranked_filter others mine h))

taken_on : (n : List ℕ) (x : Claim) (mine : List Claim) → is_on n x ≡ true → all_of (is_on n) mine ≡ true → all_of (is_on n) (taken x mine) ≡ true
taken_on n x mine on all = and_from (is_on n x) (all_of (is_on n) (staying (but_those (is_claim_of x.id) mine))) on (staying_all (is_on n) (but_those (is_claim_of x.id) mine) (all_filter (is_on n) (λ c. not (is_claim_of x.id c)) mine all))

-- The queue

-- a claim in the place of an older one stands as that did
same_order : (c c' d d' : Claim) → c'.name ≡ c.name → is_ordinary_claim c' ≡ is_ordinary_claim c → c'.id ≡ c.id → d'.name ≡ d.name → is_ordinary_claim d' ≡ is_ordinary_claim d → d'.id ≡ d.id → claim_stands_before c d ≡ true → claim_stands_before c' d' ≡ true
same_order c c' d d' a b e f g h t = rw (a, b, e, f, g, h) t

abbrev Alike : Claim → Claim → Type 0
Alike c c' = (c'.name ≡ c.name) × (is_ordinary_claim c' ≡ is_ordinary_claim c) × (c'.id ≡ c.id)

alike : (n : List ℕ) (x c : Claim) → is_ordinary_claim x ≡ true → is_on n x ≡ true → is_on n c ≡ true → Alike c (renewed x c)
alike n x c o on p = go (is_claim_of x.id c) refl
  where
    go : (b : Bool) → is_claim_of x.id c ≡ b → Alike c (cond b x c)
    go false e = (refl, refl, refl)
    go true e = let q = and_parts (is_ordinary_claim c) (c.id == x.id) e in (same_text x.name n on ∙ sym (same_text c.name n p), o ∙ sym q.0, sym (eqb-true c.id x.id q.1))

renewed_before : (n : List ℕ) (x c : Claim) (cs : List Claim) → is_ordinary_claim x ≡ true → is_on n x ≡ true → is_on n c ≡ true → all_of (is_on n) cs ≡ true → all_of (claim_stands_before c) cs ≡ true → all_of (claim_stands_before (renewed x c)) (map (renewed x) cs) ≡ true
renewed_before n x c [] o on p all h = refl
renewed_before n x c (d ∷ ds) o on p all h =
    let all' = and_parts (is_on n d) (all_of (is_on n) ds) all in
    let h' = and_parts (claim_stands_before c d) (all_of (claim_stands_before c) ds) h in
    let a = alike n x c o on p in
    let b = alike n x d o on all'.0 in
    and_from (claim_stands_before (renewed x c) (renewed x d)) (all_of (claim_stands_before (renewed x c)) (map (renewed x) ds))
    (same_order c (renewed x c) d (renewed x d) a.0 a.1 a.2 b.0 b.1 b.2 h'.0)
    (renewed_before n x c ds o on p all'.1 h'.1)

renewed_ranked : (n : List ℕ) (x : Claim) (mine : List Claim) → is_ordinary_claim x ≡ true → is_on n x ≡ true → ranked mine ≡ true → all_of (is_on n) mine ≡ true → ranked (map (renewed x) mine) ≡ true
renewed_ranked n x [] o on h all = refl
renewed_ranked n x (c ∷ cs) o on h all =
    let all' = and_parts (is_on n c) (all_of (is_on n) cs) all in
    let h' = and_parts (all_of (claim_stands_before c) cs) (ranked cs) h in
    and_from (all_of (claim_stands_before (renewed x c)) (map (renewed x) cs)) (ranked (map (renewed x) cs))
    (renewed_before n x c cs o on all'.0 all'.1 h'.0)
    (renewed_ranked n x cs o on h'.1 all'.1)

renewed_on : (n : List ℕ) (x : Claim) (mine : List Claim) → is_on n x ≡ true → all_of (is_on n) mine ≡ true → all_of (is_on n) (map (renewed x) mine) ≡ true
renewed_on n x [] on all = refl
renewed_on n x (c ∷ cs) on all = let all' = and_parts (is_on n c) (all_of (is_on n) cs) all in and_from (is_on n (renewed x c)) (all_of (is_on n) (map (renewed x) cs)) (go (is_claim_of x.id c) all'.0) (renewed_on n x cs on all'.1)
  where
    go : (b : Bool) → is_on n c ≡ true → is_on n (cond b x c) ≡ true
    go true p = on
    go false p = p

joined_ranked : (n : List ℕ) (x : Claim) (mine : List Claim) → is_ordinary_claim x ≡ true → is_on n x ≡ true → ranked mine ≡ true → all_of (is_on n) mine ≡ true → some_of (is_claim_of x.id) mine ≡ false → ranked (those is_ordinary_claim mine ++ x ∷ but_those is_ordinary_claim mine) ≡ true
joined_ranked n x mine o on h all none =
    let ord : List Claim = those is_ordinary_claim mine in
    let act : List Claim = but_those is_ordinary_claim mine in
    let front : Claim → Bool = λ c. (is_on n c && is_ordinary_claim c) && not (is_claim_of x.id c) in
    let back : Claim → Bool = λ d. is_on n d && (is_placeholder d || d.id == x.id) in
    let others : all_of (λ c. not (is_claim_of x.id c)) mine ≡ true = none_any (is_claim_of x.id) mine none in
    let front_all : all_of front ord ≡ true = all_both (λ c. is_on n c && is_ordinary_claim c) (λ c. not (is_claim_of x.id c)) ord (all_both (is_on n) is_ordinary_claim ord (all_filter (is_on n) is_ordinary_claim mine all) (all_kept is_ordinary_claim mine)) (all_filter (λ c. not (is_claim_of x.id c)) is_ordinary_claim mine others) in
    let act_on : all_of (is_on n) act ≡ true = all_filter (is_on n) is_placeholder mine all in
    let act_placeholders : all_of is_placeholder act ≡ true = all_kept is_placeholder mine in
    let act_all : all_of back act ≡ true = all_both (is_on n) (λ d. is_placeholder d || d.id == x.id) act act_on (all_weaker is_placeholder (λ d. is_placeholder d || d.id == x.id) (λ d p. or_left (is_placeholder d) (d.id == x.id) p) act act_placeholders) in
    let x_back : back x ≡ true = and_from (is_on n x) (is_placeholder x || x.id == x.id) on (or_right (is_placeholder x) (x.id == x.id) (eq-eqb x.id x.id refl)) in
    let x_first : all_of (claim_stands_before x) act ≡ true = all_weaker (λ d. is_on n d && is_placeholder d) (claim_stands_before x) (λ d q. let q' = and_parts (is_on n d) (is_placeholder d) q in same_stands x d (one_name n x d on q'.0) o (placeholder_of_none x.id d q'.1)) act (all_both (is_on n) is_placeholder act act_on act_placeholders) in
    ranked_append ord (x ∷ act) (ranked_filter is_ordinary_claim mine h)
    (and_from (all_of (claim_stands_before x) act) (ranked act) x_first (ranked_filter is_placeholder mine h))
    (across front back meets ord (x ∷ act) front_all (and_from (back x) (all_of back act) x_back act_all))
  where
    meets : (c d : Claim) → ((is_on n c && is_ordinary_claim c) && not (is_claim_of x.id c)) ≡ true → (is_on n d && (is_placeholder d || d.id == x.id)) ≡ true → claim_stands_before c d ≡ true
    meets c d p q = go (or_cases (is_placeholder d) (d.id == x.id) q'.1)
      where
        p' : ((is_on n c && is_ordinary_claim c) ≡ true) × (not (is_claim_of x.id c) ≡ true)
        p' = and_parts (is_on n c && is_ordinary_claim c) (not (is_claim_of x.id c)) p

        u : (is_on n c ≡ true) × (is_ordinary_claim c ≡ true)
        u = and_parts (is_on n c) (is_ordinary_claim c) p'.0

        q' : (is_on n d ≡ true) × ((is_placeholder d || d.id == x.id) ≡ true)
        q' = and_parts (is_on n d) (is_placeholder d || d.id == x.id) q

        go : (is_placeholder d ≡ true) ⊎ ((d.id == x.id) ≡ true) → claim_stands_before c d ≡ true
        go (inl t) = same_stands c d (one_name n c d u.0 q'.0) u.1 (placeholder_of_none c.id d t)
        go (inr t) = same_stands c d (one_name n c d u.0 q'.0) u.1 (false_from_ne_true (is_claim_of c.id d) (λ s. true≢false (sym (and_from (is_ordinary_claim c) (c.id == x.id) u.1 (eq-eqb c.id x.id (sym (eqb-true d.id c.id (and_parts (is_ordinary_claim d) (d.id == c.id) s).1) ∙ eqb-true d.id x.id t))) ∙ not-true (is_claim_of x.id c) p'.1)))

joined_on : (n : List ℕ) (x : Claim) (mine : List Claim) → is_on n x ≡ true → all_of (is_on n) mine ≡ true → all_of (is_on n) (those is_ordinary_claim mine ++ x ∷ but_those is_ordinary_claim mine) ≡ true
joined_on n x mine on all = all_append (is_on n) (those is_ordinary_claim mine) (x ∷ but_those is_ordinary_claim mine) (all_filter (is_on n) is_ordinary_claim mine all) (and_from (is_on n x) (all_of (is_on n) (but_those is_ordinary_claim mine)) on (all_filter (is_on n) is_placeholder mine all))

queued_ranked : (n : List ℕ) (x : Claim) (mine : List Claim) → is_ordinary_claim x ≡ true → is_on n x ≡ true → ranked mine ≡ true → all_of (is_on n) mine ≡ true → ranked (queued_claims x mine) ≡ true
queued_ranked n x mine o on h all = go (some_of (is_claim_of x.id) mine) refl
  where
    go : (b : Bool) → some_of (is_claim_of x.id) mine ≡ b → ranked (cond b (map (renewed x) mine) (those is_ordinary_claim mine ++ x ∷ but_those is_ordinary_claim mine)) ≡ true
    go true e = renewed_ranked n x mine o on h all
    go false e = joined_ranked n x mine o on h all e

queued_on : (n : List ℕ) (x : Claim) (mine : List Claim) → is_on n x ≡ true → all_of (is_on n) mine ≡ true → all_of (is_on n) (queued_claims x mine) ≡ true
queued_on n x mine on all = go (some_of (is_claim_of x.id) mine)
  where
    go : (b : Bool) → all_of (is_on n) (cond b (map (renewed x) mine) (those is_ordinary_claim mine ++ x ∷ but_those is_ordinary_claim mine)) ≡ true
    go true = renewed_on n x mine on all
    go false = joined_on n x mine on all

-- The registry after each

mine_on : (r : List Claim) (n : List ℕ) → all_of (is_on n) (ranks r n) ≡ true
mine_on r n = all_kept (is_on n) r

pub takes_ranked : (r : List Claim) (x : Claim) → is_ordinary_claim x ≡ true → ranked r ≡ true → ranked (with_ranks r x.name (taken x (ranks r x.name))) ≡ true
takes_ranked r x o h =
    let on = same_itself x.name in
    let m = ranked_filter (is_on x.name) r h in
    with_ranks_ranked r x.name (taken x (ranks r x.name)) h (taken_ranked x.name x (ranks r x.name) o on m (mine_on r x.name)) (taken_on x.name x (ranks r x.name) on (mine_on r x.name))

pub queues_ranked : (r : List Claim) (x : Claim) → is_ordinary_claim x ≡ true → ranked r ≡ true → ranked (with_ranks r x.name (queued_claims x (ranks r x.name))) ≡ true
queues_ranked r x o h =
    let on = same_itself x.name in
    let m = ranked_filter (is_on x.name) r h in
    with_ranks_ranked r x.name (queued_claims x (ranks r x.name)) h (queued_ranked x.name x (ranks r x.name) o on m (mine_on r x.name)) (queued_on x.name x (ranks r x.name) on (mine_on r x.name))

pub activates_ranked : (r : List Claim) (a : Claim) → is_placeholder a ≡ true → ranked r ≡ true → some_of is_placeholder (ranks r a.name) ≡ false → ranked (with_ranks r a.name (ranks r a.name ++ a ∷ [])) ≡ true
activates_ranked r a p h none =
    let n : List ℕ = a.name in
    let on : is_on n a ≡ true = same_itself n in
    let m = ranked_filter (is_on n) r h in
    let ordinary : all_of is_ordinary_claim (ranks r n) ≡ true = all_weaker (λ c. not (is_placeholder c)) is_ordinary_claim (λ c t. twice (is_ordinary_claim c) t) (ranks r n) (none_any is_placeholder (ranks r n) none) in
    let before : all_before (ranks r n) (a ∷ []) ≡ true = across (λ c. is_on n c && is_ordinary_claim c) (λ d. is_on n d && is_placeholder d) meets (ranks r n) (a ∷ []) (all_both (is_on n) is_ordinary_claim (ranks r n) (mine_on r n) ordinary) (and_from (is_on n a && is_placeholder a) true (and_from (is_on n a) (is_placeholder a) on p) refl) in
    with_ranks_ranked r n (ranks r n ++ a ∷ []) h (ranked_append (ranks r n) (a ∷ []) m refl before) (all_append (is_on n) (ranks r n) (a ∷ []) (mine_on r n) (and_from (is_on n a) true on refl))
  where
    twice : (b : Bool) → not (not b) ≡ true → b ≡ true
    twice true t = refl
    twice false t = t

    meets : (c d : Claim) → (is_on a.name c && is_ordinary_claim c) ≡ true → (is_on a.name d && is_placeholder d) ≡ true → claim_stands_before c d ≡ true
    meets c d s t =
        let s' = and_parts (is_on a.name c) (is_ordinary_claim c) s in
        let t' = and_parts (is_on a.name d) (is_placeholder d) t in
        same_stands c d (one_name a.name c d s'.0 t'.0) s'.1 (placeholder_of_none c.id d t'.1)

-- Who owns a name

pub find_in_filter : (p q : Claim → Bool) (xs : List Claim) → first p (filter q xs) ≡ head (filter q (filter p xs))
find_in_filter p q [] = refl
find_in_filter p q (x ∷ xs) = go (q x) (p x) refl refl (find_in_filter p q xs)
  where
    go : (a b : Bool) → q x ≡ a → p x ≡ b → first p (filter q xs) ≡ head (filter q (filter p xs)) → first p (cond a (x ∷ filter q xs) (filter q xs)) ≡ head (filter q (cond b (x ∷ filter p xs) (filter p xs)))
    go true true e f rest = rw (f, e) refl
    go true false e f rest = rw f rest
    go false true e f rest = rw e rest
    go false false e f rest = rest

pub first_is_head : (p : Claim → Bool) (xs : List Claim) → first p xs ≡ head (filter p xs)
first_is_head p [] = refl
first_is_head p (x ∷ xs) = go (p x) (first_is_head p xs)
  where
    go : (b : Bool) → first p xs ≡ head (filter p xs) → cond b (Some x) (first p xs) ≡ head (cond b (x ∷ filter p xs) (filter p xs))
    go true rest = refl
    go false rest = rest

head_append : (xs ys : List Claim) → elim (head xs) [ Some c ↦ Some c | None ↦ head ys ] ≡ head (xs ++ ys)
head_append [] ys = refl
head_append (x ∷ xs) ys = refl

-- the owner is the first of the name's claims
pub owner_is_first : (r : List Claim) (n : List ℕ) → ranked r ≡ true → owner r n ≡ head (ranks r n)
owner_is_first r n h =
    ap (λ o. elim o [ Some c ↦ Some c | None ↦ first (is_on n) (activators r) ]) (find_in_filter (is_on n) is_ordinary_claim r)
    ∙ ap (λ o. elim (head (those is_ordinary_claim (ranks r n))) [ Some c ↦ Some c | None ↦ o ]) (find_in_filter (is_on n) is_placeholder r)
    ∙ head_append (those is_ordinary_claim (ranks r n)) (but_those is_ordinary_claim (ranks r n))
    ∙ ap head (sym (ordinary_first n (ranks r n) (ranked_filter (is_on n) r h) (mine_on r n)))
