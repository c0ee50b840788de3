-- The claims after an acquire, a release, and an activator's coming.
use Rattle.std.proofs.Common.{◌≡◌, ℕ, suc, ◌+◌, ◌<◌, ◌≤◌, Bool, true, false, cond, List, [], ◌∷◌, ◌++◌, drop, length, map, Some, None, Result, Ok, Err, refl, sym, ap, ◌∙◌, inl, inr, arith}
use Rattle.std.specs.Prelude.{◌==◌, ◌||◌, ◌&&◌, ◌⊎◌, not, filter, nat_le, unwrap_or}
use Rattle.std.specs.List.{AllByRecursion}
use Rattle.std.proofs.lemmas.Bool.{and_cases, and_parts, eq-eqb, eqb-true, leb-false, not-false, not-true}
use Rattle.kd_model.specs.Words.{but_those, first_that_holds, some_of, those}
use Rattle.kd_model.proofs.Lists.{all_follow, all_of_append, all_of_filter}
use Rattle.kd_model.proofs.Truth.{not_ok}
use Rattle.kd_types.specs.Flags.{has_bits}
use Rattle.kd_types.specs.declared.flags.NameFlags.{NameFlags}
use Rattle.kd_types.specs.declared.refusal.Refusal.{Refusal}
use Rattle.kd_types.specs.declared.refusal.Refusal.TheVariants.{AlreadyOwned, BadName, NameTaken, TooMany}
use Rattle.kd_name.specs.Names.{is_name}
use Rattle.kd_registry.specs.declared.claim.Claim.{Claim}
use Rattle.kd_registry.specs.declared.claim.Stake.TheVariants.{Activator}
use Rattle.kd_registry.specs.declared.claim.Verdict.{Verdict}
use Rattle.kd_registry.specs.declared.claim.Verdict.TheVariants.{Owner, Queued}
use Rattle.kd_registry.specs.Claims.{acquired, allows, asked, claim_of, gives_way, held, higher, is_claim_of, is_on, is_ordinary_claim, is_over, is_placeholder, judged, lower, queued_claims, ranked, ranks, released, staying, taken, with_ranks}
use Rattle.kd_registry.proofs.Kept.{activates_ranked, queues_ranked, takes_ranked}
use Rattle.kd_registry.proofs.Ranked.{parts, ranked_filter}
use Rattle.kd_commands.specs.declared.conn.Conn.{Conn}
use Rattle.kd_settled.specs.Owners.{lives, may_claim}
use Rattle.kd_settled.specs.Settled.{AreClaims, is_claim_by}
use Rattle.kd_settled.proofs.Counts.{count, count_agree, count_append, count_behind, count_cons, count_fewer, count_map, count_none, count_some}

-- ---- what holds of each claim

all_behind : (P : Claim → Type 0) (xs : List Claim) → AllByRecursion P xs → AllByRecursion P (drop 1 xs)
all_behind P [] a = tt
all_behind P (x ∷ xs) a = a.1

all_staying : (P : Claim → Type 0) (mine : List Claim) → AllByRecursion P mine → AllByRecursion P (staying mine)
all_staying P mine a = go (gives_way mine)
  where
    go : (b : Bool) → AllByRecursion P (cond b (drop 1 mine) mine)
    go true = all_behind P mine a
    go false = a

-- a claim in the place of an older one of its connection
abbrev instead : Claim → Claim → Claim
instead x c = cond (is_claim_of x.id c) x c

all_instead : (P : Claim → Type 0) (x : Claim) (mine : List Claim) → P x → AllByRecursion P mine → AllByRecursion P (map (instead x) mine)
all_instead P x [] h a = tt
all_instead P x (c ∷ cs) h a = (go (is_claim_of x.id c), all_instead P x cs h a.1)
  where
    go : (b : Bool) → P (cond b x c)
    go true = h
    go false = a.0

all_queued : (P : Claim → Type 0) (x : Claim) (mine : List Claim) → P x → AllByRecursion P mine → AllByRecursion P (queued_claims x mine)
all_queued P x mine h a = go (some_of (is_claim_of x.id) mine)
  where
    go : (b : Bool) → AllByRecursion P (cond b (map (instead x) mine) (those is_ordinary_claim mine ++ x ∷ but_those is_ordinary_claim mine))
    go true = all_instead P x mine h a
    go false =
        all_of_append P (those is_ordinary_claim mine) (x ∷ but_those is_ordinary_claim mine) (all_of_filter P is_ordinary_claim mine a)
        (h, all_of_filter P (λ c. not (is_ordinary_claim c)) mine a)

all_with : (P : Claim → Type 0) (r : List Claim) (n : List ℕ) (mine : List Claim) → AllByRecursion P r → AllByRecursion P mine → AllByRecursion P (with_ranks r n mine)
all_with P r n mine a m =
    all_of_append P (lower r n) (mine ++ higher r n) (all_of_filter P _ r a) (all_of_append P mine (higher r n) m (all_of_filter P _ r a))

-- what holds of each, and of the new one
all_acquired : (P : Claim → Type 0) (r : List Claim) (x : Claim) (v : Verdict) → P x → AllByRecursion P r → AllByRecursion P (acquired r x (Ok v))
all_acquired P r x (Owner old activator) h a =
    all_with P r x.name (taken x (ranks r x.name)) a
    (h, all_staying P (but_those (is_claim_of x.id) (ranks r x.name)) (all_of_filter P _ (ranks r x.name) (all_of_filter P _ r a)))
all_acquired P r x Queued h a = all_with P r x.name (queued_claims x (ranks r x.name)) a (all_queued P x (ranks r x.name) h (all_of_filter P _ r a))

-- ---- how many there are

-- those on one name replaced
count_with :
    (q : Claim → Bool) (r : List Claim) (n : List ℕ) (mine : List Claim) → ranked r ≡ true
    → count q (with_ranks r n mine) + count q (ranks r n) ≡ count q r + count q mine
count_with q r n mine h =
    omega (
      arith,
      ap (count q) (parts r n h),
      count_append q (lower r n) (ranks r n ++ higher r n),
      count_append q (ranks r n) (higher r n),
      count_append q (lower r n) (mine ++ higher r n),
      count_append q mine (higher r n),
    )

count_staying : (q : Claim → Bool) (mine : List Claim) → count q (staying mine) ≤ count q mine
count_staying q mine = go (gives_way mine)
  where
    go : (b : Bool) → count q (cond b (drop 1 mine) mine) ≤ count q mine
    go true = count_behind q mine
    go false = omega arith

-- a claim of another connection
count_other : (id : ℕ) (x : Claim) (xs : List Claim) → (x.id == id) ≡ false → count (is_claim_by id) (x ∷ xs) ≡ count (is_claim_by id) xs
count_other id x xs e = ap (λ b. length (cond b (x ∷ filter (is_claim_by id) xs) (filter (is_claim_by id) xs))) e

-- and of this one
count_own : (id : ℕ) (x : Claim) (xs : List Claim) → (x.id == id) ≡ true → count (is_claim_by id) (x ∷ xs) ≡ 1 + count (is_claim_by id) xs
count_own id x xs e = ap (λ b. length (cond b (x ∷ filter (is_claim_by id) xs) (filter (is_claim_by id) xs))) e ∙ next (count (is_claim_by id) xs)
  where
    next : (n : ℕ) → suc n ≡ 1 + n
    next n = omega arith

count_parts : (q p : Claim → Bool) (xs : List Claim) → count q (those p xs) + count q (but_those p xs) ≡ count q xs
count_parts q p [] = refl
count_parts q p (x ∷ xs) = go (p x) (count_parts q p xs)
  where
    go : (b : Bool) → count q (those p xs) + count q (but_those p xs) ≡ count q xs
        → count q (cond b (x ∷ those p xs) (those p xs)) + count q (cond (not b) (x ∷ but_those p xs) (but_those p xs)) ≡ count q (x ∷ xs)
    go true ih = omega (arith, ih, count_cons q x (those p xs), count_cons q x xs)
    go false ih = omega (arith, ih, count_cons q x (but_those p xs), count_cons q x xs)

-- the older claim of a connection has its id
instead_of : (id : ℕ) (x c : Claim) → is_claim_by id (instead x c) ≡ is_claim_by id c
instead_of id x c = go (is_claim_of x.id c) refl
  where
    go : (b : Bool) → is_claim_of x.id c ≡ b → is_claim_by id (cond b x c) ≡ is_claim_by id c
    go true e = ap (λ n. n == id) (sym (eqb-true c.id x.id (and_parts (is_ordinary_claim c) (c.id == x.id) e).1))
    go false e = refl

-- ---- who may have one more

judged_over : (id : ℕ) (flags : NameFlags) (over : Bool) (mine : List Claim) (v : Verdict) → judged id flags over mine ≡ Ok v → over ≡ false
judged_over id flags false mine v e = refl
judged_over id flags true [] v e = absurd (not_ok e)
judged_over id flags true (o ∷ cs) v e =
    go (o.id == id) ((is_placeholder o, Ok (Owner o.id (Some o.id))) ∷ (allows o && has_bits flags.0 1, Ok (Owner o.id None)) ∷ (has_bits flags.0 4, Ok Queued) ∷ []) (Err NameTaken) e
  where
    go : (b : Bool) (rest : List (Bool × Result Verdict Refusal)) (last : Result Verdict Refusal) → unwrap_or (first_that_holds ((b, Err AlreadyOwned) ∷ (true, Err (TooMany 64)) ∷ rest)) last ≡ Ok v → true ≡ false
    go true rest last t = absurd (not_ok t)
    go false rest last t = absurd (not_ok t)

-- it has a claim on the name already, or fewer than 64
abbrev MayHave : List Claim → ℕ → List ℕ → Type 0
MayHave r id n = (some_of (is_claim_of id) (ranks r n) ≡ true) ⊎ (held r id < 64)

may_have : (r : List Claim) (id : ℕ) (n : List ℕ) (flags : NameFlags) (v : Verdict) → asked r id n flags ≡ Ok v → MayHave r id n
may_have r id n flags v e = named (is_name n) e
  where
    go : (not (some_of (is_claim_of id) (ranks r n)) ≡ false) ⊎ (nat_le 64 (held r id) ≡ false) → MayHave r id n
    go (inl t) = inl (not-false (some_of (is_claim_of id) (ranks r n)) t)
    go (inr t) = inr (leb-false 64 (held r id) t)

    named : (b : Bool) → cond b (judged id flags (is_over r id n) (ranks r n)) (Err BadName) ≡ Ok v → MayHave r id n
    named true t = go (and_cases (not (some_of (is_claim_of id) (ranks r n))) (nat_le 64 (held r id)) (judged_over id flags (is_over r id n) (ranks r n) v t))
    named false t = absurd (not_ok t)

-- ---- an acquire

-- all claims of the connection are ordinary ones
abbrev pub OwnOrdinary : List Claim → ℕ → Type 0
OwnOrdinary r id = AllByRecursion (λ (y : Claim). is_claim_of id y ≡ (y.id == id)) r

-- the others have no more claims than before
few_others :
    (r : List Claim) (x : Claim) (v : Verdict) (id : ℕ) → ranked r ≡ true → (x.id == id) ≡ false
    → count (is_claim_by id) (acquired r x (Ok v)) ≤ count (is_claim_by id) r
few_others r x (Owner old activator) id h e =
    let q : Claim → Bool = is_claim_by id in
    let mine : List Claim = ranks r x.name in
    let rest : List Claim = but_those (is_claim_of x.id) mine in
    omega (
      arith,
      count_with q r x.name (taken x mine) h,
      count_other id x (staying rest) e,
      count_staying q rest,
      count_fewer q (λ c. not (is_claim_of x.id c)) mine,
    )
few_others r x Queued id h e = go (some_of (is_claim_of x.id) mine) refl
  where
    mine : List Claim
    mine = ranks r x.name

    q : Claim → Bool
    q = is_claim_by id

    less : (b : Bool) → count q (cond b (map (instead x) mine) (those is_ordinary_claim mine ++ x ∷ but_those is_ordinary_claim mine)) ≤ count q mine
    less true = omega (arith, count_map q (instead x) (instead_of id x) mine)
    less false =
        omega (
          arith,
          count_append q (those is_ordinary_claim mine) (x ∷ but_those is_ordinary_claim mine),
          count_other id x (but_those is_ordinary_claim mine) e,
          count_parts q is_ordinary_claim mine,
        )

    go : (b : Bool) → some_of (is_claim_of x.id) mine ≡ b → count q (with_ranks r x.name (queued_claims x mine)) ≤ count q r
    go b is = omega (arith, count_with q r x.name (queued_claims x mine) h, less (some_of (is_claim_of x.id) mine))

-- and it has one of each name
own_on :
    (r : List Claim) (x : Claim) (v : Verdict) → ranked r ≡ true → OwnOrdinary r x.id
    → count (is_claim_by x.id) r ≤ 64 → MayHave r x.id x.name → (x.id == x.id) ≡ true
    → count (is_claim_by x.id) (acquired r x (Ok v)) ≤ 64
own_on r x v h own few may same = go v may
  where
    mine : List Claim
    mine = ranks r x.name

    q : Claim → Bool
    q = is_claim_by x.id

    mine_own : AllByRecursion (λ (y : Claim). is_claim_of x.id y ≡ (y.id == x.id)) mine
    mine_own = all_of_filter (λ (y : Claim). is_claim_of x.id y ≡ (y.id == x.id)) (is_on x.name) r own

    none : count q (but_those (is_claim_of x.id) mine) ≡ 0
    none = count_none q (but_those (is_claim_of x.id) mine) (all_fail mine mine_own)
      where
        all_fail : (ys : List Claim) → AllByRecursion (λ (y : Claim). is_claim_of x.id y ≡ (y.id == x.id)) ys → AllByRecursion (λ (y : Claim). q y ≡ false) (but_those (is_claim_of x.id) ys)
        all_fail [] a = tt
        all_fail (y ∷ ys) a = one (is_claim_of x.id y) refl (all_fail ys a.1)
          where
            one : (b : Bool) → is_claim_of x.id y ≡ b → AllByRecursion (λ (z : Claim). q z ≡ false) (but_those (is_claim_of x.id) ys)
                → AllByRecursion (λ (z : Claim). q z ≡ false) (cond (not b) (y ∷ but_those (is_claim_of x.id) ys) (but_those (is_claim_of x.id) ys))
            one true is ih = ih
            one false is ih = (sym a.0 ∙ is, ih)

    few_held : held r x.id < 64 → count q r < 64
    few_held lt = omega (arith, lt, count_agree (is_claim_of x.id) q r own)

    has_some : some_of (is_claim_of x.id) mine ≡ true → 0 < count q mine
    has_some t = omega (arith, count_some (is_claim_of x.id) mine t, count_agree (is_claim_of x.id) q mine mine_own)

    took : (old : ℕ) → count q (taken x mine) ≤ 1
    took old =
        omega (arith, count_own x.id x (staying (but_those (is_claim_of x.id) mine)) same, count_staying q (but_those (is_claim_of x.id) mine), none)

    renews : some_of (is_claim_of x.id) mine ≡ true → count q (queued_claims x mine) ≡ count q mine
    renews t = ap (λ b. count q (cond b (map (instead x) mine) (those is_ordinary_claim mine ++ x ∷ but_those is_ordinary_claim mine))) t ∙ count_map q (instead x) (instead_of x.id x) mine

    one_more : (b : Bool) → count q (cond b (map (instead x) mine) (those is_ordinary_claim mine ++ x ∷ but_those is_ordinary_claim mine)) ≤ 1 + count q mine
    one_more true = omega (arith, count_map q (instead x) (instead_of x.id x) mine)
    one_more false =
        omega (
          arith,
          count_append q (those is_ordinary_claim mine) (x ∷ but_those is_ordinary_claim mine),
          count_own x.id x (but_those is_ordinary_claim mine) same,
          count_parts q is_ordinary_claim mine,
        )

    go : (v : Verdict) → MayHave r x.id x.name → count q (acquired r x (Ok v)) ≤ 64
    go (Owner old activator) (inl t) = omega (arith, few, has_some t, took old, count_with q r x.name (taken x mine) h)
    go (Owner old activator) (inr lt) = omega (arith, few_held lt, took old, count_with q r x.name (taken x mine) h)
    go Queued (inl t) = omega (arith, few, count_with q r x.name (queued_claims x mine) h, renews t)
    go Queued (inr lt) = omega (arith, few_held lt, count_with q r x.name (queued_claims x mine) h, one_more (some_of (is_claim_of x.id) mine))

-- ---- the claims after each

pub acquired_claims :
    (cs : List Conn) (r : List Claim) (id : ℕ) (n : List ℕ) (flags : NameFlags) (v : Verdict) → AreClaims cs r → OwnOrdinary r id
    → lives (may_claim (claim_of id n flags)) cs id ≡ true → is_name n ≡ true → asked r id n flags ≡ Ok v
    → AreClaims cs (acquired r (claim_of id n flags) (Ok v))
acquired_claims cs r id n flags v a own live named e = record {
  owned = all_acquired (λ (y : Claim). lives (may_claim y) cs y.id ≡ true) r (claim_of id n flags) v live a.owned;
  order = ranked_then v;
  named = all_acquired (λ (y : Claim). is_name y.name ≡ true) r (claim_of id n flags) v named a.named;
  few = λ i. one i (id == i) refl;
}
  where
    x : Claim
    x = claim_of id n flags

    ranked_then : (w : Verdict) → ranked (acquired r x (Ok w)) ≡ true
    ranked_then (Owner old activator) = takes_ranked r x refl a.order
    ranked_then Queued = queues_ranked r x refl a.order

    one : (i : ℕ) (b : Bool) → (id == i) ≡ b → count (is_claim_by i) (acquired r x (Ok v)) ≤ 64
    one i true same = let is : id ≡ i = eqb-true id i same in rw (sym is) (own_on r x v a.order own (a.few id) (may_have r id n flags v e) (eq-eqb id id refl))
    one i false apart = omega (arith, a.few i, few_others r x v i a.order apart)

-- some go
pub filtered_claims : (cs : List Conn) (r : List Claim) (p : Claim → Bool) → AreClaims cs r → AreClaims cs (filter p r)
filtered_claims cs r p a = record {
  owned = all_of_filter (λ (y : Claim). lives (may_claim y) cs y.id ≡ true) p r a.owned;
  order = ranked_filter p r a.order;
  named = all_of_filter (λ (y : Claim). is_name y.name ≡ true) p r a.named;
  few = λ id. omega (arith, a.few id, count_fewer (is_claim_by id) p r);
}

-- an activator comes, that has none yet
pub activated_claims :
    (cs : List Conn) (r : List Claim) (id : ℕ) (n : List ℕ) → AreClaims cs r
    → lives (may_claim (record { name = n; id = id; stake = Activator })) cs id ≡ true → is_name n ≡ true
    → some_of is_placeholder (ranks r n) ≡ false → AllByRecursion (λ (y : Claim). (y.id == id) ≡ false) r
    → AreClaims cs (with_ranks r n (ranks r n ++ record { name = n; id = id; stake = Activator } ∷ []))
activated_claims cs r id n a live named free new = record {
  owned = all_with P r n (ranks r n ++ x ∷ []) a.owned (all_of_append P (ranks r n) (x ∷ []) (all_of_filter P _ r a.owned) (live, tt));
  order = activates_ranked r x refl a.order free;
  named = all_with N r n (ranks r n ++ x ∷ []) a.named (all_of_append N (ranks r n) (x ∷ []) (all_of_filter N _ r a.named) (named, tt));
  few = λ i. one i (id == i) refl;
}
  where
    x : Claim
    x = record { name = n; id = id; stake = Activator }

    P : Claim → Type 0
    P y = lives (may_claim y) cs y.id ≡ true

    N : Claim → Type 0
    N y = is_name y.name ≡ true

    more : (i : ℕ) → count (is_claim_by i) (with_ranks r n (ranks r n ++ x ∷ [])) ≡ count (is_claim_by i) r + count (is_claim_by i) (x ∷ [])
    more i = omega (arith, count_with (is_claim_by i) r n (ranks r n ++ x ∷ []) a.order, count_append (is_claim_by i) (ranks r n) (x ∷ []))

    one : (i : ℕ) (b : Bool) → (id == i) ≡ b → count (is_claim_by i) (with_ranks r n (ranks r n ++ x ∷ [])) ≤ 64
    one i true same =
        let is : id ≡ i = eqb-true id i same in
        rw (sym is) (omega (arith, more id, count_own id x [] (eq-eqb id id refl), count_none (is_claim_by id) r new))
    one i false apart = omega (arith, a.few i, more i, count_other i x [] apart)
