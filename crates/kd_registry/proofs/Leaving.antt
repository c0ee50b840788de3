-- Who owns what when connections leave.
use Rattle.std.proofs.Common.{◌≡◌, ℕ, Bool, true, false, List, [], ◌∷◌, map, Option, Some, None, Ok, Err, refl, sym, ap, ◌∙◌, subst, cond, inl, inr}
use Rattle.std.specs.Prelude.{not, ◌&&◌, ◌||◌, ◌⊎◌, ◌==◌, filter, option_map, unwrap_or}
use Rattle.std.specs.Bool.{beq}
use Rattle.std.specs.List.{list_all}
use Rattle.std.proofs.lemmas.Bool.{true≢false, and_parts, and_from, and_left, and_right, eqb-true, eq-eqb, not-true, not_from_false, false_from_ne_true}
use Rattle.std.proofs.lemmas.List.Elements.{filter_agree}
use Rattle.kd_model.specs.Words.{same, text_below, all_of, those, first, contains, some_of, is_empty, first_that_holds}
use Rattle.kd_name.specs.Names.{is_name}
use Rattle.kd_types.specs.declared.refusal.Refusal.TheVariants.{BadName, NoSuchName, NotOwner}
use Rattle.kd_registry.specs.declared.claim.Claim.{Claim}
use Rattle.kd_types.specs.declared.owner_change.OwnerChange.{OwnerChange}
use Rattle.kd_registry.specs.Claims.{is_ordinary_claim, is_claim_of, is_on, ranks, owner, owner_id, id_of, head, heir, released, release_answer, left_by, claim_stands_before, ranked}
use Rattle.kd_registry.specs.Changes.{is_owners, claims_without, change, changes_without, left_by_each, SameIds, TellsOwners}
use Rattle.kd_model.proofs.Texts.{below_itself, same_text}
use Rattle.kd_registry.proofs.Filters.{all_kept, all_weaker, all_both, keeps_all, keeps_none, filter_twice}
use Rattle.kd_registry.proofs.Ranked.{because, ranked_filter}
use Rattle.kd_registry.proofs.Places.{ranks_released}
use Rattle.kd_registry.proofs.Kept.{find_in_filter, first_is_head, owner_is_first}

-- the owner after a release
pub heir_owns : (r : List Claim) (id : ℕ) (n : List ℕ) → ranked r ≡ true → heir (ranks r n) id ≡ owner_id (released r id n) n
heir_owns r id n h = ap id_of (first_is_head (λ c. not (is_claim_of id c)) (ranks r n) ∙ sym (ap head (ranks_released r id n)) ∙ sym (owner_is_first (released r id n) n (ranked_filter (λ c. not (is_on n c && is_claim_of id c)) r h)))

-- who the owner is, where the claims on the name are at hand
pub owner_by_head : (r mine : List Claim) (n : List ℕ) → ranked r ≡ true → mine ≡ ranks r n → owner r n ≡ head mine
owner_by_head r mine n h e = owner_is_first r n h ∙ ap head (sym e)

pub owners_at : (r : List Claim) (c : Claim) (o : Option Claim) (n : List ℕ) → o ≡ owner r n → n ≡ c.name → elim o [ Some q ↦ q.id == c.id && beq (is_ordinary_claim q) (is_ordinary_claim c) | None ↦ false ] ≡ is_owners r c
owners_at r c o n e f = ap (λ x. elim x [ Some q ↦ q.id == c.id && beq (is_ordinary_claim q) (is_ordinary_claim c) | None ↦ false ]) (e ∙ ap (owner r) f)

filter_swap : (p q : Claim → Bool) (xs : List Claim) → filter p (filter q xs) ≡ filter q (filter p xs)
filter_swap p q xs = filter_twice p q xs ∙ filter_agree (λ x. q x && p x) (λ x. p x && q x) (λ x. go (q x) (p x)) xs ∙ sym (filter_twice q p xs)
  where
    go : (a b : Bool) → (a && b) ≡ (b && a)
    go true true = refl
    go true false = refl
    go false true = refl
    go false false = refl

-- the owner after some have left
pub owner_after : (r : List Claim) (ids n : List ℕ) → ranked r ≡ true → id_of (first (λ (c : Claim). not (contains c.id ids)) (ranks r n)) ≡ owner_id (claims_without ids r) n
owner_after r ids n h =
    let stays : Claim → Bool = λ (c : Claim). not (contains c.id ids) in
    ap id_of (first_is_head stays (ranks r n) ∙ ap head (filter_swap stays (is_on n) r) ∙ sym (owner_is_first (claims_without ids r) n (ranked_filter stays r h)))

all_trivial : (xs : List Claim) → list_all (λ c. true) xs ≡ true
all_trivial [] = refl
all_trivial (x ∷ xs) = all_trivial xs

-- one after the other is all at once
left_is_without : (ids : List ℕ) (r : List Claim) → left_by_each r ids ≡ claims_without ids r
left_is_without [] r = sym (keeps_all (λ c. true) r (all_trivial r))
left_is_without (id ∷ ids) r =
    left_is_without ids (left_by r id)
    ∙ filter_twice (λ (c : Claim). not (contains c.id ids)) (λ (c : Claim). not (c.id == id)) r
    ∙ filter_agree (λ (c : Claim). not (c.id == id) && not (contains c.id ids)) (λ (c : Claim). not (contains c.id (id ∷ ids))) (λ c. go (c.id == id) (contains c.id ids)) r
  where
    go : (a b : Bool) → (not a && not b) ≡ not (a || b)
    go true b = refl
    go false b = refl

same_without : (xs ys : List ℕ) (r : List Claim) → SameIds xs ys → claims_without xs r ≡ claims_without ys r
same_without xs ys r e = filter_agree (λ (c : Claim). not (contains c.id xs)) (λ (c : Claim). not (contains c.id ys)) (λ c. ap not (e c.id)) r

-- a change of a name among the changes of some claims
change_in_map : (ids : List ℕ) (r xs : List Claim) (n : List ℕ) → first (λ (c : OwnerChange). same c.name n) (map (change ids r) xs) ≡ option_map (change ids r) (first (is_on n) xs)
change_in_map ids r [] n = refl
change_in_map ids r (x ∷ xs) n = go (same x.name n) (change_in_map ids r xs n)
  where
    go : (b : Bool) → first (λ (c : OwnerChange). same c.name n) (map (change ids r) xs) ≡ option_map (change ids r) (first (is_on n) xs) → cond b (Some (change ids r x)) (first (λ (c : OwnerChange). same c.name n) (map (change ids r) xs)) ≡ option_map (change ids r) (cond b (Some x) (first (is_on n) xs))
    go true rest = refl
    go false rest = rest

-- the first claim on a name is its owner's, and no other is
owners_first : (r : List Claim) (o : Claim) → owner r o.name ≡ Some o → is_owners r o ≡ true
owners_first r o e =
    sym (owners_at r o (Some o) o.name (sym e) refl)
    ∙ and_from (o.id == o.id) (beq (is_ordinary_claim o) (is_ordinary_claim o)) (eq-eqb o.id o.id refl) (go (is_ordinary_claim o))
  where
    go : (b : Bool) → beq b b ≡ true
    go true = refl
    go false = refl

owners_other : (r : List Claim) (o c : Claim) → owner r c.name ≡ Some o → is_ordinary_claim o ≡ true → is_claim_of o.id c ≡ false → is_owners r c ≡ false
owners_other r o c e ord f =
    sym (owners_at r c (Some o) c.name (sym e) refl)
    ∙ false_from_ne_true (o.id == c.id && beq (is_ordinary_claim o) (is_ordinary_claim c)) never
  where
    like : (a b : Bool) → beq a b ≡ true → a ≡ true → b ≡ true
    like true true t p = refl
    like true false t p = t
    like false b t p = absurd (true≢false (sym p))

    never : (o.id == c.id && beq (is_ordinary_claim o) (is_ordinary_claim c)) ≡ true → ⊥
    never t =
        let q = and_parts (o.id == c.id) (beq (is_ordinary_claim o) (is_ordinary_claim c)) t in
        true≢false (sym (and_from (is_ordinary_claim c) (c.id == o.id) (like (is_ordinary_claim o) (is_ordinary_claim c) q.1 ord) (eq-eqb c.id o.id (sym (eqb-true o.id c.id q.0)))) ∙ f)

kept_first : (p : Claim → Bool) (o : Claim) (cs : List Claim) → p o ≡ true → head (filter p (o ∷ cs)) ≡ Some o
kept_first p o cs e = rw e refl

kept_none : (p : Claim → Bool) (o : Claim) (cs : List Claim) → p o ≡ false → filter p cs ≡ [] → head (filter p (o ∷ cs)) ≡ None
kept_none p o cs e f = rw e (ap head f)

found_first : (p : Claim → Bool) (o : Claim) (cs : List Claim) → p o ≡ true → first p (o ∷ cs) ≡ Some o
found_first p o cs e = rw e refl

-- the owners that leave, of one name
told_of_name : (r : List Claim) (ids n : List ℕ) (mine : List Claim) → ranked r ≡ true → ranks r n ≡ mine → ranked mine ≡ true → all_of (is_on n) mine ≡ true
    → owner_id (claims_without ids r) n ≡ elim (option_map (change ids r) (head (filter (λ (c : Claim). contains c.id ids && is_owners r c) mine))) [ Some c ↦ c.new | None ↦ owner_id r n ]
told_of_name r ids n [] h e m on =
    sym (owner_after r ids n h) ∙ ap (λ z. id_of (first (λ (c : Claim). not (contains c.id ids)) z)) e ∙ sym (ap id_of (owner_is_first r n h ∙ ap head e))
told_of_name r ids n (o ∷ cs) h e m on = go (contains o.id ids) refl
  where
    m' : (all_of (claim_stands_before o) cs ≡ true) × (ranked cs ≡ true)
    m' = and_parts (all_of (claim_stands_before o) cs) (ranked cs) m

    on' : (is_on n o ≡ true) × (all_of (is_on n) cs ≡ true)
    on' = and_parts (is_on n o) (all_of (is_on n) cs) on

    owner_is : owner r n ≡ Some o
    owner_is = owner_is_first r n h ∙ ap head e

    owner_of : (c : Claim) → is_on n c ≡ true → owner r c.name ≡ Some o
    owner_of c p = ap (owner r) (same_text c.name n p) ∙ owner_is

    other : (c : Claim) → (is_on n c && claim_stands_before o c) ≡ true → not (contains c.id ids && is_owners r c) ≡ true
    other c t = not_from_false (contains c.id ids && is_owners r c) (and_right (contains c.id ids) (is_owners r c) (case (because o c q.1)))
      where
        q : (is_on n c ≡ true) × (claim_stands_before o c ≡ true)
        q = and_parts (is_on n c) (claim_stands_before o c) t

        case : (text_below o.name c.name ≡ true) ⊎ ((same o.name c.name ≡ true) × (is_ordinary_claim o ≡ true) × (not (is_claim_of o.id c) ≡ true)) → is_owners r c ≡ false
        case (inl b) = absurd (true≢false (sym b ∙ ap (text_below o.name) (same_text c.name n q.0 ∙ sym (same_text o.name n on'.0)) ∙ below_itself o.name))
        case (inr b) = owners_other r o c (owner_of c q.0) b.1 (not-true (is_claim_of o.id c) b.2)

    none : filter (λ (c : Claim). contains c.id ids && is_owners r c) cs ≡ []
    none = keeps_none (λ (c : Claim). contains c.id ids && is_owners r c) cs (all_weaker (λ c. is_on n c && claim_stands_before o c) (λ (c : Claim). not (contains c.id ids && is_owners r c)) other cs (all_both (is_on n) (claim_stands_before o) cs on'.1 m'.0))

    leaving : Claim → Bool
    leaving c = contains c.id ids && is_owners r c

    tell : Option Claim → ℕ
    tell x = elim (option_map (change ids r) x) [ Some c ↦ c.new | None ↦ owner_id r n ]

    go : (b : Bool) → contains o.id ids ≡ b → owner_id (claims_without ids r) n ≡ tell (head (filter leaving (o ∷ cs)))
    go true t =
        ap (owner_id (claims_without ids r)) (sym (same_text o.name n on'.0))
        ∙ sym (ap tell (kept_first leaving o cs (and_from (contains o.id ids) (is_owners r o) t (owners_first r o (owner_of o on'.0)))))
    go false t =
        sym (owner_after r ids n h)
        ∙ ap (λ z. id_of (first (λ (c : Claim). not (contains c.id ids)) z)) e
        ∙ ap id_of (found_first (λ (c : Claim). not (contains c.id ids)) o cs (not_from_false (contains o.id ids) t))
        ∙ sym (ap id_of owner_is)
        ∙ sym (ap tell (kept_none leaving o cs (and_left (contains o.id ids) (is_owners r o) t) none))

-- the changes tell every owner
pub changes_tell : (r : List Claim) (ids : List ℕ) → ranked r ≡ true → TellsOwners r ids (changes_without r ids)
changes_tell r ids h order same_ids n =
    let leaving : Claim → Bool = λ (c : Claim). contains c.id ids && is_owners r c in
    ap (λ z. owner_id z n) (left_is_without order r ∙ same_without order ids r same_ids)
    ∙ told_of_name r ids n (ranks r n) h refl (ranked_filter (is_on n) r h) (all_kept (is_on n) r)
    ∙ sym (ap (λ o. elim o [ Some c ↦ c.new | None ↦ owner_id r n ]) (change_in_map ids r (those leaving r) n ∙ ap (option_map (change ids r)) (find_in_filter (is_on n) leaving r)))

pub tell_by : (z r : List Claim) (ids : List ℕ) (cs : List OwnerChange) → z ≡ r → ranked z ≡ true → cs ≡ changes_without z ids → TellsOwners r ids cs
tell_by z r ids cs e h f = subst (λ y. TellsOwners y ids cs) e (subst (TellsOwners z ids) (sym f) (changes_tell z ids h))

-- a release that is answered by the owner after it
pub released_to : (r mine : List Claim) (id : ℕ) (n : List ℕ) (next : ℕ) → ranked r ≡ true → is_name n ≡ true → mine ≡ ranks r n → some_of (is_claim_of id) mine ≡ true → next ≡ heir mine id → Ok next ≡ release_answer r id n
released_to r mine id n next h named e has f =
    let some : some_of (is_claim_of id) (ranks r n) ≡ true = ap (some_of (is_claim_of id)) (sym e) ∙ has in
    let owner_is : next ≡ owner_id (released r id n) n = f ∙ ap (λ z. heir z id) e ∙ heir_owns r id n h in
    ap Ok owner_is ∙ sym (go (is_name n) (is_empty (ranks r n)) (some_of (is_claim_of id) (ranks r n)) named (not_empty (ranks r n) some) some)
  where
    not_empty : (xs : List Claim) → some_of (is_claim_of id) xs ≡ true → is_empty xs ≡ false
    not_empty [] t = absurd (true≢false (sym t))
    not_empty (x ∷ xs) t = refl

    go : (a b c : Bool) → a ≡ true → b ≡ false → c ≡ true → unwrap_or (first_that_holds ((not a, Err BadName) ∷ (b, Err NoSuchName) ∷ (not c, Err NotOwner) ∷ [])) (Ok (owner_id (released r id n) n)) ≡ Ok (owner_id (released r id n) n)
    go a b c p q s = rw (p, q, s) refl
