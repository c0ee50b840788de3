-- Who owns a name after an acquire or a release.
use Rattle.std.proofs.Common.{◌≡◌, ℕ, Bool, true, false, not, ◌&&◌, cond, List, [], ◌∷◌, ◌++◌, Option, Some, None, Ok, Err, refl, sym, ap, ◌∙◌}
use Rattle.std.specs.Prelude.{◌==◌, is_none, unwrap_or, map}
use Rattle.std.specs.List.{list_all}
use Rattle.std.proofs.lemmas.Bool.{true≢false, and_parts, and_right, not_from_false, not-true}
use Rattle.kd_model.specs.Words.{text_below, those, but_those, first, some_of, is_empty, first_that_holds}
use Rattle.kd_types.specs.Flags.{has_bits}
use Rattle.kd_types.specs.declared.flags.NameFlags.{NameFlags}
use Rattle.kd_types.specs.declared.refusal.Refusal.TheVariants.{BadName, AlreadyOwned, TooMany, NameTaken}
use Rattle.kd_name.specs.Names.{is_name}
use Rattle.kd_registry.specs.declared.claim.Claim.{Claim}
use Rattle.kd_registry.specs.declared.claim.Verdict.{Verdict}
use Rattle.kd_registry.specs.declared.claim.Verdict.TheVariants.{Owner, Queued}
use Rattle.kd_registry.specs.Claims.{is_ordinary_claim, allows, is_claim_of, is_on, claims, activators, ranks, owner, owner_id, id_of, lower, higher, with_ranks, judged, is_over, asked, staying, queued_claims, claim_of, acquired}
use Rattle.kd_model.proofs.Texts.{not_same, same_itself}
use Rattle.kd_model.proofs.Truth.{not_ok}
use Rattle.kd_registry.proofs.Filters.{all_kept, all_weaker}
use Rattle.kd_desk.specs.Owners.{owner_by}

-- the first claim, else the activator
abbrev either : Option Claim → Option Claim → Option Claim
either x y = elim x [ Some c ↦ Some c | None ↦ y ]

-- a claim on another name changes no owner of this one
owner_skip : (c : Claim) (cs : List Claim) (n : List ℕ) → is_on n c ≡ false → owner (c ∷ cs) n ≡ owner cs n
owner_skip c cs n e = go (is_ordinary_claim c)
  where
    x : Option Claim
    x = first (is_on n) (claims cs)

    y : Option Claim
    y = first (is_on n) (activators cs)

    one : (a : Bool) → a ≡ false → either (cond a (Some c) x) y ≡ either x y
    one false k = refl
    one true k = absurd (true≢false k)

    two : (a : Bool) → a ≡ false → either x (cond a (Some c) y) ≡ either x y
    two false k = refl
    two true k = absurd (true≢false k)

    go : (b : Bool) → either (first (is_on n) (cond b (c ∷ claims cs) (claims cs))) (first (is_on n) (cond (not b) (c ∷ activators cs) (activators cs))) ≡ either x y
    go true = one (is_on n c) e
    go false = two (is_on n c) e

-- an ordinary claim in front is the owner's
owner_front : (c : Claim) (cs : List Claim) (n : List ℕ) → is_on n c ≡ true → is_ordinary_claim c ≡ true → owner (c ∷ cs) n ≡ Some c
owner_front c cs n e k = go (is_ordinary_claim c) k
  where
    one : (a : Bool) → a ≡ true → either (cond a (Some c) (first (is_on n) (claims cs))) (first (is_on n) (activators cs)) ≡ Some c
    one true t = refl
    one false t = absurd (true≢false (sym t))

    go : (b : Bool) → b ≡ true → either (first (is_on n) (cond b (c ∷ claims cs) (claims cs))) (first (is_on n) (cond (not b) (c ∷ activators cs) (activators cs))) ≡ Some c
    go true t = one (is_on n c) e
    go false t = absurd (true≢false (sym t))

owner_behind : (xs ys : List Claim) (n : List ℕ) → list_all (λ c. not (is_on n c)) xs ≡ true → owner (xs ++ ys) n ≡ owner ys n
owner_behind [] ys n h = refl
owner_behind (x ∷ xs) ys n h =
    let h' = and_parts (not (is_on n x)) (list_all (λ c. not (is_on n c)) xs) h in
    owner_skip x (xs ++ ys) n (not-true (is_on n x) h'.0) ∙ owner_behind xs ys n h'.1

-- claims on lower names change no owner
pub owner_behind_lower : (r : List Claim) (n : List ℕ) (cs : List Claim) → owner (lower r n ++ cs) n ≡ owner cs n
owner_behind_lower r n cs =
    let is_low : Claim → Bool = λ (x : Claim). text_below x.name n in
    owner_behind (lower r n) cs n (all_weaker is_low (λ x. not (is_on n x)) (λ x t. not_from_false (is_on n x) (not_same x.name n t)) (lower r n) (all_kept is_low r))

-- so it is among claims that were replaced on the name
owner_of_ranks : (r : List Claim) (n : List ℕ) (c : Claim) (cs : List Claim) → is_on n c ≡ true → is_ordinary_claim c ≡ true → owner (with_ranks r n (c ∷ cs)) n ≡ Some c
owner_of_ranks r n c cs e k = owner_behind_lower r n ((c ∷ cs) ++ higher r n) ∙ owner_front c (cs ++ higher r n) n e k

-- and the first of the claims on the name, where it is ordinary
owner_of_head : (r : List Claim) (n : List ℕ) (o : Claim) (os : List Claim) → ranks r n ≡ o ∷ os → is_ordinary_claim o ≡ true → owner r n ≡ Some o
owner_of_head [] n o os e k = absurd cc
owner_of_head (c ∷ cs) n o os e k = go (is_on n c) refl e (λ h. owner_of_head cs n o os h k)
  where
    go : (b : Bool) → is_on n c ≡ b → cond b (c ∷ ranks cs n) (ranks cs n) ≡ o ∷ os → (ranks cs n ≡ o ∷ os → owner cs n ≡ Some o) → owner (c ∷ cs) n ≡ Some o
    go true t h rest = let is_o : c ≡ o = cc in owner_front c cs n t (ap is_ordinary_claim is_o ∙ k) ∙ ap Some is_o
    go false t h rest = owner_skip c cs n t ∙ rest h

-- nobody owns a name without claims
pub owned_by_some : (r : List Claim) (n : List ℕ) → is_none (owner r n) ≡ is_empty (ranks r n)
owned_by_some [] n = refl
owned_by_some (c ∷ cs) n = go (is_on n c) refl (owned_by_some cs n)
  where
    x : Option Claim
    x = first (is_on n) (claims cs)

    y : Option Claim
    y = first (is_on n) (activators cs)

    behind : (o : Option Claim) → is_none (either o (Some c)) ≡ false
    behind (Some z) = refl
    behind None = refl

    one : (a : Bool) → a ≡ true → is_none (either (cond a (Some c) x) y) ≡ false
    one true t = refl
    one false t = absurd (true≢false (sym t))

    two : (a : Bool) → a ≡ true → is_none (either x (cond a (Some c) y)) ≡ false
    two true t = behind x
    two false t = absurd (true≢false (sym t))

    some : (b : Bool) → is_on n c ≡ true → is_none (either (first (is_on n) (cond b (c ∷ claims cs) (claims cs))) (first (is_on n) (cond (not b) (c ∷ activators cs) (activators cs)))) ≡ false
    some true t = one (is_on n c) t
    some false t = two (is_on n c) t

    go : (b : Bool) → is_on n c ≡ b → is_none (owner cs n) ≡ is_empty (ranks cs n) → is_none (owner (c ∷ cs) n) ≡ is_empty (cond b (c ∷ ranks cs n) (ranks cs n))
    go true t rest = some (is_ordinary_claim c) t
    go false t rest = ap is_none (owner_skip c cs n t) ∙ rest

-- who is queued stands behind an ordinary owner that is another
pub record StandsBehind (id : ℕ) (mine : List Claim) : Type 0 where
  pub front : Claim
  pub others : List Claim
  pub mine_is : mine ≡ front ∷ others
  pub ordinary : is_ordinary_claim front ≡ true
  pub another : (front.id == id) ≡ false

judged_queued : (id : ℕ) (flags : NameFlags) (over : Bool) (mine : List Claim) → judged id flags over mine ≡ Ok Queued → StandsBehind id mine
judged_queued id flags true [] e = absurd (not_ok e)
judged_queued id flags false [] e = absurd cc
judged_queued id flags over (o ∷ cs) e = go (o.id == id) over (is_ordinary_claim o) refl refl e
  where
    go : (a b k : Bool) → (o.id == id) ≡ a → is_ordinary_claim o ≡ k
        → unwrap_or (first_that_holds ((a, Err AlreadyOwned) ∷ (b, Err (TooMany 64)) ∷ (not k, Ok (Owner o.id (Some o.id))) ∷ (allows o && has_bits flags.0 1, Ok (Owner o.id None)) ∷ (has_bits flags.0 4, Ok Queued) ∷ [])) (Err NameTaken) ≡ Ok Queued
        → StandsBehind id (o ∷ cs)
    go true b k t s h = absurd (not_ok h)
    go false true k t s h = absurd (not_ok h)
    go false false false t s h = absurd cc
    go false false true t s h = record { front = o; others = cs; mine_is = refl; ordinary = s; another = t }

asked_queued : (r : List Claim) (id : ℕ) (n : List ℕ) (flags : NameFlags) → asked r id n flags ≡ Ok Queued → StandsBehind id (ranks r n)
asked_queued r id n flags e = go (is_name n) e
  where
    go : (b : Bool) → cond b (judged id flags (is_over r id n) (ranks r n)) (Err BadName) ≡ Ok Queued → StandsBehind id (ranks r n)
    go true h = judged_queued id flags (is_over r id n) (ranks r n) h
    go false h = absurd (not_ok h)

-- who waits in the queue isn't the first
queued_behind : (x o : Claim) (os : List Claim) → is_ordinary_claim o ≡ true → (o.id == x.id) ≡ false → (cs : List Claim) × (queued_claims x (o ∷ os) ≡ o ∷ cs)
queued_behind x o os k another = go (some_of (is_claim_of x.id) (o ∷ os))
  where
    not_of : is_claim_of x.id o ≡ false
    not_of = and_right (is_ordinary_claim o) (o.id == x.id) another

    put : Claim → Claim
    put c = cond (is_claim_of x.id c) x c

    go : (b : Bool) → (cs : List Claim) × (cond b (map put (o ∷ os)) (those is_ordinary_claim (o ∷ os) ++ x ∷ but_those is_ordinary_claim (o ∷ os)) ≡ o ∷ cs)
    go true = (map put os, ap (λ t. cond t x o ∷ map put os) not_of)
    go false = (those is_ordinary_claim os ++ x ∷ but_those is_ordinary_claim (o ∷ os), ap (λ t. cond t (o ∷ those is_ordinary_claim os) (those is_ordinary_claim os) ++ x ∷ but_those is_ordinary_claim (o ∷ os)) k)

owner_queued : (r : List Claim) (x : Claim) → StandsBehind x.id (ranks r x.name) → owner_id (with_ranks r x.name (queued_claims x (ranks r x.name))) x.name ≡ owner_id r x.name
owner_queued r x s =
    let n : List ℕ = x.name in
    let q = queued_behind x s.front s.others s.ordinary s.another in
    let mine : queued_claims x (ranks r n) ≡ s.front ∷ q.0 = ap (queued_claims x) s.mine_is ∙ q.1 in
    let on : list_all (is_on n) (s.front ∷ s.others) ≡ true = ap (list_all (is_on n)) (sym s.mine_is) ∙ all_kept (is_on n) r in
    let here : is_on n s.front ≡ true = (and_parts (is_on n s.front) (list_all (is_on n) s.others) on).0 in
    ap (λ cs. owner_id (with_ranks r n cs) n) mine
    ∙ ap id_of (owner_of_ranks r n s.front q.0 here s.ordinary)
    ∙ sym (ap id_of (owner_of_head r n s.front s.others s.mine_is s.ordinary))

-- the owner after an acquire
pub owner_acquired : (r : List Claim) (id : ℕ) (n : List ℕ) (flags : NameFlags) (v : Verdict) → asked r id n flags ≡ Ok v → owner_id (acquired r (claim_of id n flags) (Ok v)) n ≡ owner_by v id (owner_id r n)
owner_acquired r id n flags (Owner old activator) e = ap id_of (owner_of_ranks r n (claim_of id n flags) (staying (but_those (is_claim_of id) (ranks r n))) (same_itself n) refl)
owner_acquired r id n flags Queued e = owner_queued r (claim_of id n flags) (asked_queued r id n flags e)
