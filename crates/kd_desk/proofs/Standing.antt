-- Who owns the name of an activator.
use Rattle.std.proofs.Common.{◌≡◌, ℕ, Bool, true, false, cond, List, [], ◌∷◌, ◌++◌, Option, Some, None, Ok, refl, ap, ◌∙◌}
use Rattle.std.specs.Prelude.{not, filter, unwrap_or, option_map}
use Rattle.std.specs.List.{list_all}
use Rattle.std.proofs.lemmas.Bool.{and_parts, not_from_false, not-true}
use Rattle.std.proofs.lemmas.List.{append_assoc}
use Rattle.kd_model.specs.Words.{text_below, first}
use Rattle.kd_model.proofs.Texts.{not_same_above, same_itself}
use Rattle.kd_registry.proofs.Filters.{all_kept, all_weaker}
use Rattle.kd_registry.specs.declared.claim.Claim.{Claim}
use Rattle.kd_registry.specs.declared.claim.Stake.TheVariants.{Activator}
use Rattle.kd_registry.specs.Claims.{is_ordinary_claim, is_on, ranks, owner, owner_id, id_of, higher, after_activator}
use Rattle.kd_desk.specs.Arriving.{owner_with}
use Rattle.kd_desk.proofs.Owning.{owner_behind_lower}

-- the first of two that there is
abbrev either : Option Claim → Option Claim → Option Claim
either x y = elim x [ Some c ↦ Some c | None ↦ y ]

-- the first claim on the name, of those that pass a test
abbrev first_by : (Claim → Bool) → List ℕ → List Claim → Option Claim
first_by t n r = first (is_on n) (filter t r)

among_ranks : (t : Claim → Bool) (n : List ℕ) (r zs : List Claim) → first_by t n (ranks r n ++ zs) ≡ either (first_by t n r) (first_by t n zs)
among_ranks t n [] zs = refl
among_ranks t n (x ∷ r) zs = pick (is_on n x) refl (among_ranks t n r zs)
  where
    on : (b : Bool) → is_on n x ≡ true → first_by t n (ranks r n ++ zs) ≡ either (first_by t n r) (first_by t n zs)
        → first (is_on n) (cond b (x ∷ filter t (ranks r n ++ zs)) (filter t (ranks r n ++ zs))) ≡ either (first (is_on n) (cond b (x ∷ filter t r) (filter t r))) (first_by t n zs)
    on true e rest = rw e refl
    on false e rest = rest

    off : (b : Bool) → is_on n x ≡ false → first_by t n (ranks r n ++ zs) ≡ either (first_by t n r) (first_by t n zs)
        → first_by t n (ranks r n ++ zs) ≡ either (first (is_on n) (cond b (x ∷ filter t r) (filter t r))) (first_by t n zs)
    off true e rest = rw e rest
    off false e rest = rest

    pick : (a : Bool) → is_on n x ≡ a → first_by t n (ranks r n ++ zs) ≡ either (first_by t n r) (first_by t n zs)
        → first_by t n (cond a (x ∷ ranks r n) (ranks r n) ++ zs) ≡ either (first_by t n (x ∷ r)) (first_by t n zs)
    pick true e rest = on (t x) e rest
    pick false e rest = off (t x) e rest

-- on other names there is none
none_off : (t : Claim → Bool) (n : List ℕ) (r : List Claim) → list_all (λ c. not (is_on n c)) r ≡ true → first_by t n r ≡ None
none_off t n [] h = refl
none_off t n (x ∷ r) h =
    let parts = and_parts (not (is_on n x)) (list_all (λ c. not (is_on n c)) r) h in
    go (t x) (not-true (is_on n x) parts.0) (none_off t n r parts.1)
  where
    go : (b : Bool) → is_on n x ≡ false → first_by t n r ≡ None → first (is_on n) (cond b (x ∷ filter t r) (filter t r)) ≡ None
    go true e rest = rw e rest
    go false e rest = rest

high_off : (r : List Claim) (n : List ℕ) → list_all (λ c. not (is_on n c)) (higher r n) ≡ true
high_off r n =
    let is_high : Claim → Bool = λ (x : Claim). text_below n x.name in
    all_weaker is_high (λ x. not (is_on n x)) (λ x t. not_from_false (is_on n x) (not_same_above n x.name t)) (higher r n) (all_kept is_high r)

whose : (x y : Option Claim) (p : Claim) → id_of (either (either x None) (either y (Some p))) ≡ unwrap_or (option_map (λ (c : Claim). c.id) (either x y)) p.id
whose (Some c) y p = refl
whose None (Some c) p = refl
whose None None p = refl

-- whoever owned it owns it still, else its activator does
pub owner_activated : (r : List Claim) (id : ℕ) (n : List ℕ) → owner_id (after_activator r id n (Ok tt)) n ≡ owner_with r n id
owner_activated r id n =
    let p : Claim = record { name = n; id = id; stake = Activator } in
    let behind : List Claim = p ∷ higher r n in
    let is_active : Claim → Bool = λ (x : Claim). not (is_ordinary_claim x) in
    let none : first_by is_ordinary_claim n behind ≡ None = none_off is_ordinary_claim n (higher r n) (high_off r n) in
    let some : first_by is_active n behind ≡ Some p = ap (λ b. cond b (Some p) (first_by is_active n (higher r n))) (same_itself n) in
    ap id_of (owner_behind_lower r n ((ranks r n ++ p ∷ []) ++ higher r n))
    ∙ ap (λ cs. id_of (owner cs n)) (append_assoc (ranks r n) (p ∷ []) (higher r n))
    ∙ ap (λ x. id_of (either x (first_by is_active n (ranks r n ++ behind)))) (among_ranks is_ordinary_claim n r behind ∙ ap (either (first_by is_ordinary_claim n r)) none)
    ∙ ap (λ x. id_of (either (either (first_by is_ordinary_claim n r) None) x)) (among_ranks is_active n r behind ∙ ap (either (first_by is_active n r)) some)
    ∙ whose (first_by is_ordinary_claim n r) (first_by is_active n r) p
