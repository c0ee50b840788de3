-- What holds of all rules holds of those that are kept, and of those of one connection.
use Rattle.std.proofs.Common.{◌≡◌, ℕ, zero, suc, ◌<◌, Bool, true, false, cond, not, ◌&&◌, ◌||◌, List, [], ◌∷◌, length, get_or, filter, Ok, refl, ap, sym, arith, eqb}
use Rattle.std.specs.Prelude.{nat_le}
use Rattle.std.specs.List.{list_all, list_any}
use Rattle.std.proofs.lemmas.Bool.{and_parts, and_from, or_parts, not-false, leb-false}
use Rattle.std.proofs.lemmas.List.Filters.{length-filter_both}
use Rattle.std.proofs.lemmas.List.Kept.{IsNonDecreasingBy-filter}
use Rattle.kd_model.specs.Words.{put_in_order, but_those, all_of, some_of}
use Rattle.kd_match.specs.declared.rule.Rule.{Rule}
use Rattle.kd_match.specs.declared.condition.Condition.{Condition}
use Rattle.kd_match.specs.Rules.{Table, IsTable, rule_refusal, result_of, mask_fits, comes_before, is_named, rules_left, misnames, rules_of}

-- at each place
pub all_at : {X : Type 0} (p : X → Bool) (xs : List X) (i : ℕ) (d : X) → list_all p xs ≡ true → i < length xs → p (get_or xs i d) ≡ true
all_at p [] i d all lt = absurd (omega arith)
all_at p (x ∷ xs) zero d all lt = (and_parts (p x) (list_all p xs) all).0
all_at p (x ∷ xs) (suc i) d all lt = all_at p xs i d ((and_parts (p x) (list_all p xs) all).1) (omega arith)

-- of those that are kept
pub all_those : (p q : Rule → Bool) (xs : List Rule) → list_all p xs ≡ true → list_all p (filter q xs) ≡ true
all_those p q [] all = refl
all_those p q (x ∷ xs) all = go (q x) (all_those p q xs ((and_parts (p x) (list_all p xs) all).1))
  where
    go : (t : Bool) → list_all p (filter q xs) ≡ true → list_all p (cond t (x ∷ filter q xs) (filter q xs)) ≡ true
    go true later = and_from (p x) (list_all p (filter q xs)) ((and_parts (p x) (list_all p xs) all).0) later
    go false later = later

-- of one more
pub all_put : (p : Rule → Bool) (rule : Rule) (xs : List Rule) → p rule ≡ true → list_all p xs ≡ true → list_all p (put_in_order comes_before rule xs) ≡ true
all_put p rule [] here all = and_from (p rule) true here refl
all_put p rule (x ∷ xs) here all = go (comes_before rule x) refl (all_put p rule xs here ((and_parts (p x) (list_all p xs) all).1))
  where
    go : (t : Bool) → comes_before rule x ≡ t → list_all p (put_in_order comes_before rule xs) ≡ true → list_all p (put_in_order comes_before rule (x ∷ xs)) ≡ true
    go true e later = rw (e, put_in_order) (and_from (p rule) (list_all p (x ∷ xs)) here all)
    go false e later = rw (e, put_in_order) (and_from (p x) (list_all p (put_in_order comes_before rule xs)) ((and_parts (p x) (list_all p xs) all).0) later)

twice : (b : Bool) → b ≡ not (not b)
twice true = refl
twice false = refl

-- a table that isn't full has room, whichever rules stay
pub has_room : (p : Rule → Bool) (rules : List Rule) → false ≡ nat_le 4096 (length rules) → length (but_those p rules) < 4096
has_room p rules some =
    let both = length-filter_both (λ r. not (p r)) p (λ r. twice (p r)) rules in
    let few = leb-false 4096 (length rules) (sym some) in
    omega arith

-- the connection's rules that stay
pub own_kept : (id cookie : ℕ) (rules : List Rule) → filter (λ (r : Rule). not (eqb r.cookie cookie)) (rules_of id rules) ≡ rules_of id (but_those (is_named id cookie) rules)
own_kept id cookie [] = refl
own_kept id cookie (x ∷ rules) = go (eqb x.id id) (eqb x.cookie cookie) refl refl (own_kept id cookie rules)
  where
    go : (s t : Bool) → eqb x.id id ≡ s → eqb x.cookie cookie ≡ t → filter (λ (r : Rule). not (eqb r.cookie cookie)) (rules_of id rules) ≡ rules_of id (but_those (is_named id cookie) rules) → filter (λ (r : Rule). not (eqb r.cookie cookie)) (cond (eqb x.id id) (x ∷ rules_of id rules) (rules_of id rules)) ≡ rules_of id (cond (not (eqb x.id id && eqb x.cookie cookie)) (x ∷ but_those (is_named id cookie) rules) (but_those (is_named id cookie) rules))
    go true true s t later = rw (s, t) later
    go true false s t later = rw (s, t) (rw s (ap (x ∷◌) later))
    go false true s t later = rw s (rw s later)
    go false false s t later = rw s (rw s later)

-- a rule with the cookie among the connection's is one of the connection with the cookie
pub own_named : (id cookie : ℕ) (rules : List Rule) → list_any (λ (r : Rule). eqb r.cookie cookie) (rules_of id rules) ≡ some_of (is_named id cookie) rules
own_named id cookie [] = refl
own_named id cookie (x ∷ rules) = go (eqb x.id id) (own_named id cookie rules)
  where
    go : (s : Bool) → list_any (λ (r : Rule). eqb r.cookie cookie) (rules_of id rules) ≡ some_of (is_named id cookie) rules → list_any (λ (r : Rule). eqb r.cookie cookie) (cond s (x ∷ rules_of id rules) (rules_of id rules)) ≡ ((s && eqb x.cookie cookie) || some_of (is_named id cookie) rules)
    go true later = ap (eqb x.cookie cookie ||◌) later
    go false later = later

-- ---- the table's facts

pub table_those : (size : ℕ) (q : Rule → Bool) (rules : List Rule) → IsTable size rules → IsTable size (filter q rules)
table_those size q rules t = record {
  in_order = IsNonDecreasingBy-filter (λ (r : Rule). r.id) q rules t.in_order;
  sized = all_those (λ (r : Rule). all_of (mask_fits size) r.conditions) q rules t.sized;
}

pub table_kept : (size : ℕ) (rules : List Rule) (id cookie : ℕ) (replace : Bool) → IsTable size rules → IsTable size (rules_left rules id cookie replace)
table_kept size rules id cookie true t = table_those size (λ r. not (is_named id cookie r)) rules t
table_kept size rules id cookie false t = t

fitting : (size : ℕ) (cs : List Condition) → some_of (λ c. not (mask_fits size c)) cs ≡ false → all_of (mask_fits size) cs ≡ true
fitting size [] h = refl
fitting size (c ∷ cs) h = let parts = or_parts (not (mask_fits size c)) (some_of (λ c. not (mask_fits size c)) cs) h in and_from (mask_fits size c) (all_of (mask_fits size) cs) (not-false (mask_fits size c) parts.0) (fitting size cs parts.1)

-- a rule that is taken has masks of the size alone
pub taken_fits : (table : Table) (id cookie : ℕ) (cs : List Condition) (replace : Bool) → result_of (rule_refusal table id cookie cs replace) ≡ Ok tt → all_of (mask_fits table.size) cs ≡ true
unfolding rule_refusal
taken_fits table id cookie cs replace e = go (some_of misnames cs) (some_of (λ c. not (mask_fits table.size c)) cs) refl refl
  where
    go : (s t : Bool) → some_of misnames cs ≡ s → some_of (λ c. not (mask_fits table.size c)) cs ≡ t → all_of (mask_fits table.size) cs ≡ true
    go true t es et = absurd (let h = rw es at e in cc)
    go false true es et = absurd (let h = rw (es, et) at e in cc)
    go false false es et = fitting table.size cs et
