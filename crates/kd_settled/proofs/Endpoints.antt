-- Endpoints that are there, after one was made or removed; and policy entries, after they were put
-- or dropped.
use Rattle.std.proofs.Common.{◌≡◌, ◌≢◌, ℕ, ◌+◌, ◌-◌, ◌<◌, ◌≤◌, suc, zero, Bool, true, false, cond, List, [], ◌∷◌, ◌++◌, length, get_or, set, Option, Some, None, refl, sym, ap, ◌∙◌, arith}
use Rattle.std.specs.Prelude.{◌==◌, ◌||◌, ◌&&◌, not, filter, is_some, is_none, nat_le, nat_lt, position, unwrap_or}
use Rattle.std.specs.List.{AllByRecursion, position_or_len}
use Rattle.std.proofs.lemmas.Bool.{and_from, and_parts, eqb-true, eq-eqb, leb-false, leb-true, le-leb, ltb-true, ltb-false, not-true, or_cases, or_left, or_right}
use Rattle.std.proofs.lemmas.Bool.Decides.{nat_tests}
use Rattle.std.proofs.lemmas.List.{get_or-set_other, get_or-set_same, length-set}
use Rattle.kd_types.specs.declared.refusal.Refusal.{Refusal}
use Rattle.kd_types.specs.declared.refusal.Refusal.TheVariants.{BadFlags, BadName, TooMany}
use Rattle.kd_model.specs.Words.{but_those, first_that_holds, in_order, put_in_order, some_of}
use Rattle.kd_model.proofs.Lists.{all_follow, all_of_append, all_of_filter}
use Rattle.kd_endpoint.specs.Labels.{Labels, after_add, after_remove, free_place, is_number, label_refusal}
use Rattle.kd_policy.specs.declared.entry.Entry.{Entry}
use Rattle.kd_policy.specs.declared.owner.Owner.{Owner}
use Rattle.kd_policy.specs.declared.owner.Owner.TheVariants as owner
use Rattle.kd_policy.specs.Order.{by_pattern, precedes}
use Rattle.kd_policy.specs.Policy.{Held, Policy, after_drop, after_put, has_star, is_endpoint, is_held_by, is_ill_named, place_of, put_refusal, same_owner, with_held}
use Rattle.kd_replies.specs.Requests.{is_among}
use Rattle.kd_commands.specs.declared.conn.Conn.{Conn}
use Rattle.kd_commands.specs.Leaving.{ids_of}
use Rattle.kd_commands.proofs.Finds.{all_both, all_that_pass}
use Rattle.kd_settled.specs.Owners.{has_policy, is_reached, is_there, lives, owns_policy}
use Rattle.kd_settled.specs.Settled.{AreReached, IsOwnedPolicy}
use Rattle.kd_settled.proofs.Counts.{length_put}
use Rattle.kd_settled.proofs.Living.{staying}

-- ---- endpoints

some_set : {X : Type 0} (xs : List (Option X)) (i j : ℕ) (x : X) → is_some (get_or xs j None) ≡ true → is_some (get_or (set xs i (Some x)) j None) ≡ true
some_set [] i j x h = h
some_set (y ∷ ys) zero zero x h = refl
some_set (y ∷ ys) zero (suc j) x h = h
some_set (y ∷ ys) (suc i) zero x h = h
some_set (y ∷ ys) (suc i) (suc j) x h = some_set ys i j x h

pub there_on : (labels : Labels) (label : List ℕ) (e : ℕ) → is_there labels e ≡ true → is_there (after_add labels label) e ≡ true
unfolding after_add
there_on labels label e h = go (label_refusal labels label)
  where
    both : (is_number e ≡ true) × (is_some (get_or labels (e - 1) None) ≡ true)
    both = and_parts (is_number e) (is_some (get_or labels (e - 1) None)) h

    place : ℕ
    place = unwrap_or (free_place labels) 0

    go : (o : Option Refusal) → is_there (elim o [ Some refusal ↦ labels | None ↦ set labels place (Some label) ]) e ≡ true
    go (Some r) = h
    go None = and_from (is_number e) (is_some (get_or (set labels place (Some label)) (e - 1) None)) both.0 (some_set labels place (e - 1) label both.1)

pub places_on : (labels : Labels) (label : List ℕ) → length (after_add labels label) ≡ length labels
unfolding after_add
places_on labels label = go (label_refusal labels label)
  where
    go : (o : Option Refusal) → length {A = Option (List ℕ)} (elim o [ Some refusal ↦ labels | None ↦ set labels (unwrap_or (free_place labels) 0) (Some label) ]) ≡ length labels
    go (Some r) = refl
    go None = length-set labels (unwrap_or (free_place labels) 0) (Some label)

-- another one than was removed
pub there_still : (labels : Labels) (gone e : ℕ) → (e == gone) ≡ false → is_there labels e ≡ true → is_there (after_remove labels gone) e ≡ true
unfolding after_remove
there_still labels gone e apart h = go (is_number gone) refl
  where
    both : (is_number e ≡ true) × (is_some (get_or labels (e - 1) None) ≡ true)
    both = and_parts (is_number e) (is_some (get_or labels (e - 1) None)) h

    low : (nat_le 1 e ≡ true) × (nat_le e 8 ≡ true)
    low = and_parts (nat_le 1 e) (nat_le e 8) both.0

    differs : is_number gone ≡ true → (e - 1) ≢ (gone - 1)
    differs is same =
        let p = and_parts (nat_le 1 gone) (nat_le gone 8) is in
        let one : 1 ≤ gone = leb-true 1 gone p.0 in
        let some : 1 ≤ e = leb-true 1 e low.0 in
        let equal : e ≡ gone = omega (arith, same, one, some) in
        absurd (let t : (e == gone) ≡ true = eq-eqb e gone equal in cc)

    go : (b : Bool) → is_number gone ≡ b → is_there (cond b (set labels (gone - 1) None) labels) e ≡ true
    go true is =
        and_from (is_number e) (is_some (get_or (set labels (gone - 1) None) (e - 1) None)) both.0
        (ap is_some (get_or-set_other labels (gone - 1) (e - 1) None None (differs is)) ∙ both.1)
    go false is = h

pub places_still : (labels : Labels) (gone : ℕ) → length (after_remove labels gone) ≡ length labels
unfolding after_remove
places_still labels gone = go (is_number gone)
  where
    go : (b : Bool) → length {A = Option (List ℕ)} (cond b (set labels (gone - 1) None) labels) ≡ length labels
    go true = length-set labels (gone - 1) None
    go false = refl

none_set : {X : Type 0} (xs : List (Option X)) (i : ℕ) → is_some (get_or (set xs i None) i None) ≡ false
none_set [] i = refl
none_set (x ∷ xs) zero = refl
none_set (x ∷ xs) (suc i) = none_set xs i

-- and that one isn't there any more
pub gone_then : (labels : Labels) (e : ℕ) → is_there labels e ≡ true → is_there (after_remove labels e) e ≡ false
unfolding after_remove
gone_then labels e h = rw (and_parts (is_number e) (is_some (get_or labels (e - 1) None)) h).0 (none_set labels (e - 1))

-- ---- whoever came by them

pub reached_on : (cs : List Conn) (labels : Labels) (label : List ℕ) → AreReached cs labels → AreReached cs (after_add labels label)
reached_on cs labels label a = record {
  places = places_on labels label ∙ a.places;
  reached = all_follow (λ (c : Conn). is_reached labels c ≡ true) (λ (c : Conn). is_reached (after_add labels label) c ≡ true) cs more a.reached;
}
  where
    more : (c : Conn) → is_reached labels c ≡ true → is_reached (after_add labels label) c ≡ true
    more c h = go (c.endpoint == 0) h
      where
        go : (b : Bool) → (b || is_there labels c.endpoint) ≡ true → (b || is_there (after_add labels label) c.endpoint) ≡ true
        go true e = refl
        go false e = there_on labels label c.endpoint e

-- each that passes is among those that pass
among_passing : (p : Conn → Bool) (cs : List Conn) → AllByRecursion (λ (c : Conn). p c ≡ true → is_among (ids_of (filter p cs)) c.id ≡ true) cs
among_passing p [] = tt
among_passing p (x ∷ xs) = (first, all_follow (λ (c : Conn). p c ≡ true → is_among (ids_of (filter p xs)) c.id ≡ true) (λ (c : Conn). p c ≡ true → is_among (ids_of (filter p (x ∷ xs))) c.id ≡ true) xs more (among_passing p xs))
  where
    first : p x ≡ true → is_among (ids_of (filter p (x ∷ xs))) x.id ≡ true
    first h = rw h (or_left (x.id == x.id) (is_among (ids_of (filter p xs)) x.id) (eq-eqb x.id x.id refl))

    more : (c : Conn) → (p c ≡ true → is_among (ids_of (filter p xs)) c.id ≡ true) → p c ≡ true → is_among (ids_of (filter p (x ∷ xs))) c.id ≡ true
    more c h pass = go (p x)
      where
        go : (b : Bool) → is_among (ids_of (cond b (x ∷ filter p xs) (filter p xs))) c.id ≡ true
        go true = or_right (x.id == c.id) (is_among (ids_of (filter p xs)) c.id) (h pass)
        go false = h pass

-- those that stay, where all on an endpoint go
pub reached_still : (cs : List Conn) (labels : Labels) (e : ℕ) → AreReached cs labels → AreReached (staying (ids_of (filter (λ (c : Conn). c.endpoint == e) cs)) cs) (after_remove labels e)
reached_still cs labels e a = record {
  places = places_still labels e ∙ a.places;
  reached =
      all_that_pass (λ (c : Conn). is_reached (after_remove labels e) c ≡ true) (λ (c : Conn). not (is_among ids c.id)) cs
      (all_follow P (λ (c : Conn). not (is_among ids c.id) ≡ true → is_reached (after_remove labels e) c ≡ true) cs stays
      (all_both (λ (c : Conn). is_reached labels c ≡ true) (λ (c : Conn). (c.endpoint == e) ≡ true → is_among ids c.id ≡ true) cs a.reached (among_passing (λ (c : Conn). c.endpoint == e) cs)));
}
  where
    ids : List ℕ
    ids = ids_of (filter (λ (c : Conn). c.endpoint == e) cs)

    P : Conn → Type 0
    P c = (is_reached labels c ≡ true) × ((c.endpoint == e) ≡ true → is_among ids c.id ≡ true)

    apart : (c : Conn) → ((c.endpoint == e) ≡ true → is_among ids c.id ≡ true) → is_among ids c.id ≡ false → (b : Bool) → (c.endpoint == e) ≡ b → b ≡ false
    apart c h no_more false is = refl
    apart c h no_more true is = absurd (let t : is_among ids c.id ≡ true = h is in cc)

    stays : (c : Conn) → P c → not (is_among ids c.id) ≡ true → is_reached (after_remove labels e) c ≡ true
    stays c h stay = go (c.endpoint == 0) h.0
      where
        go : (b : Bool) → (b || is_there labels c.endpoint) ≡ true → (b || is_there (after_remove labels e) c.endpoint) ≡ true
        go true is = refl
        go false is = there_still labels e c.endpoint (apart c h.1 (not-true (is_among ids c.id) stay) (c.endpoint == e) refl) is

-- ---- policy

pub length_in_order : {X : Type 0} (below : X → X → Bool) (xs : List X) → length (in_order below xs) ≡ length xs
length_in_order below [] = refl
length_in_order below (x ∷ xs) = omega (arith, length_put below x (in_order below xs), length_in_order below xs)

all_set : {X : Type 0} (P : X → Type 0) (xs : List X) (i : ℕ) (x : X) → P x → AllByRecursion P xs → AllByRecursion P (set xs i x)
all_set P [] i x h a = tt
all_set P (y ∷ ys) zero x h a = (h, a.1)
all_set P (y ∷ ys) (suc i) x h a = (a.0, all_set P ys i x h a.1)

all_held : (P : Held → Type 0) (p : Policy) (h : Held) → P h → AllByRecursion P p → AllByRecursion P (with_held p h)
all_held P p h x a = go (place_of p h.owner)
  where
    go : (o : Option ℕ) → AllByRecursion P (elim o [ Some i ↦ set p i h | None ↦ p ++ h ∷ [] ])
    go (Some i) = all_set P p i h x a
    go None = all_of_append P p (h ∷ []) a (x, tt)

few_put : (o : Owner) (es : List Entry) → put_refusal o es ≡ None → length es ≤ 256
unfolding put_refusal
few_put o es e = ltb-false 256 (length es) (go (some_of is_ill_named es) (is_endpoint o && some_of has_star es) (nat_lt 256 (length es)) e)
  where
    go : (a b c : Bool) → first_that_holds ((a, BadName) ∷ (b, BadFlags) ∷ (c, TooMany 256) ∷ []) ≡ None → c ≡ false
    go true b c h = absurd cc
    go false true c h = absurd cc
    go false false true h = absurd cc
    go false false false h = refl

-- entries are put, of an owner that is there
pub put_owned :
    (cs : List Conn) (labels : Labels) (p : Policy) (o : Owner) (es : List Entry) → IsOwnedPolicy cs labels p → owns_policy cs labels o ≡ true
    → IsOwnedPolicy cs labels (after_put p o es)
unfolding after_put
put_owned cs labels p o es a owns = go (put_refusal o es) refl
  where
    h : Held
    h = record { owner = o; entries = by_pattern es }

    go : (r : Option Refusal) → put_refusal o es ≡ r → IsOwnedPolicy cs labels (elim r [ Some refusal ↦ p | None ↦ with_held p h ])
    go (Some r) e = a
    go None e = record {
      owned = all_held (λ (x : Held). owns_policy cs labels x.owner ≡ true) p h owns a.owned;
      few = all_held (λ (x : Held). length x.entries ≤ 256) p h (omega (arith, few_put o es e, length_in_order precedes es)) a.few;
    }

-- owners that are there stay so
pub follow_owned :
    (cs ds : List Conn) (labels others : Labels) (p : Policy) → ((o : Owner) → owns_policy cs labels o ≡ true → owns_policy ds others o ≡ true)
    → IsOwnedPolicy cs labels p → IsOwnedPolicy ds others p
follow_owned cs ds labels others p more a = record {
  owned = all_follow (λ (h : Held). owns_policy cs labels h.owner ≡ true) (λ (h : Held). owns_policy ds others h.owner ≡ true) p (λ h owns. more h.owner owns) a.owned;
  few = a.few;
}

-- an endpoint goes with its entries
pub drop_owned :
    (cs : List Conn) (labels : Labels) (e : ℕ) (p : Policy) → IsOwnedPolicy cs labels p
    → IsOwnedPolicy cs (after_remove labels e) (after_drop p (owner.Endpoint e))
unfolding after_drop
drop_owned cs labels e p a = record {
  owned =
      all_that_pass (λ (h : Held). owns_policy cs (after_remove labels e) h.owner ≡ true) (λ h. not (is_held_by (owner.Endpoint e) h)) p
      (all_follow (λ (h : Held). owns_policy cs labels h.owner ≡ true) (λ (h : Held). not (is_held_by (owner.Endpoint e) h) ≡ true → owns_policy cs (after_remove labels e) h.owner ≡ true) p
      (λ h owns stays. on h.owner owns (not-true (is_held_by (owner.Endpoint e) h) stays)) a.owned);
  few = all_of_filter _ (λ h. not (is_held_by (owner.Endpoint e) h)) p a.few;
}
  where
    on : (o : Owner) → owns_policy cs labels o ≡ true → same_owner o (owner.Endpoint e) ≡ false → owns_policy cs (after_remove labels e) o ≡ true
    on (owner.Conn id) owns stays = owns
    on (owner.Endpoint n) owns stays = there_still labels e n stays owns
