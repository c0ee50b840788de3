-- The desk after a HELLO, or with an endpoint more, is settled.
use Rattle.std.proofs.Common.{◌≡◌, ℕ, ◌+◌, ◌-◌, ◌<◌, ◌≤◌, suc, Bool, true, false, cond, List, [], ◌∷◌, ◌++◌, length, get_or, set, Option, Some, None, Ok, refl, sym, ap, ◌∙◌, arith}
use Rattle.std.specs.Prelude.{◌==◌, ◌||◌, ◌&&◌, not, is_some, is_none, nat_le, nat_lt, option_map, position, unwrap_or}
use Rattle.std.specs.List.{AllByRecursion, position_or_len}
use Rattle.std.proofs.lemmas.Bool.{and_from, and_parts, and_right, eqb-true, leb-false, le-leb, ltb-true, not-false, or_parts, or_right}
use Rattle.std.proofs.lemmas.Bool.Decides.{nat_tests}
use Rattle.std.proofs.lemmas.List.{get_or-set_same}
use Rattle.kd_types.specs.declared.creds.Creds.{Creds}
use Rattle.kd_types.specs.declared.refusal.Refusal.{Refusal}
use Rattle.kd_types.specs.declared.refusal.Refusal.TheVariants.{BadName, EndpointExists, TooMany}
use Rattle.kd_model.specs.Words.{first_that_holds, put_in_order, same, some_of}
use Rattle.kd_model.proofs.Lists.{all_follow, all_of_put, found_passes}
use Rattle.kd_name.specs.Names.{is_label, is_name}
use Rattle.kd_wire.specs.declared.item.WireItem.{WireItem}
use Rattle.kd_endpoint.specs.Labels.{Labels, after_add, default_label, free_place, is_called, is_number, label_number, label_refusal}
use Rattle.kd_policy.specs.declared.owner.Owner.{Owner}
use Rattle.kd_policy.specs.declared.owner.Owner.TheVariants as owner
use Rattle.kd_policy.specs.Policy.{Policy, after_put, is_ill_named}
use Rattle.kd_policy.proofs.Places.{first_at}
use Rattle.kd_registry.specs.declared.claim.Claim.{Claim}
use Rattle.kd_registry.specs.declared.claim.Stake.TheVariants.{Activator}
use Rattle.kd_registry.specs.Claims.{is_placeholder, ranks}
use Rattle.kd_match.specs.declared.rule.Rule.{Rule}
use Rattle.kd_seal.specs.Book.{SealBook}
use Rattle.kd_seal.specs.declared.seals.Counter.{Counter}
use Rattle.kd_seal.specs.declared.seals.Seal.{Seal}
use Rattle.kd_replies.specs.declared.request.Request.{Request}
use Rattle.kd_commands.specs.declared.conn.Conn.{Conn}
use Rattle.kd_commands.specs.State.{Desk, is_activator, is_holder, sits_before}
use Rattle.kd_commands.specs.Items.{activator_name, endpoint_in, entries_in}
use Rattle.kd_commands.specs.Plans.{Plan, unless}
use Rattle.kd_commands.specs.Hello.{Asked, endpoint_of, has_activator, has_bad_text, hello, hello_plan, hello_refusals, holder_entries, newcomer, policy_with, registry_with, with_newcomer}
use Rattle.kd_commands.specs.Endpoints.{endpoint_make, endpoint_refusals, label_in, next_endpoint, with_endpoint}
use Rattle.kd_commands.proofs.Staying.{of_unless}
use Rattle.kd_settled.specs.Owners.{has_policy, is_asked, is_reached, is_there, lives, may_claim, owns_policy, sends}
use Rattle.kd_settled.specs.Settled.{AreClaims, AreReached, AreRequests, AreRules, AreSeals, IsOwnedPolicy, IsSettled}
use Rattle.kd_settled.proofs.Claims.{activated_claims}
use Rattle.kd_settled.proofs.Endpoints.{follow_owned, put_owned, reached_on, there_on}
use Rattle.kd_settled.proofs.Living.{lives_holds, lives_on, lives_then}
use Rattle.kd_settled.proofs.Senders.{none_hold}
use Rattle.kd_settled.proofs.Settling.{HasTables, Then, tables}

-- ---- places of endpoints

position_within : {X : Type 0} (p : X → Bool) (xs : List X) (i : ℕ) → position p xs ≡ Some i → i < length xs
position_within p xs i e = go (nat_lt (position_or_len p xs) (length xs)) refl e
  where
    go : (b : Bool) → nat_lt (position_or_len p xs) (length xs) ≡ b → cond b (Some (position_or_len p xs)) None ≡ Some i → i < length xs
    go true is h = let one : position_or_len p xs ≡ i = cc in omega (arith, ltb-true (position_or_len p xs) (length xs) is, one)
    go false is h = absurd cc

number_of_place : (i : ℕ) → i < 8 → is_number (i + 1) ≡ true
number_of_place i lt = and_from (nat_le 1 (i + 1)) (nat_le (i + 1) 8) (le-leb 1 (i + 1) (omega arith)) (le-leb (i + 1) 8 (omega (arith, lt)))

called_is_some : (label : List ℕ) (o : Option (List ℕ)) → is_called label o ≡ true → is_some o ≡ true
called_is_some label None h = h
called_is_some label (Some own) h = refl

-- a number that a label has is that of an endpoint
label_there : (labels : Labels) (label : List ℕ) (e : ℕ) → length labels ≡ 8 → label_number labels label ≡ Some e → (e == 0 || is_there labels e) ≡ true
unfolding label_number
label_there labels label e places h = go (same label default_label) h
  where
    placed : (o : Option ℕ) → position (is_called label) labels ≡ o → option_map (λ place. place + 1) o ≡ Some e → (e == 0 || is_there labels e) ≡ true
    placed None is h = absurd cc
    placed (Some i) is h =
        let one : i + 1 ≡ e = cc in
        let within : i < 8 = omega (arith, position_within (is_called label) labels i is, places) in
        let back : i + 1 - 1 ≡ i = omega arith in
        let found = found_passes (is_called label) labels (get_or labels i None) (first_at (is_called label) labels i None is) in
        rw (sym one) (or_right (i + 1 == 0) (is_there labels (i + 1)) (and_from (is_number (i + 1)) (is_some (get_or labels (i + 1 - 1) None)) (number_of_place i within) (rw back (called_is_some label (get_or labels i None) found))))

    go : (b : Bool) → cond b (Some 0) (option_map (λ place. place + 1) (position (is_called label) labels)) ≡ Some e → (e == 0 || is_there labels e) ≡ true
    go true h = let one : 0 ≡ e = cc in rw (sym one) refl
    go false h = placed (position (is_called label) labels) refl h

endpoint_there : (d : Desk) (o : Option (List ℕ)) → length d.endpoints ≡ 8 → is_none (endpoint_of d o) ≡ false
    → (unwrap_or (endpoint_of d o) 0 == 0 || is_there d.endpoints (unwrap_or (endpoint_of d o) 0)) ≡ true
endpoint_there d None places e = refl
endpoint_there d (Some label) places e = go (label_number d.endpoints label) refl e
  where
    go : (o : Option ℕ) → label_number d.endpoints label ≡ o → is_none o ≡ false → (unwrap_or o 0 == 0 || is_there d.endpoints (unwrap_or o 0)) ≡ true
    go None is h = absurd cc
    go (Some n) is h = label_there d.endpoints label n places is

-- ---- one more

-- whatever was somebody's is so still
owned_on :
    {X : Type 0} (key : X → ℕ) (test : X → Conn → Bool) (c : Conn) (cs : List Conn) (xs : List X)
    → AllByRecursion (λ x. lives (test x) cs (key x) ≡ true) xs → AllByRecursion (λ x. lives (test x) (put_in_order sits_before c cs) (key x) ≡ true) xs
owned_on key test c cs xs a =
    all_follow (λ x. lives (test x) cs (key x) ≡ true) (λ x. lives (test x) (put_in_order sits_before c cs) (key x) ≡ true) xs (λ x h. lives_on (test x) c cs (key x) h) a

abbrev with : Conn → List Conn → List Conn
with c cs = put_in_order sits_before c cs

claims_on : (c : Conn) (cs : List Conn) (r : List Claim) → AreClaims cs r → AreClaims (with c cs) r
claims_on c cs r a = record { owned = owned_on (λ (x : Claim). x.id) may_claim c cs r a.owned; order = a.order; named = a.named; few = a.few }

rules_on : (c : Conn) (cs : List Conn) (rs : List Rule) → AreRules cs rs → AreRules (with c cs) rs
rules_on c cs rs a = record { owned = owned_on (λ (r : Rule). r.id) (λ r. sends) c cs rs a.owned; few = a.few }

seals_on : (c : Conn) (cs : List Conn) (b : SealBook) → AreSeals cs b → AreSeals (with c cs) b
seals_on c cs b a = record {
  owned = owned_on (λ (s : Seal). s.id) (λ s. sends) c cs b.seals a.owned;
  few = a.few;
  counted = owned_on (λ (k : Counter). k.id) (λ k. sends) c cs b.counters a.counted;
  own_counters = a.own_counters;
}

requests_on : (c : Conn) (cs : List Conn) (qs : List Request) → AreRequests cs qs → AreRequests (with c cs) qs
requests_on c cs qs a = record {
  askers = owned_on (λ (q : Request). q.asker) (λ q. sends) c cs qs a.askers;
  repliers = owned_on (λ (q : Request). q.replier) (λ q. is_asked) c cs qs a.repliers;
  order = a.order;
  few = a.few;
}

policy_on : (c : Conn) (cs : List Conn) (labels : Labels) (p : Policy) → IsOwnedPolicy cs labels p → IsOwnedPolicy (with c cs) labels p
policy_on c cs labels p a = follow_owned cs (with c cs) labels labels p on a
  where
    on : (o : Owner) → owns_policy cs labels o ≡ true → owns_policy (with c cs) labels o ≡ true
    on (owner.Conn id) h = lives_on has_policy c cs id h
    on (owner.Endpoint e) h = h

-- nobody has claims under the next id
no_claims : (d : Desk) (id : ℕ) → IsSettled d → id ≡ d.next_id → AllByRecursion (λ (y : Claim). (y.id == id) ≡ false) d.registry
no_claims d id s e = all_follow (λ (y : Claim). lives (may_claim y) d.conns y.id ≡ true) (λ (y : Claim). (y.id == id) ≡ false) d.registry old s.claims.owned
  where
    apart : (a b n : ℕ) → a < n → b ≡ n → (a == b) ≡ false
    apart a b n h same = grind (arith, nat_tests)

    old : (y : Claim) → lives (may_claim y) d.conns y.id ≡ true → (y.id == id) ≡ false
    old y h = apart y.id id d.next_id (lives_holds (λ n. n < d.next_id) (may_claim y) d.conns y.id s.seated.old_ids h) e

-- ---- a HELLO

came_settled :
    (d : Desk) (c : Conn) (a : Asked) → IsSettled d → c.id ≡ d.next_id → is_reached d.endpoints c ≡ true
    → has_bad_text c a ≡ false → (is_activator c.kind && has_activator d (activator_name a.items)) ≡ false
    → HasTables (with_newcomer d c a)
unfolding with_newcomer
came_settled d c a s new there text free = record {
  reached = record { places = s.reached.places; reached = all_of_put (λ (x : Conn). is_reached d.endpoints x ≡ true) sits_before c d.conns there s.reached.reached };
  claims = claimed (is_activator c.kind) refl;
  rules = rules_on c d.conns d.rules.rules s.rules;
  seals = seals_on c d.conns d.seals s.seals;
  requests = requests_on c d.conns d.requests s.requests;
  policy = held (is_holder c.kind) refl;
}
  where
    n : List ℕ
    n = activator_name a.items

    x : Claim
    x = record { name = n; id = c.id; stake = Activator }

    on : AreClaims (with c d.conns) d.registry
    on = claims_on c d.conns d.registry s.claims

    held_back : {b t : Bool} → b ≡ true → (b && t) ≡ false → t ≡ false
    held_back {b} {t} is h = ap (λ k. k && t) (sym is) ∙ h

    claimed : (b : Bool) → is_activator c.kind ≡ b → AreClaims (with c d.conns) (registry_with d c a)
    claimed true is =
        let named : is_name n ≡ true = not-false (is_name n) (held_back is (or_parts (is_activator c.kind && not (is_name n)) (some_of is_ill_named (holder_entries c a)) text).0) in
        rw (is, registry_with) (activated_claims (with c d.conns) d.registry c.id n on (lives_then (may_claim x) c d.conns is) named (held_back is free) (no_claims d c.id s new))
    claimed false is = rw (is, registry_with) on

    still : IsOwnedPolicy (with c d.conns) d.endpoints d.policy
    still = policy_on c d.conns d.endpoints d.policy s.policy

    held : (b : Bool) → is_holder c.kind ≡ b → IsOwnedPolicy (with c d.conns) d.endpoints (policy_with d c a)
    held true is = rw (is, policy_with) (put_owned (with c d.conns) d.endpoints d.policy (owner.Conn c.id) (entries_in a.items) still (lives_then has_policy c d.conns is))
    held false is = rw (is, policy_with) still

pub hello_settled : (d : Desk) (creds : Creds) (a : Asked) (p : Plan) → IsSettled d → hello d creds a ≡ Ok p → Then p
unfolding hello newcomer hello_refusals
hello_settled d creds a p s e =
    let c : Conn = newcomer d creds a in
    let none : AllByRecursion (λ (t : Bool × Refusal). t.0 ≡ false) (hello_refusals d c a) = none_hold (hello_refusals d c a) (hello_plan d c a) p e in
    of_unless Then (hello_refusals d c a) (hello_plan d c a) p e
    (came_settled d c a s refl (endpoint_there d (endpoint_in a.items) s.reached.places none.0) none.1.0 none.1.1.1.0)

-- ---- an endpoint more

added : (labels : Labels) (label : List ℕ) → is_label label ≡ true → is_some (label_number labels label) ≡ false → is_none (free_place labels) ≡ false
    → label_refusal labels label ≡ None
unfolding label_refusal
added labels label well new free = go (is_label label) (is_some (label_number labels label)) (is_none (free_place labels)) well new free
  where
    go : (a b c : Bool) → a ≡ true → b ≡ false → c ≡ false → first_that_holds ((not a, BadName) ∷ (b, EndpointExists) ∷ (c, TooMany 8) ∷ []) ≡ None
    go a b c p q r = rw (p, q, r) refl

-- the new one is there
pub there_made :
    (labels : Labels) (label : List ℕ) → length labels ≡ 8 → is_label label ≡ true → is_some (label_number labels label) ≡ false
    → is_none (free_place labels) ≡ false → is_there (after_add labels label) (unwrap_or (free_place labels) 0 + 1) ≡ true
unfolding after_add free_place
there_made labels label places well new free =
    ap (λ r. is_there (book r) (unwrap_or (free_place labels) 0 + 1)) (added labels label well new free) ∙ go (free_place labels) refl free
  where
    book : Option Refusal → Labels
    book r = elim r [ Some refusal ↦ labels | None ↦ set labels (unwrap_or (free_place labels) 0) (Some label) ]

    go : (o : Option ℕ) → free_place labels ≡ o → is_none o ≡ false → is_there (set labels (unwrap_or o 0) (Some label)) (unwrap_or o 0 + 1) ≡ true
    go None is h = absurd cc
    go (Some i) is h =
        let within : i < length labels = position_within is_none labels i is in
        let back : i + 1 - 1 ≡ i = omega arith in
        and_from (is_number (i + 1)) (is_some (get_or (set labels i (Some label)) (i + 1 - 1) None)) (number_of_place i (omega (arith, within, places)))
        (rw back (ap is_some (get_or-set_same labels i (Some label) None within)))

none_isnt : (o : Option (List ℕ)) → is_none o ≡ true → is_some o ≡ false
none_isnt None h = refl
none_isnt (Some label) h = absurd cc

-- and wasn't there before
pub free_isnt_there : (labels : Labels) → is_none (free_place labels) ≡ false → is_there labels (unwrap_or (free_place labels) 0 + 1) ≡ false
unfolding free_place
free_isnt_there labels free = go (free_place labels) refl free
  where
    go : (o : Option ℕ) → free_place labels ≡ o → is_none o ≡ false → is_there labels (unwrap_or o 0 + 1) ≡ false
    go None is h = absurd cc
    go (Some i) is h =
        let back : i + 1 - 1 ≡ i = omega arith in
        let found = found_passes is_none labels (get_or labels i None) (first_at is_none labels i None is) in
        and_right (is_number (i + 1)) (is_some (get_or labels (i + 1 - 1) None)) (rw back (none_isnt (get_or labels i None) found))

-- its refusals leave a label and a place
pub made_there :
    (d : Desk) (creds : Creds) (is : List WireItem) → length d.endpoints ≡ 8 → AllByRecursion (λ (t : Bool × Refusal). t.0 ≡ false) (endpoint_refusals d creds is)
    → is_there (after_add d.endpoints (label_in is)) (next_endpoint d) ≡ true
unfolding endpoint_refusals
made_there d creds is places none =
    there_made d.endpoints (label_in is) places
    (not-false (is_label (label_in is)) (or_parts (not (is_label (label_in is))) (some_of is_ill_named (entries_in is)) none.0).0) none.1.1.1.0 none.1.1.1.1.1.0

pub made_new :
    (d : Desk) (creds : Creds) (is : List WireItem) → AllByRecursion (λ (t : Bool × Refusal). t.0 ≡ false) (endpoint_refusals d creds is)
    → is_there d.endpoints (next_endpoint d) ≡ false
unfolding endpoint_refusals
made_new d creds is none = free_isnt_there d.endpoints none.1.1.1.1.1.0

pub made_settled : (d : Desk) (creds : Creds) (is : List WireItem) (p : Plan) → IsSettled d → endpoint_make d creds is ≡ Ok p → Then p
unfolding endpoint_make with_endpoint
made_settled d creds is p s e =
    of_unless Then (endpoint_refusals d creds is) _ p e (record {
      reached = reached_on d.conns d.endpoints (label_in is) s.reached;
      claims = s.claims;
      rules = s.rules;
      seals = s.seals;
      requests = s.requests;
      policy = put_owned d.conns others d.policy (owner.Endpoint (next_endpoint d)) (entries_in is)
          (follow_owned d.conns d.conns d.endpoints others d.policy on s.policy) (made_there d creds is s.reached.places (none_hold (endpoint_refusals d creds is) _ p e));
    })
  where
    others : Labels
    others = after_add d.endpoints (label_in is)

    on : (o : Owner) → owns_policy d.conns d.endpoints o ≡ true → owns_policy d.conns others o ≡ true
    on (owner.Conn id) h = h
    on (owner.Endpoint n) h = there_on d.endpoints (label_in is) n h
