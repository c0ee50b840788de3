-- Each table after some connections went, with all that they had.
use Rattle.std.proofs.Common.{◌≡◌, ℕ, Bool, true, false, cond, List, [], ◌∷◌, refl, sym, ap, ◌∙◌, arith}
use Rattle.std.specs.Prelude.{◌==◌, ◌||◌, ◌&&◌, not, filter, fold}
use Rattle.std.specs.List.{AllByRecursion}
use Rattle.std.proofs.lemmas.Bool.{not-true, or_parts}
use Rattle.kd_model.specs.Words.{but_those, contains, some_of}
use Rattle.kd_model.proofs.Lists.{all_follow, all_of_filter}
use Rattle.kd_endpoint.specs.Labels.{Labels}
use Rattle.kd_policy.specs.declared.owner.Owner.{Owner}
use Rattle.kd_policy.specs.declared.owner.Owner.TheVariants as owner
use Rattle.kd_policy.specs.Policy.{Held, Policy, after_drop, is_held_by, same_owner}
use Rattle.kd_registry.specs.declared.claim.Claim.{Claim}
use Rattle.kd_registry.specs.Changes as registry
use Rattle.kd_match.specs.declared.rule.Rule.{Rule}
use Rattle.kd_match.specs.Rules.{Table, without_conn}
use Rattle.kd_seal.specs.Book.{SealBook, counts, is_seal_of, seals_without_conn}
use Rattle.kd_seal.specs.declared.seals.Counter.{Counter}
use Rattle.kd_seal.specs.declared.seals.Seal.{Seal}
use Rattle.kd_replies.specs.Requests.{is_among}
use Rattle.kd_replies.specs.declared.request.Request.{Request}
use Rattle.kd_commands.specs.declared.conn.Conn.{Conn}
use Rattle.kd_commands.specs.Leaving.{concerns_one, policy_without, rules_without, seals_without}
use Rattle.kd_commands.proofs.Finds.{all_that_pass}
use Rattle.kd_commands.proofs.Gone.{filter_alike}
use Rattle.kd_commands.proofs.Members.{turned}
use Rattle.kd_settled.specs.Owners.{has_policy, is_asked, is_reached, lives, may_claim, owns_policy, sends}
use Rattle.kd_settled.specs.Settled.{AreClaims, AreReached, AreRequests, AreRules, AreSeals, IsOwnedPolicy}
use Rattle.kd_settled.proofs.Claims.{filtered_claims}
use Rattle.kd_settled.proofs.Living.{lives_still, staying}
use Rattle.kd_settled.proofs.Tables.{filtered_requests, filtered_rules, filtered_seals}

-- ---- one after the other, or all at once

kept_all : {X : Type 0} (xs : List X) → xs ≡ filter (λ x. true) xs
kept_all [] = refl
kept_all (x ∷ xs) = ap (λ ys. x ∷ ys) (kept_all xs)

twice : {X : Type 0} (p q : X → Bool) (xs : List X) → filter (λ x. not (q x)) (filter (λ x. not (p x)) xs) ≡ filter (λ x. not (p x || q x)) xs
twice p q [] = refl
twice {X} p q (x ∷ xs) = go (p x) (q x) refl (twice p q xs)
  where
    go : (a b : Bool) → q x ≡ b → filter (λ y. not (q y)) (filter (λ y. not (p y)) xs) ≡ filter (λ y. not (p y || q y)) xs
        → filter (λ y. not (q y)) (cond (not a) (x ∷ filter (λ y. not (p y)) xs) (filter (λ y. not (p y)) xs)) ≡ cond (not (a || b)) (x ∷ filter (λ y. not (p y || q y)) xs) (filter (λ y. not (p y || q y)) xs)
    go true b e ih = ih
    go false true e ih = ap (λ c. cond (not c) (x ∷ filter (λ y. not (q y)) (filter (λ y. not (p y)) xs)) (filter (λ y. not (q y)) (filter (λ y. not (p y)) xs))) e ∙ ih
    go false false e ih = ap (λ c. cond (not c) (x ∷ filter (λ y. not (q y)) (filter (λ y. not (p y)) xs)) (filter (λ y. not (q y)) (filter (λ y. not (p y)) xs))) e ∙ ap (λ ys. x ∷ ys) ih

-- some test of these holds of it
abbrev of_some : {X : Type 0} → (ℕ → X → Bool) → List ℕ → X → Bool
of_some test ids x = some_of (λ i. test i x) ids

at_once : {X : Type 0} (test : ℕ → X → Bool) (ids : List ℕ) (xs : List X) → fold (λ ys i. but_those (test i) ys) xs ids ≡ but_those (of_some test ids) xs
at_once test [] xs = kept_all xs
at_once test (i ∷ ids) xs = at_once test ids (but_those (test i) xs) ∙ twice (test i) (of_some test ids) xs

-- ---- whose owner stays

-- what is somebody's stays somebody's, where all goes that those who went had
stay_owned :
    {X : Type 0} (key : X → ℕ) (test : X → Conn → Bool) (gone : X → Bool) (ids : List ℕ) (cs : List Conn) (xs : List X)
    → ((x : X) → not (gone x) ≡ true → is_among ids (key x) ≡ false)
    → AllByRecursion (λ x. lives (test x) cs (key x) ≡ true) xs
    → AllByRecursion (λ x. lives (test x) (staying ids cs) (key x) ≡ true) (but_those gone xs)
stay_owned key test gone ids cs xs other a =
    all_that_pass (λ x. lives (test x) (staying ids cs) (key x) ≡ true) (λ x. not (gone x)) xs
    (all_follow (λ x. lives (test x) cs (key x) ≡ true) (λ x. not (gone x) ≡ true → lives (test x) (staying ids cs) (key x) ≡ true) xs
    (λ x h stays. lives_still (test x) ids cs (key x) h (other x stays)) a)

among_is : (ids : List ℕ) (n : ℕ) → contains n ids ≡ is_among ids n
among_is [] n = refl
among_is (i ∷ ids) n = ap (λ b. b || contains n ids) (turned n i) ∙ ap (λ b. (i == n) || b) (among_is ids n)

-- ---- endpoints

pub reached_fewer : (cs : List Conn) (ids : List ℕ) (labels : Labels) → AreReached cs labels → AreReached (staying ids cs) labels
reached_fewer cs ids labels a = record {
  places = a.places;
  reached = all_of_filter (λ (c : Conn). is_reached labels c ≡ true) (λ (c : Conn). not (is_among ids c.id)) cs a.reached;
}

-- ---- claims

pub claims_without : (cs : List Conn) (ids : List ℕ) (r : List Claim) → AreClaims cs r → AreClaims (staying ids cs) (registry.claims_without ids r)
claims_without cs ids r a =
    let fewer : AreClaims cs (registry.claims_without ids r) = filtered_claims cs r (λ (c : Claim). not (contains c.id ids)) a in
    record {
      owned = stay_owned (λ (x : Claim). x.id) may_claim (λ (c : Claim). contains c.id ids) ids cs r (λ x h. sym (among_is ids x.id) ∙ not-true (contains x.id ids) h) a.owned;
      order = fewer.order;
      named = fewer.named;
      few = fewer.few;
    }

-- ---- rules

some_turned : (ids : List ℕ) (n : ℕ) → some_of (λ i. n == i) ids ≡ is_among ids n
some_turned [] n = refl
some_turned (i ∷ ids) n = ap (λ b. b || some_of (λ i. n == i) ids) (turned n i) ∙ ap (λ b. (i == n) || b) (some_turned ids n)

rules_are : (ids : List ℕ) (t : Table) → (rules_without t ids).rules ≡ but_those (λ (r : Rule). is_among ids r.id) t.rules
rules_are ids t =
    folded ids t ∙ at_once (λ i (r : Rule). r.id == i) ids t.rules
    ∙ filter_alike (λ (r : Rule). not (of_some (λ i (x : Rule). x.id == i) ids r)) (λ (r : Rule). not (is_among ids r.id)) (λ r. ap not (some_turned ids r.id)) t.rules
  where
    folded : (is : List ℕ) (u : Table) → (rules_without u is).rules ≡ fold (λ ys i. but_those (λ (r : Rule). r.id == i) ys) u.rules is
    folded [] u = refl
    folded (i ∷ is) u = folded is (without_conn u i)

pub rules_stay : (cs : List Conn) (ids : List ℕ) (t : Table) → AreRules cs t.rules → AreRules (staying ids cs) (rules_without t ids).rules
rules_stay cs ids t a =
    let gone : Rule → Bool = λ (r : Rule). is_among ids r.id in
    let fewer : AreRules cs (but_those gone t.rules) = filtered_rules cs t.rules (λ (r : Rule). not (is_among ids r.id)) a in
    rw (rules_are ids t) (record {
      owned = stay_owned (λ (r : Rule). r.id) (λ r. sends) gone ids cs t.rules (λ r h. not-true (is_among ids r.id) h) a.owned;
      few = fewer.few;
    })

-- ---- seals

seals_are :
    (ids : List ℕ) (b : SealBook)
    → ((seals_without b ids).seals ≡ but_those (λ (s : Seal). is_among ids s.id) b.seals)
    × ((seals_without b ids).counters ≡ but_those (λ (k : Counter). is_among ids k.id) b.counters)
seals_are ids b = (
  folded ids b ∙ at_once is_seal_of ids b.seals
      ∙ filter_alike (λ (s : Seal). not (of_some is_seal_of ids s)) (λ (s : Seal). not (is_among ids s.id)) (λ s. ap not (some_turned ids s.id)) b.seals,
  counted ids b ∙ at_once counts ids b.counters
      ∙ filter_alike (λ (k : Counter). not (of_some counts ids k)) (λ (k : Counter). not (is_among ids k.id)) (λ k. ap not (some_turned ids k.id)) b.counters,
)
  where
    folded : (is : List ℕ) (u : SealBook) → (seals_without u is).seals ≡ fold (λ ys i. but_those (is_seal_of i) ys) u.seals is
    folded [] u = refl
    folded (i ∷ is) u = folded is (seals_without_conn u i)

    counted : (is : List ℕ) (u : SealBook) → (seals_without u is).counters ≡ fold (λ ys i. but_those (counts i) ys) u.counters is
    counted [] u = refl
    counted (i ∷ is) u = counted is (seals_without_conn u i)

pub seals_stay : (cs : List Conn) (ids : List ℕ) (b : SealBook) → AreSeals cs b → AreSeals (staying ids cs) (seals_without b ids)
seals_stay cs ids b a =
    let gone : Seal → Bool = λ (s : Seal). is_among ids s.id in
    let left : Counter → Bool = λ (k : Counter). is_among ids k.id in
    let fewer : AreSeals cs (record { seals = but_those gone b.seals; counters = but_those left b.counters }) =
    filtered_seals cs b (λ (s : Seal). not (is_among ids s.id)) (λ (k : Counter). not (is_among ids k.id)) a in
    record {
      owned = rw (seals_are ids b).0 (stay_owned (λ (s : Seal). s.id) (λ s. sends) gone ids cs b.seals (λ s h. not-true (is_among ids s.id) h) a.owned);
      few = rw (seals_are ids b).0 fewer.few;
      counted = rw (seals_are ids b).1 (stay_owned (λ (k : Counter). k.id) (λ k. sends) left ids cs b.counters (λ k h. not-true (is_among ids k.id) h) a.counted);
      own_counters = rw (seals_are ids b).1 fewer.own_counters;
    }

-- ---- requests

pub requests_stay : (cs : List Conn) (ids : List ℕ) (qs : List Request) → AreRequests cs qs → AreRequests (staying ids cs) (but_those (concerns_one ids) qs)
requests_stay cs ids qs a =
    let fewer : AreRequests cs (but_those (concerns_one ids) qs) = filtered_requests cs qs (λ q. not (concerns_one ids q)) a in
    let parts : (q : Request) → not (concerns_one ids q) ≡ true → (is_among ids q.asker ≡ false) × (is_among ids q.replier ≡ false) =
    λ q h. or_parts (is_among ids q.asker) (is_among ids q.replier) (not-true (concerns_one ids q) h) in
    record {
      askers = stay_owned (λ (q : Request). q.asker) (λ q. sends) (concerns_one ids) ids cs qs (λ q h. (parts q h).0) a.askers;
      repliers = stay_owned (λ (q : Request). q.replier) (λ q. is_asked) (concerns_one ids) ids cs qs (λ q h. (parts q h).1) a.repliers;
      order = fewer.order;
      few = fewer.few;
    }

-- ---- policy

policy_are : (ids : List ℕ) (p : Policy) → policy_without p ids ≡ but_those (of_some (λ i. is_held_by (owner.Conn i)) ids) p
unfolding after_drop
policy_are ids p = at_once (λ i. is_held_by (owner.Conn i)) ids p

pub policy_stays : (cs : List Conn) (labels : Labels) (ids : List ℕ) (p : Policy) → IsOwnedPolicy cs labels p → IsOwnedPolicy (staying ids cs) labels (policy_without p ids)
policy_stays cs labels ids p a = rw (policy_are ids p) (record {
  owned =
      all_that_pass (λ (h : Held). owns_policy (staying ids cs) labels h.owner ≡ true) (λ h. not (gone h)) p
      (all_follow (λ (h : Held). owns_policy cs labels h.owner ≡ true) (λ (h : Held). not (gone h) ≡ true → owns_policy (staying ids cs) labels h.owner ≡ true) p (λ h owns stays. on h.owner owns (not-true (gone h) stays)) a.owned);
  few = all_of_filter _ (λ h. not (gone h)) p a.few;
})
  where
    gone : Held → Bool
    gone = of_some (λ i. is_held_by (owner.Conn i)) ids

    on : (o : Owner) → owns_policy cs labels o ≡ true → some_of (λ i. same_owner o (owner.Conn i)) ids ≡ false → owns_policy (staying ids cs) labels o ≡ true
    on (owner.Conn id) owns stays = lives_still has_policy ids cs id owns (sym (some_turned ids id) ∙ stays)
    on (owner.Endpoint e) owns stays = owns
