-- The rules, seals and requests after some go, and after one more comes.
use Rattle.std.proofs.Common.{◌≡◌, ℕ, ◌+◌, ◌<◌, ◌≤◌, Bool, true, false, cond, List, [], ◌∷◌, ◌++◌, length, map, refl, sym, ap, ◌∙◌, arith}
use Rattle.std.specs.Prelude.{◌==◌, not, filter}
use Rattle.std.specs.List.{AllByRecursion, IsDistinct}
use Rattle.std.proofs.lemmas.Bool.{eq-eqb, eqb-true}
use Rattle.kd_model.specs.Words.{but_those, put_in_order, some_of, those}
use Rattle.kd_model.proofs.Lists.{all_follow, all_of_append, all_of_filter, all_of_put, all_over, distinct_of_filter}
use Rattle.kd_match.specs.declared.rule.Rule.{Rule}
use Rattle.kd_match.specs.Rules.{comes_before, rules_of}
use Rattle.kd_seal.specs.Book.{SealBook, counts, is_seal_of, next_number, with_seal}
use Rattle.kd_seal.specs.declared.seals.Counter.{Counter}
use Rattle.kd_seal.specs.declared.seals.Seal.{Seal}
use Rattle.kd_replies.specs.Order.{request_stands_before}
use Rattle.kd_replies.specs.Renaming.{renamed}
use Rattle.kd_replies.specs.Requests.{expecting, is_asked_by, request_waits}
use Rattle.kd_replies.specs.declared.request.Request.{Request}
use Rattle.kd_replies.proofs.Ordered.{rises_filter, rises_map, rises_with}
use Rattle.kd_replies.proofs.Orders.{by_place, renamed_stands, tied}
use Rattle.kd_commands.specs.declared.conn.Conn.{Conn}
use Rattle.kd_settled.specs.Owners.{is_asked, lives, sends}
use Rattle.kd_settled.specs.Settled.{AreRequests, AreRules, AreSeals}
use Rattle.kd_settled.proofs.Counts.{count, count_append, count_cons, count_fewer, count_map, count_put}

-- ---- rules

pub filtered_rules : (cs : List Conn) (rules : List Rule) (p : Rule → Bool) → AreRules cs rules → AreRules cs (filter p rules)
filtered_rules cs rules p a = record {
  owned = all_of_filter (λ (r : Rule). lives sends cs r.id ≡ true) p rules a.owned;
  few = λ id. omega (arith, a.few id, count_fewer (λ (r : Rule). r.id == id) p rules);
}

pub one_rule :
    (cs : List Conn) (rules : List Rule) (x : Rule) → AreRules cs rules → lives sends cs x.id ≡ true → length (rules_of x.id rules) < 64
    → AreRules cs (put_in_order comes_before x rules)
one_rule cs rules x a live room = record {
  owned = all_of_put (λ (r : Rule). lives sends cs r.id ≡ true) comes_before x rules live a.owned;
  few = λ id. one id (x.id == id) refl;
}
  where
    q : ℕ → Rule → Bool
    q id r = r.id == id

    one : (id : ℕ) (b : Bool) → (x.id == id) ≡ b → count (q id) (put_in_order comes_before x rules) ≤ 64
    one id true same =
        let is : x.id ≡ id = eqb-true x.id id same in
        rw (sym is) (omega (arith, room, count_put (q x.id) comes_before x rules, count_cons (q x.id) x [], ap (λ b. length (cond b (x ∷ []) [])) (eq-eqb x.id x.id refl)))
    one id false apart = omega (arith, a.few id, count_put (q id) comes_before x rules, count_cons (q id) x [], ap (λ b. length (cond b (x ∷ []) [])) apart)

-- ---- seals

pub filtered_seals :
    (cs : List Conn) (b : SealBook) (p : Seal → Bool) (q : Counter → Bool) → AreSeals cs b
    → AreSeals cs (record { seals = filter p b.seals; counters = filter q b.counters })
filtered_seals cs b p q a = record {
  owned = all_of_filter (λ (s : Seal). lives sends cs s.id ≡ true) p b.seals a.owned;
  few = λ id. omega (arith, a.few id, count_fewer (is_seal_of id) p b.seals);
  counted = all_of_filter (λ (k : Counter). lives sends cs k.id ≡ true) q b.counters a.counted;
  own_counters = distinct_of_filter (λ (x y : Counter). x.id == y.id) q b.counters a.own_counters;
}

-- one behind others from which it differs
distinct_behind :
    {X : Type 0} (same : X → X → Bool) (xs : List X) (x : X) → IsDistinct same xs → AllByRecursion (λ y. same y x ≡ false) xs → IsDistinct same (xs ++ x ∷ [])
unfolding IsDistinct
distinct_behind same [] x d a = (tt, tt)
distinct_behind same (y ∷ ys) x d a = (all_of_append (λ z. same y z ≡ false) ys (x ∷ []) d.0 (a.0, tt), distinct_behind same ys x d.1 a.1)

-- those that a filter keeps have passed it
all_others : (id : ℕ) (ks : List Counter) → AllByRecursion (λ (k : Counter). (k.id == id) ≡ false) (but_those (counts id) ks)
all_others id [] = tt
all_others id (k ∷ ks) = go (counts id k) refl (all_others id ks)
  where
    go : (b : Bool) → (k.id == id) ≡ b → AllByRecursion (λ (j : Counter). (j.id == id) ≡ false) (but_those (counts id) ks)
        → AllByRecursion (λ (j : Counter). (j.id == id) ≡ false) (cond (not b) (k ∷ but_those (counts id) ks) (but_those (counts id) ks))
    go true e ih = ih
    go false e ih = (e, ih)

pub one_seal :
    (cs : List Conn) (b : SealBook) (id : ℕ) (bytes : List ℕ) → AreSeals cs b → lives sends cs id ≡ true → length (those (is_seal_of id) b.seals) < 16
    → AreSeals cs (with_seal b id bytes)
one_seal cs b id bytes a live room = record {
  owned = all_of_append (λ (s : Seal). lives sends cs s.id ≡ true) b.seals (x ∷ []) a.owned (live, tt);
  few = λ i. one i (id == i) refl;
  counted =
      all_of_append (λ (k : Counter). lives sends cs k.id ≡ true) (but_those (counts id) b.counters) (c ∷ [])
      (all_of_filter (λ (k : Counter). lives sends cs k.id ≡ true) (λ k. not (counts id k)) b.counters a.counted) (live, tt);
  own_counters =
      distinct_behind (λ (k j : Counter). k.id == j.id) (but_those (counts id) b.counters) c
      (distinct_of_filter (λ (k j : Counter). k.id == j.id) (λ k. not (counts id k)) b.counters a.own_counters) (all_others id b.counters);
}
  where
    x : Seal
    x = record { id = id; number = next_number b id; content = bytes }

    c : Counter
    c = record { id = id; next = next_number b id + 1 }

    one : (i : ℕ) (t : Bool) → (id == i) ≡ t → count (is_seal_of i) (b.seals ++ x ∷ []) ≤ 16
    one i true same =
        let is : id ≡ i = eqb-true id i same in
        rw (sym is) (omega (arith, room, count_append (is_seal_of id) b.seals (x ∷ []), ap (λ t. length (cond t (x ∷ []) [])) (eq-eqb id id refl)))
    one i false apart = omega (arith, a.few i, count_append (is_seal_of i) b.seals (x ∷ []), ap (λ t. length (cond t (x ∷ []) [])) apart)

-- ---- requests

pub filtered_requests : (cs : List Conn) (qs : List Request) (p : Request → Bool) → AreRequests cs qs → AreRequests cs (filter p qs)
filtered_requests cs qs p a = record {
  askers = all_of_filter (λ (q : Request). lives sends cs q.asker ≡ true) p qs a.askers;
  repliers = all_of_filter (λ (q : Request). lives is_asked cs q.replier ≡ true) p qs a.repliers;
  order = record { rises = rises_filter request_stands_before p qs a.order.rises };
  few = λ id. omega (arith, a.few id, count_fewer (is_asked_by id) p qs);
}

pub one_request :
    (cs : List Conn) (qs : List Request) (x : Request) → AreRequests cs qs → lives sends cs x.asker ≡ true → lives is_asked cs x.replier ≡ true
    → some_of (request_waits x.asker x.cookie) qs ≡ false → length (those (is_asked_by x.asker) qs) < 128
    → AreRequests cs (expecting x qs)
one_request cs qs x a asker replier new room = record {
  askers = all_of_put (λ (q : Request). lives sends cs q.asker ≡ true) request_stands_before x qs asker a.askers;
  repliers = all_of_put (λ (q : Request). lives is_asked cs q.replier ≡ true) request_stands_before x qs replier a.repliers;
  order = record { rises = rises_with by_place (request_waits x.asker x.cookie) x (tied x) qs a.order.rises new };
  few = λ id. one id (x.asker == id) refl;
}
  where
    one : (id : ℕ) (b : Bool) → (x.asker == id) ≡ b → count (is_asked_by id) (put_in_order request_stands_before x qs) ≤ 128
    one id true same =
        let is : x.asker ≡ id = eqb-true x.asker id same in
        rw (sym is) (omega (arith, room, count_put (is_asked_by x.asker) request_stands_before x qs, count_cons (is_asked_by x.asker) x [], ap (λ b. length (cond b (x ∷ []) [])) (eq-eqb x.asker x.asker refl)))
    one id false apart =
        omega (arith, a.few id, count_put (is_asked_by id) request_stands_before x qs, count_cons (is_asked_by id) x [], ap (λ b. length (cond b (x ∷ []) [])) apart)

abbrev named_by : Bool → ℕ → Request → Request
named_by b new q = elim b [ true ↦ record q { replier = new } | false ↦ q ]

renamed_asker : (old new : ℕ) (q : Request) → (renamed old new q).asker ≡ q.asker
renamed_asker old new q = go (q.replier == old)
  where
    go : (b : Bool) → (named_by b new q).asker ≡ q.asker
    go true = refl
    go false = refl

pub renamed_requests : (cs : List Conn) (qs : List Request) (old new : ℕ) → AreRequests cs qs → lives is_asked cs new ≡ true → AreRequests cs (map (renamed old new) qs)
renamed_requests cs qs old new a live = record {
  askers =
      all_over (λ (q : Request). lives sends cs q.asker ≡ true) (renamed old new) qs
      (all_follow (λ (q : Request). lives sends cs q.asker ≡ true) (λ (q : Request). lives sends cs (renamed old new q).asker ≡ true) qs (λ q h. ap (lives sends cs) (renamed_asker old new q) ∙ h) a.askers);
  repliers =
      all_over (λ (q : Request). lives is_asked cs q.replier ≡ true) (renamed old new) qs
      (all_follow (λ (q : Request). lives is_asked cs q.replier ≡ true) (λ (q : Request). lives is_asked cs (renamed old new q).replier ≡ true) qs replier a.repliers);
  order = record { rises = rises_map request_stands_before (renamed old new) (renamed_stands old new) qs a.order.rises };
  few = λ id. omega (arith, a.few id, count_map (is_asked_by id) (renamed old new) (λ q. ap (λ n. n == id) (renamed_asker old new q)) qs);
}
  where
    replier : (q : Request) → lives is_asked cs q.replier ≡ true → lives is_asked cs (renamed old new q).replier ≡ true
    replier q h = go (q.replier == old)
      where
        go : (b : Bool) → lives is_asked cs (named_by b new q).replier ≡ true
        go true = live
        go false = h
