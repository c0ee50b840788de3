-- The requests after a message: whoever is to reply is there.
use Rattle.std.proofs.Common.{◌≡◌, ℕ, ◌<◌, Bool, true, false, cond, List, [], ◌∷◌, ◌++◌, length, Option, Some, None, Ok, refl, sym, ap, ◌∙◌, arith}
use Rattle.std.specs.Prelude.{◌==◌, ◌||◌, ◌&&◌, not, filter, is_none, is_some, nat_le}
use Rattle.std.specs.List.{AllByRecursion}
use Rattle.std.proofs.lemmas.Bool.{and_from, and_parts, eqb-true, leb-false, or_left, or_parts, or_right}
use Rattle.kd_types.specs.Flags.{has_bits}
use Rattle.kd_types.specs.declared.refusal.Refusal.{Refusal}
use Rattle.kd_types.specs.declared.refusal.Refusal.TheVariants.{TooMany}
use Rattle.kd_types.specs.declared.creds.Kind.{Kind}
use Rattle.kd_types.specs.declared.creds.Kind.TheVariants.{Ordinary, Activator, Holder, Monitor}
use Rattle.kd_model.specs.Words.{but_those, first, some_of, those}
use Rattle.kd_model.proofs.Lists.{all_of_filter, all_of_found, found_passes}
use Rattle.kd_registry.specs.declared.claim.Claim.{Claim}
use Rattle.kd_registry.specs.Claims.{activators, claims, id_of, is_on, is_ordinary_claim, owner, owner_id}
use Rattle.kd_replies.specs.declared.request.Request.{Request}
use Rattle.kd_replies.specs.Requests.{is_asked_by, request_waits}
use Rattle.kd_commands.specs.declared.conn.Conn.{Conn}
use Rattle.kd_commands.specs.declared.sent.Sent.{Sent}
use Rattle.kd_commands.specs.State.{Desk, conn_of, has_id, is_activator, is_ordinary}
use Rattle.kd_commands.specs.Items.{destination_name}
use Rattle.kd_commands.specs.Messages.{expects, is_broadcast}
use Rattle.kd_commands.specs.Plans.{Plan, unless}
use Rattle.kd_commands.specs.Rights.{may_see, may_see_name}
use Rattle.kd_commands.specs.Send.{asker_of, has_bad_cookie, is_misuse, is_reply, live_ordinary, receiver, refusals_by, refusals_of_unicast, requests_after, send, send_refusals, with_request}
use Rattle.kd_commands.proofs.Staying.{planned}
use Rattle.kd_settled.specs.Owners.{is_asked, lives, may_claim, sends}
use Rattle.kd_settled.specs.Room.{UnicastsReach}
use Rattle.kd_settled.specs.Settled.{AreClaims, AreRequests, IsSettled}
use Rattle.kd_settled.proofs.Living.{found_is, found_lives, lives_found}
use Rattle.kd_settled.proofs.Tables.{filtered_requests, one_request}

-- ---- the owner of a name

-- what holds of each claim holds of the owner's
pub owner_holds : (P : Claim → Type 0) (r : List Claim) (n : List ℕ) (x : Claim) → AllByRecursion P r → owner r n ≡ Some x → P x
owner_holds P r n x a e = go (first (is_on n) (claims r)) refl e
  where
    go : (o : Option Claim) → first (is_on n) (claims r) ≡ o → (elim o [ Some c ↦ Some c | None ↦ first (is_on n) (activators r) ]) ≡ Some x → P x
    go (Some c) is same = let one : c ≡ x = cc in rw (sym one) (all_of_found P (is_on n) (claims r) c (all_of_filter P is_ordinary_claim r a) is)
    go None is same = all_of_found P (is_on n) (activators r) x (all_of_filter P (λ c. not (is_ordinary_claim c)) r a) same

-- it is a live connection of the claim's kind
pub owner_lives : (d : Desk) (n : List ℕ) (x : Claim) → IsSettled d → owner d.registry n ≡ Some x → (c : Conn) × (conn_of d x.id ≡ Some c) × (may_claim x c ≡ true)
owner_lives d n x s e =
    lives_found (may_claim x) d.conns x.id s.seated.own_ids (owner_holds (λ (y : Claim). lives (may_claim y) d.conns y.id ≡ true) d.registry n x s.claims.owned e)

-- ---- whom a message reaches

claims_ask : (x : Claim) (c : Conn) → may_claim x c ≡ true → is_asked c ≡ true
claims_ask x c h = go (is_ordinary_claim x) h
  where
    go : (b : Bool) → (elim b [ true ↦ is_ordinary c.kind | false ↦ is_activator c.kind ]) ≡ true → is_asked c ≡ true
    go true e = or_left (is_ordinary c.kind) (is_activator c.kind) e
    go false e = or_right (is_ordinary c.kind) (is_activator c.kind) e

nobody_is_0 : (cs : List Conn) (c : Conn) → AllByRecursion (λ (x : Conn). 0 < x.id) cs → first (has_id 0) cs ≡ Some c → ⊥
nobody_is_0 cs c a e =
    let above : 0 < c.id = all_of_found (λ (x : Conn). 0 < x.id) (has_id 0) cs c a e in
    let none : c.id ≡ 0 = eqb-true c.id 0 (found_passes (has_id 0) cs c e) in
    omega arith

by_name : (d : Desk) (n : List ℕ) (r : Conn) → IsSettled d → conn_of d (owner_id d.registry n) ≡ Some r → is_asked r ≡ true
by_name d n r s e = go (owner d.registry n) refl e
  where
    go : (o : Option Claim) → owner d.registry n ≡ o → conn_of d (id_of o) ≡ Some r → is_asked r ≡ true
    go None is found = absurd (nobody_is_0 d.conns r s.seats.some_ids found)
    go (Some x) is found =
        let f = owner_lives d n x s is in
        let same : f.0 ≡ r = cc in
        ap is_asked (sym same) ∙ claims_ask x f.0 f.2

pub receiver_asked : (d : Desk) (m : Sent) (r : Conn) → IsSettled d → receiver d m ≡ Some r → lives is_asked d.conns r.id ≡ true
receiver_asked d m r s e = go (destination_name m.items) e
  where
    go : (o : Option (List ℕ)) → (elim o [ Some n ↦ conn_of d (owner_id d.registry n) | None ↦ live_ordinary d m.dst ]) ≡ Some r → lives is_asked d.conns r.id ≡ true
    go (Some n) found = found_lives is_asked (has_id (owner_id d.registry n)) d.conns r found (by_name d n r s found)
    go None found =
        let both = and_parts (has_id m.dst r) (is_ordinary r.kind) (found_passes (λ (c : Conn). has_id m.dst c && is_ordinary c.kind) d.conns r found) in
        found_lives is_asked (λ (c : Conn). has_id m.dst c && is_ordinary c.kind) d.conns r found (or_left (is_ordinary r.kind) (is_activator r.kind) both.1)

-- ---- what isn't refused

pub none_hold : (ts : List (Bool × Refusal)) (q p : Plan) → unless ts q ≡ planned p → AllByRecursion (λ (t : Bool × Refusal). t.0 ≡ false) ts
none_hold [] q p e = tt
none_hold ((true, r) ∷ ts) q p e = absurd cc
none_hold ((false, r) ∷ ts) q p e = (refl, none_hold ts q p e)

all_last : {X : Type 0} (P : X → Type 0) (xs ys : List X) → AllByRecursion P (xs ++ ys) → AllByRecursion P ys
all_last P [] ys a = a
all_last P (x ∷ xs) ys a = all_last P xs ys a.1

-- a message that expects a reply is no broadcast
isnt_broadcast : (m : Sent) → expects m ≡ true → is_misuse m ≡ false → is_broadcast m ≡ false
isnt_broadcast m asks e = go (is_broadcast m) refl e
  where
    go : (b : Bool) → is_broadcast m ≡ b → (elim b [ true ↦ expects m || is_some (destination_name m.items) | false ↦ has_bits m.flags.0 4 ]) ≡ false → b ≡ false
    go false is h = refl
    go true is h = absurd (let t : (expects m || is_some (destination_name m.items)) ≡ true = or_left (expects m) (is_some (destination_name m.items)) asks in cc)

-- then nobody waits with its cookie, and the asker waits for fewer than 128
may_ask :
    (d : Desk) (c : Conn) (m : Sent) → expects m ≡ true → AllByRecursion (λ (t : Bool × Refusal). t.0 ≡ false) (send_refusals d c m)
    → (some_of (request_waits c.id m.cookie) d.requests ≡ false) × (length (those (is_asked_by c.id) d.requests) < 128)
unfolding send_refusals
may_ask d c m asks a = (
  (or_parts (m.cookie == 0 || m.last == 0) (some_of (request_waits c.id m.cookie) d.requests) (held a.0)).1,
  leb-false 128 (length (those (is_asked_by c.id) d.requests)) few,
)
  where
    held : {b : Bool} → (expects m && b) ≡ false → b ≡ false
    held {b} h = ap (λ t. t && b) (sym asks) ∙ h

    unicast : AllByRecursion (λ (t : Bool × Refusal). t.0 ≡ false) (refusals_of_unicast d c m)
    unicast = rw (isnt_broadcast m asks a.1.0) at a.1.1.1.1.1

    few : nat_le 128 (length (those (is_asked_by c.id) d.requests)) ≡ false
    few = held (all_last (λ (t : Bool × Refusal). t.0 ≡ false) (refusals_by d c m (destination_name m.items)) _ unicast).1.0

-- ---- the requests after it

pub requests_then :
    (d : Desk) (c : Conn) (m : Sent) → IsSettled d → lives sends d.conns c.id ≡ true → AllByRecursion (λ (t : Bool × Refusal). t.0 ≡ false) (send_refusals d c m)
    → AreRequests d.conns (requests_after d c m)
unfolding requests_after
requests_then d c m s live a = go (expects m) refl
  where
    asking : expects m ≡ true → (o : Option Conn) → receiver d m ≡ o → AreRequests d.conns (with_request c m o d.requests)
    asking asks None is = s.requests
    asking asks (Some r) is =
        let free = may_ask d c m asks a in
        one_request d.conns d.requests (record { asker = c.id; replier = r.id; cookie = m.cookie; deadline = m.last }) s.requests live (receiver_asked d m r s is) free.0 free.1

    answering : (b : Bool) → AreRequests d.conns (elim b [ true ↦ but_those (request_waits (asker_of d m) m.last) d.requests | false ↦ d.requests ])
    answering true = filtered_requests d.conns d.requests (λ q. not (request_waits (asker_of d m) m.last q)) s.requests
    answering false = s.requests

    go : (b : Bool) → expects m ≡ b
        → AreRequests d.conns (elim b [
          | true ↦ with_request c m (receiver d m) d.requests
          | false ↦ elim (is_reply d c m) [ true ↦ but_those (request_waits (asker_of d m) m.last) d.requests | false ↦ d.requests ]
        ])
    go true is = asking is (receiver d m) refl
    go false is = answering (is_reply d c m)

-- ---- a message to one

all_first : {X : Type 0} (P : X → Type 0) (xs ys : List X) → AllByRecursion P (xs ++ ys) → AllByRecursion P xs
all_first P [] ys a = tt
all_first P (x ∷ xs) ys a = (a.0, all_first P xs ys a.1)

there : {X : Type 0} (o : Option X) → is_none o ≡ false → (x : X) × (o ≡ Some x)
there None h = absurd cc
there (Some x) h = (x, refl)

-- whoever owns a name is found
owner_found : (d : Desk) (n : List ℕ) → IsSettled d → is_none (owner d.registry n) ≡ false → (r : Conn) × (conn_of d (owner_id d.registry n) ≡ Some r)
owner_found d n s h =
    let x = there (owner d.registry n) h in
    let c = owner_lives d n x.0 s x.1 in
    (c.0, ap (λ o. conn_of d (id_of o)) x.1 ∙ c.1)

pub unicasts_reach : UnicastsReach
unfolding send send_refusals
unicasts_reach d c m p s e is =
    let none : AllByRecursion (λ (t : Bool × Refusal). t.0 ≡ false) (send_refusals d c m) = none_hold (send_refusals d c m) _ p e in
    let unicast : AllByRecursion (λ (t : Bool × Refusal). t.0 ≡ false) (refusals_of_unicast d c m) = rw is at none.1.1.1.1.1 in
    go (destination_name m.items) refl (all_first (λ (t : Bool × Refusal). t.0 ≡ false) (refusals_by d c m (destination_name m.items)) _ unicast)
  where
    named : Option (List ℕ) → Option Conn
    named o = elim o [ Some n ↦ conn_of d (owner_id d.registry n) | None ↦ live_ordinary d m.dst ]

    go : (o : Option (List ℕ)) → destination_name m.items ≡ o → AllByRecursion (λ (t : Bool × Refusal). t.0 ≡ false) (refusals_by d c m o) → (r : Conn) × (receiver d m ≡ Some r)
    go None none a =
        there (receiver d m) (or_parts (is_none (receiver d m)) (not (may_see d c m.dst) && not (is_reply d c m)) a.0).0
    go (Some n) some a =
        let f = owner_found d n s (or_parts (is_none (owner d.registry n)) (not (may_see_name d c n) && not (is_reply d c m)) a.1.0).0 in
        (f.0, ap named some ∙ f.1)
