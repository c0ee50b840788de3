-- What an acquire and a release come to.
use Rattle.std.proofs.Common.{◌≡◌, ◌<◌, ℕ, Bool, true, false, not, ◌&&◌, ◌||◌, List, [], ◌∷◌, ◌++◌, length, Option, Some, None, Result, Ok, Err, refl, sym, ap, ◌∙◌}
use Rattle.std.specs.Prelude.{◌==◌, unwrap_or, flat_map}
use Rattle.kd_model.specs.Words.{is_empty, first_that_holds}
use Rattle.kd_types.specs.declared.flags.NameFlags.{NameFlags}
use Rattle.kd_types.specs.declared.refusal.Refusal.{Refusal}
use Rattle.kd_types.specs.declared.refusal.Refusal.TheVariants.{BadName, NoSuchName, NotOwner}
use Rattle.kd_name.specs.Names.{is_name}
use Rattle.kd_wire.specs.declared.reply.Reply.TheVariants as reply
use Rattle.kd_registry.specs.declared.claim.Claim.{Claim}
use Rattle.kd_registry.specs.declared.claim.Verdict.{Verdict}
use Rattle.kd_registry.specs.Claims.{asked, owner_id, ranks, release_answer, released}
use Rattle.kd_replies.specs.declared.request.Request.{Request}
use Rattle.kd_commands.specs.declared.conn.Conn.{Conn}
use Rattle.kd_commands.specs.declared.who.WhoKind.TheVariants as who
use Rattle.kd_tables.specs.declared.part.Part as code
use Rattle.kd_tables.specs.declared.change.Change.TheVariants as change
use Rattle.kd_commands.specs.State.{Desk}
use Rattle.kd_commands.specs.Rights.{may_see_name}
use Rattle.kd_commands.specs.Audience.{audience, is_shown, new_owner, owner_change}
use Rattle.kd_commands.specs.Plans.{Part, Plan, itself, notices, posts, announced}
use Rattle.kd_commands.specs.Names.{activator_in, is_queued, handover, with_claim, acquire_plan, acquire_refusals, name_acquire, has_claim, without_claim, release_refusals, name_release}
use Rattle.kd_tables.specs.Drafts.{Draft, Fits, parts_with, applied, drafted}
use Rattle.kd_desk.specs.Owners.{moved, owner_by, acquire_judged, hidden, release_judged}
use Rattle.kd_desk.proofs.Owning.{owned_by_some, owner_acquired}

-- the audience asks neither the registry nor the requests
moved_same : (d : Desk) (r : List Claim) (qs : List Request) (old new : ℕ) (n : List ℕ) → notices (record d { registry = r; requests = qs }) (moved old new n) ≡ notices d (moved old new n)
unfolding audience is_shown may_see_name
moved_same d r qs old new n = go (old == new)
  where
    after : Desk
    after = record d { registry = r; requests = qs }

    go : (b : Bool) → flat_map (posts after) (elim b [ true ↦ [] | false ↦ new_owner (record { name = n; old = old; new = new }) ∷ [] ]) ≡ flat_map (posts d) (elim b [ true ↦ [] | false ↦ new_owner (record { name = n; old = old; new = new }) ∷ [] ])
    go true = refl
    go false = refl

-- ---- releasing

-- by whether it is a name, has no claims, has one of the connection, may be seen
abbrev answer_by : Bool → Bool → Bool → ℕ → Result ℕ Refusal
answer_by a b h next = unwrap_or (first_that_holds ((not a, Err BadName) ∷ (b, Err NoSuchName) ∷ (not h, Err NotOwner) ∷ [])) (Ok next)

abbrev judged_by : Bool → Bool → Bool → Bool → ℕ → Result ℕ Refusal
judged_by a b h s next = elim (first_that_holds ((not a, BadName) ∷ (b || (not h && not s), NoSuchName) ∷ (not h, NotOwner) ∷ [])) [ Some r ↦ Err r | None ↦ Ok next ]

agree_ok : (a b h s : Bool) (next o : ℕ) → Ok o ≡ answer_by a b h next → Ok o ≡ judged_by a b h s next
agree_ok false b h s next o e = absurd cc
agree_ok true true h s next o e = absurd cc
agree_ok true false false s next o e = absurd cc
agree_ok true false true s next o e = e

agree_err : (a b h s : Bool) (next : ℕ) (why : Refusal) → Err why ≡ answer_by a b h next → Err (hidden why s) ≡ judged_by a b h s next
agree_err false b h s next why e = let is : why ≡ BadName = cc in ap (λ r. Err (hidden r s)) is
agree_err true true h s next why e = let is : why ≡ NoSuchName = cc in ap (λ r. Err (hidden r s)) is
agree_err true false true s next why e = absurd cc
agree_err true false false true next why e = let is : why ≡ NotOwner = cc in ap (λ r. Err (hidden r true)) is
agree_err true false false false next why e = let is : why ≡ NotOwner = cc in ap (λ r. Err (hidden r false)) is

judged_is : (d : Desk) (c : Conn) (n : List ℕ) → judged_by (is_name n) (is_empty (ranks d.registry n)) (has_claim d c.id n) (may_see_name d c n) (owner_id (released d.registry c.id n) n) ≡ release_judged d c n
unfolding release_judged release_refusals
judged_is d c n = ap (λ b. judged_by (is_name n) b (has_claim d c.id n) (may_see_name d c n) (owner_id (released d.registry c.id n) n)) (sym (owned_by_some d.registry n))

pub release_ok : (d : Desk) (c : Conn) (n : List ℕ) (o : ℕ) → Ok o ≡ release_answer d.registry c.id n → Ok o ≡ release_judged d c n
release_ok d c n o e = agree_ok (is_name n) (is_empty (ranks d.registry n)) (has_claim d c.id n) (may_see_name d c n) (owner_id (released d.registry c.id n) n) o e ∙ judged_is d c n

pub release_err : (d : Desk) (c : Conn) (n : List ℕ) (why : Refusal) → Err why ≡ release_answer d.registry c.id n → Err (hidden why (may_see_name d c n)) ≡ release_judged d c n
release_err d c n why e = agree_err (is_name n) (is_empty (ranks d.registry n)) (has_claim d c.id n) (may_see_name d c n) (owner_id (released d.registry c.id n) n) why e ∙ judged_is d c n

abbrev owner_by_refusal : Option Refusal → ℕ → Result ℕ Refusal
owner_by_refusal o next = elim o [ Some r ↦ Err r | None ↦ Ok next ]

abbrev plan_by_refusal : Option Refusal → Plan → Result Plan Refusal
plan_by_refusal o plan = elim o [ Some r ↦ Err r | None ↦ Ok plan ]

-- a release that is refused
pub release_refused : (d : Desk) (c : Conn) (n : List ℕ) (why : Refusal) → Err why ≡ release_judged d c n → name_release d c n ≡ Err why
unfolding release_judged name_release
release_refused d c n why e = go (first_that_holds (release_refusals d c n)) e
  where
    plan : Plan
    plan = announced c reply.NameRelease (without_claim d c.id n) (owner_change d.registry (without_claim d c.id n).registry n)

    go : (o : Option Refusal) → Err why ≡ owner_by_refusal o (owner_id (released d.registry c.id n) n) → plan_by_refusal o plan ≡ Err why
    go (Some r) h = let is : why ≡ r = cc in ap Err (sym is)
    go None h = absurd cc

-- the plan of a release
abbrev pub release_draft : Conn → List ℕ → List code.Part → Draft
release_draft c n parts = record { parts = parts; contents = []; reply = reply.NameRelease; change = change.Releases c.id n; after = who.Conn c.id c.seat }

pub release_planned : (d : Desk) (c : Conn) (n : List ℕ) (new : ℕ) (parts : List code.Part) → Ok new ≡ release_judged d c n → parts_with [] parts ≡ notices d (moved (owner_id d.registry n) new n) → name_release d c n ≡ Ok (drafted d (release_draft c n parts))
unfolding release_judged name_release drafted applied without_claim
release_planned d c n new parts e told = go (first_that_holds (release_refusals d c n)) e
  where
    next : ℕ
    next = owner_id (released d.registry c.id n) n

    after : Desk
    after = without_claim d c.id n

    planned : List Part → Plan
    planned ps = record { parts = ps; reply = reply.NameRelease; next = after; becomes = itself c }

    go : (o : Option Refusal) → Ok new ≡ owner_by_refusal o next → plan_by_refusal o (planned (notices after (moved (owner_id d.registry n) next n))) ≡ Ok (planned (parts_with [] parts))
    go (Some r) h = absurd cc
    go None h =
        let is : new ≡ next = cc in
        ap (λ ps. Ok (planned ps)) (moved_same d (released d.registry c.id n) d.requests (owner_id d.registry n) next n ∙ ap (λ z. notices d (moved (owner_id d.registry n) z n)) (sym is) ∙ sym told)

pub release_fits : (d : Desk) (id : ℕ) (n : List ℕ) (o : ℕ) → release_answer d.registry id n ≡ Ok o → Fits d (change.Releases id n)
unfolding Fits
release_fits d id n o e = (o, e)

-- ---- acquiring

abbrev verdict_by : Option Refusal → Result Verdict Refusal → Result Verdict Refusal
verdict_by o k = elim o [ Some r ↦ Err r | None ↦ k ]

abbrev plan_by_verdict : Option Refusal → Result Verdict Refusal → (Verdict → Plan) → Result Plan Refusal
plan_by_verdict o k plan = elim o [ Some r ↦ Err r | None ↦ elim k [ Err r ↦ Err r | Ok v ↦ Ok (plan v) ] ]

pub acquire_refused : (d : Desk) (c : Conn) (flags : NameFlags) (n : List ℕ) (why : Refusal) → Err why ≡ acquire_judged d c flags n → name_acquire d c flags n ≡ Err why
unfolding acquire_judged name_acquire
acquire_refused d c flags n why e = go (first_that_holds (acquire_refusals d c n)) (asked d.registry c.id n flags) e
  where
    go : (o : Option Refusal) (k : Result Verdict Refusal) → Err why ≡ verdict_by o k → plan_by_verdict o k (acquire_plan d c flags n) ≡ Err why
    go (Some r) k h = let is : why ≡ r = cc in ap Err (sym is)
    go None (Err r) h = let is : why ≡ r = cc in ap Err (sym is)
    go None (Ok v) h = absurd cc

pub acquire_asked : (d : Desk) (c : Conn) (flags : NameFlags) (n : List ℕ) (v : Verdict) → Ok v ≡ acquire_judged d c flags n → asked d.registry c.id n flags ≡ Ok v
unfolding acquire_judged
acquire_asked d c flags n v e = go (first_that_holds (acquire_refusals d c n)) (asked d.registry c.id n flags) e
  where
    go : (o : Option Refusal) (k : Result Verdict Refusal) → Ok v ≡ verdict_by o k → k ≡ Ok v
    go (Some r) k h = absurd cc
    go None k h = sym h

acquire_given : (d : Desk) (c : Conn) (flags : NameFlags) (n : List ℕ) (v : Verdict) → Ok v ≡ acquire_judged d c flags n → name_acquire d c flags n ≡ Ok (acquire_plan d c flags n v)
unfolding acquire_judged name_acquire
acquire_given d c flags n v e = go (first_that_holds (acquire_refusals d c n)) (asked d.registry c.id n flags) e
  where
    go : (o : Option Refusal) (k : Result Verdict Refusal) → Ok v ≡ verdict_by o k → plan_by_verdict o k (acquire_plan d c flags n) ≡ Ok (acquire_plan d c flags n v)
    go (Some r) k h = absurd cc
    go None (Err r) h = absurd cc
    go None (Ok w) h = let is : v ≡ w = cc in ap (λ z. Ok (acquire_plan d c flags n z)) (sym is)

-- the plan of an acquire
abbrev pub acquire_draft : Conn → NameFlags → List ℕ → Verdict → List code.Part → Draft
acquire_draft c flags n v parts = record { parts = parts; contents = []; reply = reply.NameAcquire (is_queued v); change = change.Acquires c.id flags n v; after = who.Conn c.id c.seat }

-- its parts: first what is handed over, then the notices
abbrev pub acquire_parts : Desk → Conn → List ℕ → Verdict → List Part
acquire_parts d c n v = handover d c (activator_in v) ++ notices d (moved (owner_id d.registry n) (owner_by v c.id (owner_id d.registry n)) n)

drafted_acquire : (d : Desk) (c : Conn) (flags : NameFlags) (n : List ℕ) (v : Verdict) (parts : List code.Part) → asked d.registry c.id n flags ≡ Ok v → parts_with [] parts ≡ acquire_parts d c n v → acquire_plan d c flags n v ≡ drafted d (acquire_draft c flags n v parts)
unfolding drafted applied with_claim
drafted_acquire d c flags n v parts e told =
    let old : ℕ = owner_id d.registry n in
    let after : Desk = with_claim d c.id flags n v in
    let planned : List Part → Plan = λ ps. record { parts = ps; reply = reply.NameAcquire (is_queued v); next = after; becomes = itself c } in
    ap planned (
    ap (handover d c (activator_in v) ++◌)
    (moved_same d after.registry after.requests old (owner_id after.registry n) n
    ∙ ap (λ z. notices d (moved old z n)) (owner_acquired d.registry c.id n flags v e))
    ∙ sym told)

pub acquire_planned : (d : Desk) (c : Conn) (flags : NameFlags) (n : List ℕ) (v : Verdict) (parts : List code.Part) → Ok v ≡ acquire_judged d c flags n → parts_with [] parts ≡ acquire_parts d c n v → name_acquire d c flags n ≡ Ok (drafted d (acquire_draft c flags n v parts))
acquire_planned d c flags n v parts e told =
    acquire_given d c flags n v e ∙ ap Ok (drafted_acquire d c flags n v parts (acquire_asked d c flags n v e) told)

pub acquire_fits : (d : Desk) (c : Conn) (flags : NameFlags) (n : List ℕ) (v : Verdict) → Ok v ≡ acquire_judged d c flags n → length d.registry < 4160 → Fits d (change.Acquires c.id flags n v)
unfolding Fits
acquire_fits d c flags n v e room = (acquire_asked d c flags n v e, room)
