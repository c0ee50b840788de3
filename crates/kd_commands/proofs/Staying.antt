-- The commands after which all sit where they sat.
use Rattle.std.proofs.Common.{◌≡◌, ℕ, Bool, List, [], ◌++◌, length, map, Option, Some, None, Result, Ok, Err, refl, sym, inl, inr}
use Rattle.std.specs.Prelude.{max}
use Rattle.kd_types.specs.declared.creds.Creds.{Creds}
use Rattle.kd_types.specs.declared.creds.Kind.{Kind}
use Rattle.kd_types.specs.declared.creds.Kind.TheVariants.{Ordinary, Activator, Holder, Monitor}
use Rattle.kd_types.specs.declared.flags.ListFlags.{ListFlags}
use Rattle.kd_types.specs.declared.flags.NameFlags.{NameFlags}
use Rattle.kd_types.specs.declared.refusal.Refusal.{Refusal}
use Rattle.kd_model.specs.Words.{but_those, first_that_holds}
use Rattle.kd_model.proofs.Lists.{all_of_append}
use Rattle.kd_wire.specs.declared.command.Command.{Command}
use Rattle.kd_wire.specs.declared.command.Command.TheVariants as cmd
use Rattle.kd_wire.specs.declared.item.WireItem.{WireItem}
use Rattle.kd_wire.specs.declared.reply.Reply.{Reply}
use Rattle.kd_wire.specs.declared.reply.Reply.TheVariants as reply
use Rattle.kd_policy.specs.declared.owner.Owner.{Owner}
use Rattle.kd_policy.specs.declared.owner.Owner.TheVariants as owner
use Rattle.kd_policy.specs.Policy.{after_put, put_refusal}
use Rattle.kd_registry.specs.declared.claim.Verdict.{Verdict}
use Rattle.kd_registry.specs.Claims.{asked}
use Rattle.kd_match.specs.Rules.{remove_refusal, without_rules}
use Rattle.kd_seal.specs.Book.{seal_answer, unseal_answer, unsealed, with_seal}
use Rattle.kd_replies.specs.declared.request.Request.{Request}
use Rattle.kd_replies.specs.Requests.{due, is_due}
use Rattle.kd_commands.specs.declared.conn.Conn.{Conn}
use Rattle.kd_commands.specs.declared.sent.Sent.{Sent}
use Rattle.kd_commands.specs.declared.who.WhoKind.{WhoKind}
use Rattle.kd_commands.specs.declared.who.WhoKind.TheVariants as who
use Rattle.kd_commands.specs.State.{Desk}
use Rattle.kd_commands.specs.Audience.{Subject, reply_timeout, owner_change}
use Rattle.kd_commands.specs.Items.{entries_in}
use Rattle.kd_commands.specs.Plans.{Part, Plan, announced, itself, notices, quiet, unless, unless_refused}
use Rattle.kd_commands.specs.Send.{requests_after, send_parts, send_refusals, send}
use Rattle.kd_commands.specs.Names.{acquire_plan, acquire_refusals, activator_in, handover, is_queued, name_acquire, name_release, release_refusals, with_claim, without_claim}
use Rattle.kd_commands.specs.NameList.{listing_lines, name_list}
use Rattle.kd_commands.specs.Endpoints.{endpoint_make, endpoint_refusals, next_endpoint, with_endpoint}
use Rattle.kd_commands.specs.Matches.{match_add, match_refusals, match_remove, with_rule_of}
use Rattle.kd_commands.specs.Policy.{policy_set}
use Rattle.kd_commands.specs.Seals.{seal, unseal}
use Rattle.kd_commands.specs.Tick.{tick}
use Rattle.kd_commands.specs.Step.{from_holder, from_kind, from_ordinary}
use Rattle.kd_commands.proofs.Asides.{AreAside, IsAside, handover_aside, notices_aside, send_aside}
use Rattle.kd_commands.proofs.Moves.{Stays}

-- ---- what isn't refused is planned

abbrev pub planned : Plan → Result Plan Refusal
planned p = Ok p

pub of_given : (M : Plan → Type 0) (q p : Plan) → planned q ≡ planned p → M q → M p
of_given M q p e h = let same : q ≡ p = cc in rw (sym same) h

pub of_unless : (M : Plan → Type 0) (ts : List (Bool × Refusal)) (q p : Plan) → unless ts q ≡ planned p → M q → M p
of_unless M ts q p e h = go (first_that_holds ts) e
  where
    go : (o : Option Refusal) → (elim o [ Some r ↦ Err r | None ↦ Ok q ]) ≡ planned p → M p
    go None same = of_given M q p same h
    go (Some r) same = absurd cc

of_unrefused : (M : Plan → Type 0) (o : Option Refusal) (q p : Plan) → unless_refused o q ≡ planned p → M q → M p
of_unrefused M None q p e h = of_given M q p e h
of_unrefused M (Some r) q p e h = absurd cc

-- ---- plans over the same seats

abbrev HasSame : Desk → Desk → Type 0
HasSame d after = (after.conns ≡ d.conns) × (after.blocked ≡ d.blocked) × (after.next_id ≡ d.next_id)

abbrev plan_of : WhoKind → List Part → Reply → Desk → Plan
plan_of m ps r after = record { parts = ps; reply = r; next = after; becomes = m }

pub stays_with : (d after : Desk) (m : WhoKind) (ps : List Part) (r : Reply) → HasSame d after → AreAside ps → Stays d m (plan_of m ps r after)
stays_with d after m ps r is a = record { conns = is.0; blocked = is.1; next_id = is.2; aside = a; alike = inl refl }

quiet_stays : (d after : Desk) (c : Conn) (r : Reply) → HasSame d after → Stays d (itself c) (quiet c r after)
quiet_stays d after c r is = stays_with d after (itself c) [] r is tt

told_stays : (d after : Desk) (c : Conn) (r : Reply) (ss : List Subject) → HasSame d after → Stays d (itself c) (announced c r after ss)
told_stays d after c r ss is = stays_with d after (itself c) (notices after ss) r is (notices_aside after ss)

-- ---- messages

abbrev sent : Desk → Conn → Sent → Plan
sent d c m = plan_of (itself c) (send_parts d c m) reply.Send (record d { requests = requests_after d c m })

send_stays : (d : Desk) (c : Conn) (m : Sent) (p : Plan) → send d c m ≡ Ok p → Stays d (itself c) p
unfolding send
send_stays d c m p e =
    of_unless (Stays d (itself c)) (send_refusals d c m) (sent d c m) p e
    (stays_with d (sent d c m).next (itself c) (send_parts d c m) reply.Send (refl, refl, refl) (send_aside d c m))

-- ---- names

acquired_stays : (d : Desk) (c : Conn) (flags : NameFlags) (n : List ℕ) (v : Verdict) → Stays d (itself c) (acquire_plan d c flags n v)
unfolding with_claim
acquired_stays d c flags n v =
    stays_with d after (itself c) (handover d c (activator_in v) ++ notices after told) (reply.NameAcquire (is_queued v)) (refl, refl, refl) aside
  where
    after : Desk
    after = with_claim d c.id flags n v

    told : List Subject
    told = owner_change d.registry after.registry n

    aside : AreAside (handover d c (activator_in v) ++ notices after told)
    aside =
        all_of_append (λ (p : Part). IsAside p.act) (handover d c (activator_in v)) (notices after told) (handover_aside d c (activator_in v)) (notices_aside after told)

acquire_stays : (d : Desk) (c : Conn) (flags : NameFlags) (n : List ℕ) (p : Plan) → name_acquire d c flags n ≡ Ok p → Stays d (itself c) p
unfolding name_acquire
acquire_stays d c flags n p e = go (first_that_holds (acquire_refusals d c n)) e
  where
    answered : Result Verdict Refusal → Result Plan Refusal
    answered r = elim r [ Err why ↦ Err why | Ok v ↦ Ok (acquire_plan d c flags n v) ]

    asking : (r : Result Verdict Refusal) → answered r ≡ planned p → Stays d (itself c) p
    asking (Err why) h = absurd cc
    asking (Ok v) h = of_given (Stays d (itself c)) (acquire_plan d c flags n v) p h (acquired_stays d c flags n v)

    go : (o : Option Refusal) → (elim o [ Some r ↦ Err r | None ↦ answered (asked d.registry c.id n flags) ]) ≡ planned p → Stays d (itself c) p
    go None h = asking (asked d.registry c.id n flags) h
    go (Some r) h = absurd cc

abbrev released : Desk → Conn → List ℕ → Plan
released d c n =
    let after : Desk = without_claim d c.id n in
    announced c reply.NameRelease after (owner_change d.registry after.registry n)

released_stays : (d : Desk) (c : Conn) (n : List ℕ) → Stays d (itself c) (released d c n)
unfolding without_claim
released_stays d c n =
    let after : Desk = without_claim d c.id n in
    told_stays d after c reply.NameRelease (owner_change d.registry after.registry n) (refl, refl, refl)

release_stays : (d : Desk) (c : Conn) (n : List ℕ) (p : Plan) → name_release d c n ≡ Ok p → Stays d (itself c) p
unfolding name_release
release_stays d c n p e = of_unless (Stays d (itself c)) (release_refusals d c n) (released d c n) p e (released_stays d c n)

pub list_stays : (d : Desk) (c : Conn) (flags : ListFlags) → Stays d (itself c) (name_list d c flags)
unfolding name_list
list_stays d c flags = quiet_stays d d c (reply.NameList (listing_lines d c flags)) (refl, refl, refl)

-- ---- rules

match_add_stays :
    (d : Desk) (c : Conn) (replace : Bool) (cookie : ℕ) (is : List WireItem) (p : Plan) → match_add d c replace cookie is ≡ Ok p
    → Stays d (itself c) p
unfolding match_add
match_add_stays d c replace cookie is p e =
    let after : Desk = with_rule_of d c replace cookie is in
    of_unless (Stays d (itself c)) (match_refusals d c replace cookie is) (quiet c reply.MatchAdd after) p e
    (quiet_stays d after c reply.MatchAdd (refl, refl, refl))

match_remove_stays : (d : Desk) (c : Conn) (cookie : ℕ) (p : Plan) → match_remove d c cookie ≡ Ok p → Stays d (itself c) p
unfolding match_remove
match_remove_stays d c cookie p e =
    let after : Desk = record d { rules = without_rules d.rules c.id cookie } in
    of_unrefused (Stays d (itself c)) (remove_refusal d.rules c.id cookie) (quiet c reply.MatchRemove after) p e
    (quiet_stays d after c reply.MatchRemove (refl, refl, refl))

-- ---- policy and endpoints

pub policy_stays : (d : Desk) (m : WhoKind) (o : Owner) (is : List WireItem) (p : Plan) → policy_set d m o is ≡ Ok p → Stays d m p
unfolding policy_set
policy_stays d m o is p e =
    let after : Desk = record d { policy = after_put d.policy o (entries_in is) } in
    of_unrefused (Stays d m) (put_refusal o (entries_in is)) (plan_of m [] reply.PolicySet after) p e
    (stays_with d after m [] reply.PolicySet (refl, refl, refl) tt)

abbrev made : Desk → List WireItem → Plan
made d is = plan_of (who.Keeper (next_endpoint d)) [] reply.EndpointMake (with_endpoint d is)

made_stays : (d : Desk) (is : List WireItem) → Stays d who.Fresh (made d is)
unfolding with_endpoint
made_stays d is = record { conns = refl; blocked = refl; next_id = refl; aside = tt; alike = inr (next_endpoint d, refl, refl) }

pub endpoint_stays : (d : Desk) (creds : Creds) (is : List WireItem) (p : Plan) → endpoint_make d creds is ≡ Ok p → Stays d who.Fresh p
unfolding endpoint_make
endpoint_stays d creds is p e = of_unless (Stays d who.Fresh) (endpoint_refusals d creds is) (made d is) p e (made_stays d is)

-- ---- time

pub tick_stays : (d : Desk) (c : Conn) (moment : ℕ) → Stays d (itself c) (tick d c moment)
unfolding tick
tick_stays d c moment =
    let now : ℕ = max d.moment moment in
    told_stays d (record d { moment = now; requests = but_those (is_due now) d.requests }) c (reply.Tick now)
    (map (λ (q : Request). reply_timeout q.asker q.cookie) (due now d.requests)) (refl, refl, refl)

-- ---- sealed bytes

seal_stays : (d : Desk) (c : Conn) (bytes : List ℕ) (p : Plan) → seal d c bytes ≡ Ok p → Stays d (itself c) p
unfolding seal
seal_stays d c bytes p e = go (seal_answer d.seals c.id (length bytes)) e
  where
    after : Desk
    after = record d { seals = with_seal d.seals c.id bytes }

    go : (r : Result ℕ Refusal) → (elim r [ Err why ↦ Err why | Ok n ↦ Ok (quiet c (reply.Seal n) after) ]) ≡ planned p → Stays d (itself c) p
    go (Err why) h = absurd cc
    go (Ok n) h = of_given (Stays d (itself c)) (quiet c (reply.Seal n) after) p h (quiet_stays d after c (reply.Seal n) (refl, refl, refl))

unseal_stays : (d : Desk) (c : Conn) (number : ℕ) (p : Plan) → unseal d c number ≡ Ok p → Stays d (itself c) p
unfolding unseal
unseal_stays d c number p e = go (unseal_answer d.seals c.id number) e
  where
    after : Desk
    after = record d { seals = unsealed d.seals c.id number }

    go : (r : Result (Unit {0}) Refusal) → (elim r [ Err why ↦ Err why | Ok x ↦ Ok (quiet c reply.Unseal after) ]) ≡ planned p → Stays d (itself c) p
    go (Err why) h = absurd cc
    go (Ok x) h = of_given (Stays d (itself c)) (quiet c reply.Unseal after) p h (quiet_stays d after c reply.Unseal (refl, refl, refl))

-- ---- by kind

ordinary_stays : (d : Desk) (c : Conn) (x : Command) (p : Plan) → from_ordinary d c x ≡ Ok p → Stays d (itself c) p
ordinary_stays d c (cmd.Send flags priority dst source payload_type cookie last is) p e =
    let m : Sent = record { flags = flags; priority = priority; dst = dst; payload_type = payload_type; cookie = cookie; last = last; items = is } in
    send_stays d c m p e
ordinary_stays d c (cmd.NameAcquire flags n) p e = acquire_stays d c flags n p e
ordinary_stays d c (cmd.NameRelease n) p e = release_stays d c n p e
ordinary_stays d c (cmd.MatchAdd replace cookie is) p e = match_add_stays d c replace cookie is p e
ordinary_stays d c (cmd.MatchRemove cookie) p e = match_remove_stays d c cookie p e
ordinary_stays d c (cmd.Seal bytes) p e = seal_stays d c bytes p e
ordinary_stays d c (cmd.Unseal number) p e = unseal_stays d c number p e
ordinary_stays d c x p e = absurd cc

holder_stays : (d : Desk) (c : Conn) (x : Command) (p : Plan) → from_holder d c x ≡ Ok p → Stays d (itself c) p
holder_stays d c (cmd.PolicySet is) p e = policy_stays d (itself c) (owner.Conn c.id) is p e
holder_stays d c x p e = absurd cc

pub kind_stays : (d : Desk) (c : Conn) (k : Kind) (x : Command) (p : Plan) → from_kind d c k x ≡ Ok p → Stays d (itself c) p
kind_stays d c Ordinary x p e = ordinary_stays d c x p e
kind_stays d c Activator x p e = absurd cc
kind_stays d c Holder x p e = holder_stays d c x p e
kind_stays d c Monitor x p e = absurd cc
