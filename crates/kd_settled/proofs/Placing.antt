-- Where the parts of every plan are: at the seats of connections that are live after it, but for
-- those that raise and close.
use Rattle.std.proofs.Common.{◌≡◌, ℕ, ◌+◌, Bool, true, false, cond, List, [], ◌∷◌, ◌++◌, length, map, Option, Some, None, Ok, Err, Result, refl, sym, ap, ◌∙◌}
use Rattle.std.specs.Prelude.{◌==◌, ◌||◌, ◌&&◌, not, filter, max, option_map, unwrap_or}
use Rattle.std.specs.List.{AllByRecursion}
use Rattle.std.proofs.lemmas.Bool.{eqb-true}
use Rattle.kd_types.specs.Flags.{has_bits}
use Rattle.kd_types.specs.declared.creds.Creds.{Creds}
use Rattle.kd_types.specs.declared.creds.Kind.{Kind}
use Rattle.kd_types.specs.declared.creds.Kind.TheVariants.{Ordinary, Activator, Holder, Monitor}
use Rattle.kd_types.specs.declared.flags.ListFlags.{ListFlags}
use Rattle.kd_types.specs.declared.flags.NameFlags.{NameFlags}
use Rattle.kd_types.specs.declared.refusal.Refusal.{Refusal}
use Rattle.kd_types.specs.declared.refusal.Refusal.TheVariants.{AlreadyOwned, BadName, NameTaken, TooMany}
use Rattle.kd_model.specs.Words.{but_those, first, first_that_holds, some_of}
use Rattle.kd_model.proofs.Lists.{all_follow, all_of_append, all_of_filter, all_of_found, found_passes}
use Rattle.kd_model.proofs.Truth.{not_ok}
use Rattle.kd_name.specs.Names.{is_name}
use Rattle.kd_wire.specs.declared.command.Command.{Command}
use Rattle.kd_wire.specs.declared.command.Command.TheVariants as cmd
use Rattle.kd_wire.specs.declared.item.WireItem.{WireItem}
use Rattle.kd_wire.specs.declared.reply.Reply.{Reply}
use Rattle.kd_wire.specs.declared.reply.Reply.TheVariants as reply
use Rattle.kd_policy.specs.declared.owner.Owner.{Owner}
use Rattle.kd_policy.specs.declared.owner.Owner.TheVariants as owner
use Rattle.kd_policy.specs.Policy.{after_put, put_refusal}
use Rattle.kd_registry.specs.declared.claim.Claim.{Claim}
use Rattle.kd_registry.specs.declared.claim.Verdict.{Verdict}
use Rattle.kd_registry.specs.declared.claim.Verdict.TheVariants as verdict
use Rattle.kd_registry.specs.Claims.{allows, asked, head, is_on, is_over, is_placeholder, judged, ranks}
use Rattle.kd_match.specs.Rules.{remove_refusal, without_rules}
use Rattle.kd_seal.specs.Book.{seal_answer, unseal_answer, unsealed, with_seal}
use Rattle.kd_replies.specs.declared.request.Request.{Request}
use Rattle.kd_replies.specs.Requests.{due, is_due}
use Rattle.kd_acts.specs.State.{Visit, close, drain, offer, post, raise, settle}
use Rattle.kd_commands.specs.declared.conn.Conn.{Conn}
use Rattle.kd_commands.specs.declared.sent.Sent.{Sent}
use Rattle.kd_commands.specs.declared.who.Who.{Who}
use Rattle.kd_commands.specs.declared.who.WhoKind.{WhoKind}
use Rattle.kd_commands.specs.declared.who.WhoKind.TheVariants as who
use Rattle.kd_commands.specs.State.{Desk, conn_of, has_id, has_seat, unblocked}
use Rattle.kd_commands.specs.Audience.{Subject, owner_change, reply_timeout}
use Rattle.kd_commands.specs.Endpoints.{endpoint_make, endpoint_refusals}
use Rattle.kd_commands.specs.Hello.{Asked, arrival, first_owner, hello, hello_plan, hello_refusals, newcomer, with_newcomer}
use Rattle.kd_commands.specs.Items.{entries_in}
use Rattle.kd_commands.specs.Leaving.{byebye, close_conn, close_endpoint, closing, leave, leaving_notices, on_endpoint, without_conns, without_endpoint}
use Rattle.kd_commands.specs.Matches.{match_add, match_refusals, match_remove, with_rule_of}
use Rattle.kd_commands.specs.NameList.{name_list}
use Rattle.kd_commands.specs.Names.{acquire_plan, acquire_refusals, activator_in, handover, name_acquire, name_release, release_refusals, seat_of_id, with_claim, without_claim}
use Rattle.kd_commands.specs.Plans.{Part, Plan, itself, known, notices, quiet, unless, unless_refused}
use Rattle.kd_commands.specs.Policy.{policy_set}
use Rattle.kd_commands.specs.Seals.{seal, unseal}
use Rattle.kd_commands.specs.Send.{send, send_parts, send_refusals}
use Rattle.kd_commands.specs.Step.{from_conn, from_fresh, from_gone, from_holder, from_keeper, from_kind, from_old, from_ordinary, plan}
use Rattle.kd_commands.specs.Tick.{tick}
use Rattle.kd_commands.proofs.Staying.{of_given, of_unless, planned}
use Rattle.kd_settled.specs.Owners.{lives, may_claim}
use Rattle.kd_settled.specs.Room.{IsAtHome}
use Rattle.kd_settled.specs.Settled.{IsSettled}
use Rattle.kd_settled.proofs.Audiences.{AtSeat, AtSeats, Sits, each_sits, notices_at, send_at}
use Rattle.kd_settled.proofs.Living.{lives_found}
use Rattle.kd_settled.proofs.Settling.{of_unrefused}

-- a part that neither raises nor closes is at the seat of one of these
abbrev pub IsPlacedAt : List Conn → ℕ → Visit → Type 0
IsPlacedAt cs seat (raise size) = Unit {0}
IsPlacedAt cs seat (close force) = Unit {0}
IsPlacedAt cs seat _ = some_of (has_seat seat) cs ≡ true

abbrev pub Placed : Plan → Type 0
Placed p = AllByRecursion (λ (q : Part). IsPlacedAt p.next.conns q.seat q.act) p.parts

at_one : (cs : List Conn) (seat : ℕ) (v : Visit) → some_of (has_seat seat) cs ≡ true → IsPlacedAt cs seat v
at_one cs seat (raise size) h = tt
at_one cs seat (close force) h = tt
at_one cs seat (offer user len source must content) h = h
at_one cs seat (post image) h = h
at_one cs seat drain h = h
at_one cs seat (settle images) h = h

abbrev ArePlaced : List Conn → List Part → Type 0
ArePlaced cs ps = AllByRecursion (λ (q : Part). IsPlacedAt cs q.seat q.act) ps

at_all : (cs : List Conn) (ps : List Part) → AtSeats cs ps → ArePlaced cs ps
at_all cs ps a = all_follow (AtSeat cs) (λ (q : Part). IsPlacedAt cs q.seat q.act) ps (λ q h. at_one cs q.seat q.act h) a

told_placed : (after : Desk) (ss : List Subject) → ArePlaced after.conns (notices after ss)
told_placed after ss = at_all after.conns (notices after ss) (notices_at after ss)

-- ---- an activator whose place is taken

all_head : (P : Claim → Type 0) (xs : List Claim) (o : Claim) → AllByRecursion P xs → head xs ≡ Some o → P o
all_head P [] o a e = absurd cc
all_head P (x ∷ xs) o a e = let one : x ≡ o = cc in rw (sym one) a.0

-- it has the first claim on the name
taken_first : (id : ℕ) (flags : NameFlags) (over : Bool) (mine : List Claim) (v : Verdict) (a : ℕ) → judged id flags over mine ≡ Ok v → activator_in v ≡ Some a → (o : Claim) × (head mine ≡ Some o) × (o.id ≡ a)
taken_first id flags true [] v a e h = absurd (not_ok e)
taken_first id flags false [] v a e h = absurd (let same : verdict.Owner 0 None ≡ v = cc in let never : activator_in (verdict.Owner 0 None) ≡ Some a = ap activator_in same ∙ h in cc)
taken_first id flags over (o ∷ cs) v a e h = go (o.id == id) over (is_placeholder o) (allows o && has_bits flags.0 1) (has_bits flags.0 4) e
  where
    go : (b1 b2 b3 b4 b5 : Bool)
        → unwrap_or (first_that_holds (
        (b1, Err AlreadyOwned) ∷ (b2, Err (TooMany 64)) ∷ (b3, Ok (verdict.Owner o.id (Some o.id))) ∷ (b4, Ok (verdict.Owner o.id None)) ∷ (b5, Ok verdict.Queued) ∷ [])) (Err NameTaken) ≡ Ok v
        → (x : Claim) × (head (o ∷ cs) ≡ Some x) × (x.id ≡ a)
    go true b2 b3 b4 b5 t = absurd (not_ok t)
    go false true b3 b4 b5 t = absurd (not_ok t)
    go false false true b4 b5 t =
        let same : verdict.Owner o.id (Some o.id) ≡ v = cc in
        let its : activator_in (verdict.Owner o.id (Some o.id)) ≡ Some a = ap activator_in same ∙ h in
        (o, refl, cc)
    go false false false true b5 t = absurd (let same : verdict.Owner o.id None ≡ v = cc in let never : activator_in (verdict.Owner o.id None) ≡ Some a = ap activator_in same ∙ h in cc)
    go false false false false true t = absurd (let same : verdict.Queued ≡ v = cc in let never : activator_in verdict.Queued ≡ Some a = ap activator_in same ∙ h in cc)
    go false false false false false t = absurd (not_ok t)

-- and sits on a seat
activator_sits :
    (d : Desk) (c : Conn) (n : List ℕ) (flags : NameFlags) (v : Verdict) (a : ℕ) → IsSettled d → asked d.registry c.id n flags ≡ Ok v → activator_in v ≡ Some a
    → some_of (has_seat (seat_of_id d a)) d.conns ≡ true
activator_sits d c n flags v a s e h = named (is_name n) e
  where
    sits : (o : Claim) → lives (may_claim o) d.conns o.id ≡ true → o.id ≡ a → some_of (has_seat (seat_of_id d a)) d.conns ≡ true
    sits o live same =
        let f = lives_found (may_claim o) d.conns o.id s.seated.own_ids live in
        let found : conn_of d a ≡ Some f.0 = ap (conn_of d) (sym same) ∙ f.1 in
        ap (λ x. some_of (has_seat (unwrap_or (option_map (λ (k : Conn). k.seat) x) 0)) d.conns) found ∙ all_of_found (Sits d.conns) (has_id a) d.conns f.0 (each_sits d.conns) found

    named : (b : Bool) → cond b (judged c.id flags (is_over d.registry c.id n) (ranks d.registry n)) (Err BadName) ≡ Ok v → some_of (has_seat (seat_of_id d a)) d.conns ≡ true
    named true t =
        let o = taken_first c.id flags (is_over d.registry c.id n) (ranks d.registry n) v a t h in
        sits o.0 (all_head (λ (y : Claim). lives (may_claim y) d.conns y.id ≡ true) (ranks d.registry n) o.0 (all_of_filter (λ (y : Claim). lives (may_claim y) d.conns y.id ≡ true) (is_on n) d.registry s.claims.owned) o.1) o.2
    named false t = absurd (not_ok t)

handed_placed :
    (d : Desk) (c : Conn) (o : Option ℕ) → some_of (has_seat c.seat) d.conns ≡ true
    → ((a : ℕ) → o ≡ Some a → some_of (has_seat (seat_of_id d a)) d.conns ≡ true) → ArePlaced d.conns (handover d c o)
handed_placed d c None sits its = tt
handed_placed d c (Some a) sits its = (its a refl, (sits, tt))

-- ---- names

acquired_placed :
    (d : Desk) (c : Conn) (flags : NameFlags) (n : List ℕ) (v : Verdict) → IsSettled d → some_of (has_seat c.seat) d.conns ≡ true
    → asked d.registry c.id n flags ≡ Ok v → Placed (acquire_plan d c flags n v)
unfolding with_claim
acquired_placed d c flags n v s sits e =
    let after : Desk = with_claim d c.id flags n v in
    let told : List Subject = owner_change d.registry after.registry n in
    all_of_append (λ (q : Part). IsPlacedAt d.conns q.seat q.act) (handover d c (activator_in v)) (notices after told)
    (handed_placed d c (activator_in v) sits (λ a h. activator_sits d c n flags v a s e h)) (told_placed after told)

acquire_placed :
    (d : Desk) (c : Conn) (flags : NameFlags) (n : List ℕ) (p : Plan) → IsSettled d → some_of (has_seat c.seat) d.conns ≡ true
    → name_acquire d c flags n ≡ Ok p → Placed p
unfolding name_acquire
acquire_placed d c flags n p s sits e = go (first_that_holds (acquire_refusals d c n)) e
  where
    answered : Result Verdict Refusal → Result Plan Refusal
    answered r = elim r [ Err why ↦ Err why | Ok v ↦ Ok (acquire_plan d c flags n v) ]

    asking : (r : Result Verdict Refusal) → asked d.registry c.id n flags ≡ r → answered r ≡ planned p → Placed p
    asking (Err why) is h = absurd cc
    asking (Ok v) is h = of_given Placed (acquire_plan d c flags n v) p h (acquired_placed d c flags n v s sits is)

    go : (o : Option Refusal) → (elim o [ Some r ↦ Err r | None ↦ answered (asked d.registry c.id n flags) ]) ≡ planned p → Placed p
    go None h = asking (asked d.registry c.id n flags) refl h
    go (Some r) h = absurd cc

release_placed : (d : Desk) (c : Conn) (n : List ℕ) (p : Plan) → name_release d c n ≡ Ok p → Placed p
unfolding name_release without_claim
release_placed d c n p e = of_unless Placed (release_refusals d c n) _ p e (told_placed (without_claim d c.id n) (owner_change d.registry (without_claim d c.id n).registry n))

-- ---- plans that visit nobody

seal_placed : (d : Desk) (c : Conn) (bytes : List ℕ) (p : Plan) → seal d c bytes ≡ Ok p → Placed p
unfolding seal
seal_placed d c bytes p e = go (seal_answer d.seals c.id (length bytes)) e
  where
    after : Desk
    after = record d { seals = with_seal d.seals c.id bytes }

    go : (r : Result ℕ Refusal) → (elim r [ Err why ↦ Err why | Ok n ↦ Ok (quiet c (reply.Seal n) after) ]) ≡ planned p → Placed p
    go (Err why) h = absurd cc
    go (Ok n) h = of_given Placed (quiet c (reply.Seal n) after) p h tt

unseal_placed : (d : Desk) (c : Conn) (number : ℕ) (p : Plan) → unseal d c number ≡ Ok p → Placed p
unfolding unseal
unseal_placed d c number p e = go (unseal_answer d.seals c.id number) e
  where
    after : Desk
    after = record d { seals = unsealed d.seals c.id number }

    go : (r : Result (Unit {0}) Refusal) → (elim r [ Err why ↦ Err why | Ok x ↦ Ok (quiet c reply.Unseal after) ]) ≡ planned p → Placed p
    go (Err why) h = absurd cc
    go (Ok x) h = of_given Placed (quiet c reply.Unseal after) p h tt

match_add_placed : (d : Desk) (c : Conn) (replace : Bool) (cookie : ℕ) (is : List WireItem) (p : Plan) → match_add d c replace cookie is ≡ Ok p → Placed p
unfolding match_add
match_add_placed d c replace cookie is p e = of_unless Placed (match_refusals d c replace cookie is) (quiet c reply.MatchAdd (with_rule_of d c replace cookie is)) p e tt

match_remove_placed : (d : Desk) (c : Conn) (cookie : ℕ) (p : Plan) → match_remove d c cookie ≡ Ok p → Placed p
unfolding match_remove
match_remove_placed d c cookie p e =
    of_unrefused Placed (remove_refusal d.rules c.id cookie) (quiet c reply.MatchRemove (record d { rules = without_rules d.rules c.id cookie })) p e (λ none. tt)

policy_placed : (d : Desk) (m : WhoKind) (o : Owner) (is : List WireItem) (p : Plan) → policy_set d m o is ≡ Ok p → Placed p
unfolding policy_set
policy_placed d m o is p e =
    of_unrefused Placed (put_refusal o (entries_in is))
    (record { parts = []; reply = reply.PolicySet; next = record d { policy = after_put d.policy o (entries_in is) }; becomes = m }) p e (λ none. tt)

-- ---- messages

send_placed : (d : Desk) (c : Conn) (m : Sent) (p : Plan) → send d c m ≡ Ok p → Placed p
unfolding send
send_placed d c m p e = of_unless Placed (send_refusals d c m) _ p e (at_all d.conns (send_parts d c m) (send_at d c m))

-- ---- by kind

ordinary_placed : (d : Desk) (c : Conn) (x : Command) (p : Plan) → IsSettled d → some_of (has_seat c.seat) d.conns ≡ true → from_ordinary d c x ≡ Ok p → Placed p
ordinary_placed d c (cmd.Send flags priority dst source payload_type cookie last is) p s sits e =
    let m : Sent = record { flags = flags; priority = priority; dst = dst; payload_type = payload_type; cookie = cookie; last = last; items = is } in
    send_placed d c m p e
ordinary_placed d c (cmd.NameAcquire flags n) p s sits e = acquire_placed d c flags n p s sits e
ordinary_placed d c (cmd.NameRelease n) p s sits e = release_placed d c n p e
ordinary_placed d c (cmd.MatchAdd replace cookie is) p s sits e = match_add_placed d c replace cookie is p e
ordinary_placed d c (cmd.MatchRemove cookie) p s sits e = match_remove_placed d c cookie p e
ordinary_placed d c (cmd.Seal bytes) p s sits e = seal_placed d c bytes p e
ordinary_placed d c (cmd.Unseal number) p s sits e = unseal_placed d c number p e
ordinary_placed d c x p s sits e = absurd cc

holder_placed : (d : Desk) (c : Conn) (x : Command) (p : Plan) → from_holder d c x ≡ Ok p → Placed p
holder_placed d c (cmd.PolicySet is) p e = policy_placed d (itself c) (owner.Conn c.id) is p e
holder_placed d c x p e = absurd cc

kind_placed : (d : Desk) (c : Conn) (k : Kind) (x : Command) (p : Plan) → IsSettled d → some_of (has_seat c.seat) d.conns ≡ true → from_kind d c k x ≡ Ok p → Placed p
kind_placed d c Ordinary x p s sits e = ordinary_placed d c x p s sits e
kind_placed d c Activator x p s sits e = absurd cc
kind_placed d c Holder x p s sits e = holder_placed d c x p e
kind_placed d c Monitor x p s sits e = absurd cc

-- ---- whoever comes and goes

closed_placed : (cs : List Conn) (force : Bool) (gone : List Conn) → ArePlaced cs (map (closing force) gone)
closed_placed cs force [] = tt
closed_placed cs force (g ∷ gs) = (tt, closed_placed cs force gs)

left_placed : (d : Desk) (r : Reply) (force : Bool) (gone : List Conn) (after : Desk) → Placed (leave d r force gone after)
left_placed d r force gone after =
    all_of_append (λ (q : Part). IsPlacedAt after.conns q.seat q.act) (map (closing force) gone) (notices after (leaving_notices d gone)) (closed_placed after.conns force gone)
    (told_placed after (leaving_notices d gone))

byebye_placed : (d : Desk) (c : Conn) → Placed (byebye d c)
unfolding byebye
byebye_placed d c = left_placed d reply.Byebye false (c ∷ []) (without_conns d (c.id ∷ []))

close_placed : (d : Desk) (c : Conn) → Placed (close_conn d c)
unfolding close_conn
close_placed d c = left_placed d reply.Close true (c ∷ []) (without_conns d (c.id ∷ []))

ended_placed : (d : Desk) (e : ℕ) → Placed (close_endpoint d e)
unfolding close_endpoint
ended_placed d e = left_placed d reply.Close true (on_endpoint d e) (without_endpoint d e)

hello_placed : (d : Desk) (creds : Creds) (a : Asked) (p : Plan) → hello d creds a ≡ Ok p → Placed p
unfolding hello
hello_placed d creds a p e =
    let c : Conn = newcomer d creds a in
    of_unless Placed (hello_refusals d c a) (hello_plan d c a) p e (tt, told_placed (with_newcomer d c a) (arrival c ++ first_owner d c a))

made_placed : (d : Desk) (creds : Creds) (is : List WireItem) (p : Plan) → endpoint_make d creds is ≡ Ok p → Placed p
unfolding endpoint_make
made_placed d creds is p e = of_unless Placed (endpoint_refusals d creds is) _ p e tt

list_placed : (d : Desk) (c : Conn) (flags : ListFlags) → Placed (name_list d c flags)
unfolding name_list
list_placed d c flags = tt

tick_placed : (d : Desk) (c : Conn) (moment : ℕ) → Placed (tick d c moment)
unfolding tick
tick_placed d c moment =
    let now : ℕ = max d.moment moment in
    told_placed (record d { moment = now; requests = but_those (is_due now) d.requests }) (map (λ (q : Request). reply_timeout q.asker q.cookie) (due now d.requests))

conn_placed : (d : Desk) (c : Conn) (x : Command) (p : Plan) → IsSettled d → some_of (has_seat c.seat) d.conns ≡ true → from_conn d c x ≡ Ok p → Placed p
conn_placed d c cmd.Byebye p s sits e = of_given Placed (byebye d c) p e (byebye_placed d c)
conn_placed d c cmd.Close p s sits e = of_given Placed (close_conn d c) p e (close_placed d c)
conn_placed d c (cmd.NameList flags) p s sits e = of_given Placed (name_list d c flags) p e (list_placed d c flags)
conn_placed d c (cmd.Tick moment) p s sits e = of_given Placed (tick d c moment) p e (tick_placed d c moment)
conn_placed d c x p s sits e = kind_placed d c c.kind x p s sits e

-- ---- any caller

fresh_placed : (d : Desk) (creds : Creds) (x : Command) (p : Plan) → from_fresh d creds x ≡ Ok p → Placed p
fresh_placed d creds (cmd.Hello flags size send_mask receive_mask is) p e =
    let a : Asked = record { flags = flags; size = size; send_mask = send_mask; receive_mask = receive_mask; items = is } in
    hello_placed d creds a p e
fresh_placed d creds (cmd.EndpointMake is) p e = made_placed d creds is p e
fresh_placed d creds (cmd.Enter new) p e = of_given Placed (known reply.Enter d) p e tt
fresh_placed d creds cmd.Close p e = of_given Placed (known reply.Close d) p e tt
fresh_placed d creds x p e = absurd cc

gone_placed : (d : Desk) (seat : ℕ) (x : Command) (p : Plan) → from_gone d seat x ≡ Ok p → Placed p
gone_placed d seat cmd.Byebye p e = of_given Placed (known reply.Byebye (unblocked seat d)) p e tt
gone_placed d seat cmd.Close p e = of_given Placed (known reply.Close (unblocked seat d)) p e tt
gone_placed d seat x p e = absurd cc

caller_placed : (d : Desk) (id seat : ℕ) (x : Command) (p : Plan) → IsSettled d → (elim (conn_of d id) [ Some c ↦ from_conn d c x | None ↦ from_gone d seat x ]) ≡ planned p → Placed p
caller_placed d id seat x p s e = go (conn_of d id) refl e
  where
    go : (o : Option Conn) → conn_of d id ≡ o → (elim o [ Some c ↦ from_conn d c x | None ↦ from_gone d seat x ]) ≡ planned p → Placed p
    go None gone h = gone_placed d seat x p h
    go (Some c) live h = conn_placed d c x p s (all_of_found (Sits d.conns) (has_id id) d.conns c (each_sits d.conns) live) h

keeper_placed : (d : Desk) (e : ℕ) (x : Command) (p : Plan) → from_keeper d e x ≡ Ok p → Placed p
keeper_placed d e (cmd.PolicySet is) p h = policy_placed d (who.Keeper e) (owner.Endpoint e) is p h
keeper_placed d e cmd.Close p h = of_given Placed (close_endpoint d e) p h (ended_placed d e)
keeper_placed d e x p h = absurd cc

pub placed : (d : Desk) (k : Kind) (w : Who) (x : Command) (p : Plan) → IsSettled d → IsAtHome d k w.member → plan d w x ≡ Ok p → Placed p
unfolding plan
placed d k w x p s home e = go w.member home e
  where
    go : (m : WhoKind) → IsAtHome d k m
        → (elim m [
          | who.Fresh ↦ from_fresh d w.creds x
          | who.Conn id s ↦ elim (conn_of d id) [ Some c ↦ from_conn d c x | None ↦ from_gone d s x ]
          | who.Keeper n ↦ from_keeper d n x
          | who.Old s ↦ from_old d s x
        ]) ≡ planned p
        → Placed p
    go who.Fresh home h = fresh_placed d w.creds x p h
    go (who.Conn id seat) home h = caller_placed d id seat x p s h
    go (who.Keeper n) home h = keeper_placed d n x p h
    go (who.Old o) home h = absurd home
