-- A settled desk stays so, whatever is planned.
use Rattle.std.proofs.Common.{◌≡◌, ℕ, ◌+◌, ◌<◌, Bool, true, false, cond, List, [], ◌∷◌, ◌++◌, length, map, Option, Some, None, Result, Ok, Err, refl, sym, ap, ◌∙◌, arith}
use Rattle.std.specs.Prelude.{◌==◌, ◌||◌, ◌&&◌, not, filter, max, is_some, is_none, nat_le, nat_lt, unwrap_or}
use Rattle.std.specs.List.{AllByRecursion}
use Rattle.std.proofs.lemmas.Bool.{and_parts, eq-eqb, eqb-true, leb-false, not-false, or_parts}
use Rattle.kd_types.specs.declared.creds.Creds.{Creds}
use Rattle.kd_types.specs.declared.creds.Kind.{Kind}
use Rattle.kd_types.specs.declared.creds.Kind.TheVariants.{Ordinary, Activator, Holder, Monitor}
use Rattle.kd_types.specs.declared.flags.NameFlags.{NameFlags}
use Rattle.kd_types.specs.declared.refusal.Refusal.{Refusal}
use Rattle.kd_types.specs.declared.refusal.Refusal.TheVariants.{BadName, NotPermitted, TooLong, TooMany}
use Rattle.kd_model.specs.Words.{but_those, first, first_that_holds, put_in_order, some_of, those}
use Rattle.kd_model.proofs.Lists.{all_follow, all_of_put, found_passes}
use Rattle.kd_name.specs.Names.{is_name}
use Rattle.kd_wire.specs.declared.command.Command.{Command}
use Rattle.kd_wire.specs.declared.command.Command.TheVariants as cmd
use Rattle.kd_wire.specs.declared.item.WireItem.{WireItem}
use Rattle.kd_wire.specs.declared.reply.Reply.{Reply}
use Rattle.kd_wire.specs.declared.reply.Reply.TheVariants as reply
use Rattle.kd_endpoint.specs.Labels.{Labels, after_add, after_remove, free_place}
use Rattle.kd_policy.specs.declared.owner.Owner.{Owner}
use Rattle.kd_policy.specs.declared.owner.Owner.TheVariants as owner
use Rattle.kd_policy.specs.Policy.{after_drop, after_put, put_refusal}
use Rattle.kd_registry.specs.declared.claim.Claim.{Claim}
use Rattle.kd_registry.specs.declared.claim.Verdict.{Verdict}
use Rattle.kd_registry.specs.Claims.{after_activator, asked, claim_of, is_claim_of, is_on, is_ordinary_claim, is_placeholder, ranks}
use Rattle.kd_match.specs.declared.rule.Rule.{Rule}
use Rattle.kd_match.specs.Rules.{is_named, remove_refusal, rules_left, rules_of, with_rule, without_rules}
use Rattle.kd_seal.specs.Book.{has_most, is_seal, is_seal_of, next_number, seal_answer, seal_refusal, unseal_answer, unsealed, with_seal}
use Rattle.kd_seal.specs.declared.seals.Counter.{Counter}
use Rattle.kd_seal.specs.declared.seals.TheConstants.{LONGEST, SEALS_OF_ONE}
use Rattle.kd_replies.specs.declared.request.Request.{Request}
use Rattle.kd_replies.specs.Requests.{is_due}
use Rattle.kd_commands.specs.declared.conn.Conn.{Conn}
use Rattle.kd_commands.specs.declared.sent.Sent.{Sent}
use Rattle.kd_commands.specs.declared.who.Who.{Who}
use Rattle.kd_commands.specs.declared.who.WhoKind.{WhoKind}
use Rattle.kd_commands.specs.declared.who.WhoKind.TheVariants as who
use Rattle.kd_commands.specs.State.{Desk, conn_of, has_id, is_activator, is_holder, is_ordinary, sits_before, unblocked}
use Rattle.kd_commands.specs.Items.{conditions_in, entries_in}
use Rattle.kd_commands.specs.Rights.{may_own}
use Rattle.kd_commands.specs.Plans.{Plan, announced, itself, known, quiet, unless, unless_refused}
use Rattle.kd_commands.specs.Names.{acquire_plan, acquire_refusals, activator_in, name_acquire, name_release, release_refusals, requests_handed, with_claim, without_claim}
use Rattle.kd_commands.specs.Matches.{match_add, match_refusals, match_remove, with_rule_of}
use Rattle.kd_commands.specs.Policy.{policy_set}
use Rattle.kd_commands.specs.Seals.{seal, unseal}
use Rattle.kd_commands.specs.Send.{requests_after, send, send_parts, send_refusals}
use Rattle.kd_commands.specs.Step.{from_holder, from_kind, from_ordinary}
use Rattle.kd_commands.proofs.Staying.{of_given, of_unless, planned}
use Rattle.kd_settled.specs.Owners.{has_policy, is_asked, is_there, lives, may_claim, owns_policy, sends}
use Rattle.kd_settled.specs.Settled.{AreClaims, AreReached, AreRequests, AreRules, AreSeals, IsOwnedPolicy, IsSettled}
use Rattle.kd_settled.proofs.Claims.{OwnOrdinary, acquired_claims, filtered_claims}
use Rattle.kd_settled.proofs.Endpoints.{put_owned}
use Rattle.kd_settled.proofs.Living.{found_is, found_lives}
use Rattle.kd_settled.proofs.Senders.{none_hold, requests_then}
use Rattle.kd_settled.proofs.Tables.{filtered_requests, filtered_rules, filtered_seals, one_rule, one_seal, renamed_requests}

-- what a desk's connections have
pub record HasTables (d : Desk) : Type 0 where
  pub reached : AreReached d.conns d.endpoints
  pub claims : AreClaims d.conns d.registry
  pub rules : AreRules d.conns d.rules.rules
  pub seals : AreSeals d.conns d.seals
  pub requests : AreRequests d.conns d.requests
  pub policy : IsOwnedPolicy d.conns d.endpoints d.policy

pub tables : (d : Desk) → IsSettled d → HasTables d
tables d s = record { reached = s.reached; claims = s.claims; rules = s.rules; seals = s.seals; requests = s.requests; policy = s.policy }

-- after a plan
abbrev pub Then : Plan → Type 0
Then p = HasTables p.next

pub of_unrefused : (M : Plan → Type 0) (o : Option Refusal) (q p : Plan) → unless_refused o q ≡ planned p → (o ≡ None → M q) → M p
of_unrefused M None q p e h = of_given M q p e (h refl)
of_unrefused M (Some r) q p e h = absurd cc

-- ---- messages

pub send_settled : (d : Desk) (c : Conn) (m : Sent) (p : Plan) → IsSettled d → lives sends d.conns c.id ≡ true → send d c m ≡ Ok p → Then p
unfolding send
send_settled d c m p s live e =
    let q : Plan = record { parts = send_parts d c m; reply = reply.Send; next = record d { requests = requests_after d c m }; becomes = itself c } in
    let after : HasTables q.next = record { reached = s.reached; claims = s.claims; rules = s.rules; seals = s.seals; requests = requests_then d c m s live (none_hold (send_refusals d c m) q p e); policy = s.policy } in
    of_unless Then (send_refusals d c m) q p e after

-- ---- names

-- all claims of an ordinary connection are ordinary ones
own_ordinary : (d : Desk) (c : Conn) → IsSettled d → conn_of d c.id ≡ Some c → c.kind ≡ Ordinary → OwnOrdinary d.registry c.id
own_ordinary d c s live kind = all_follow (λ (y : Claim). lives (may_claim y) d.conns y.id ≡ true) (λ (y : Claim). is_claim_of c.id y ≡ (y.id == c.id)) d.registry one s.claims.owned
  where
    one : (y : Claim) → lives (may_claim y) d.conns y.id ≡ true → is_claim_of c.id y ≡ (y.id == c.id)
    one y h = go (y.id == c.id) refl
      where
        mine : y.id ≡ c.id → (b : Bool) → (elim b [ true ↦ is_ordinary c.kind | false ↦ is_activator c.kind ]) ≡ true → b ≡ true
        mine same true t = refl
        mine same false t = absurd (let never : false ≡ true = sym (ap is_activator kind) ∙ t in cc)

        go : (b : Bool) → (y.id == c.id) ≡ b → (is_ordinary_claim y && b) ≡ b
        go true e =
            let same : y.id ≡ c.id = eqb-true y.id c.id e in
            let its : may_claim y c ≡ true = found_is (may_claim y) d.conns c.id c s.seated.own_ids live (rw same at h) in
            ap (λ b. b && true) (mine same (is_ordinary_claim y) its)
        go false e = never_both (is_ordinary_claim y)
          where
            never_both : (b : Bool) → (b && false) ≡ false
            never_both true = refl
            never_both false = refl

acquired_settled :
    (d : Desk) (c : Conn) (flags : NameFlags) (n : List ℕ) (v : Verdict) → IsSettled d → conn_of d c.id ≡ Some c → c.kind ≡ Ordinary
    → is_name n ≡ true → asked d.registry c.id n flags ≡ Ok v → Then (acquire_plan d c flags n v)
unfolding with_claim
acquired_settled d c flags n v s live kind named e = record {
  reached = s.reached;
  claims = acquired_claims d.conns d.registry c.id n flags v s.claims (own_ordinary d c s live kind)
      (found_lives (may_claim (claim_of c.id n flags)) (has_id c.id) d.conns c live (ap is_ordinary kind)) named e;
  rules = s.rules;
  seals = s.seals;
  requests = handed (activator_in v);
  policy = s.policy;
}
  where
    asks : lives is_asked d.conns c.id ≡ true
    asks = found_lives is_asked (has_id c.id) d.conns c live (ap (λ k. is_ordinary k || is_activator k) kind)

    handed : (o : Option ℕ) → AreRequests d.conns (requests_handed d.requests c.id o)
    handed None = s.requests
    handed (Some a) = renamed_requests d.conns d.requests a c.id s.requests asks

acquire_settled :
    (d : Desk) (c : Conn) (flags : NameFlags) (n : List ℕ) (p : Plan) → IsSettled d → conn_of d c.id ≡ Some c → c.kind ≡ Ordinary
    → name_acquire d c flags n ≡ Ok p → Then p
unfolding name_acquire
acquire_settled d c flags n p s live kind e = go (first_that_holds (acquire_refusals d c n)) refl e
  where
    answered : Result Verdict Refusal → Result Plan Refusal
    answered r = elim r [ Err why ↦ Err why | Ok v ↦ Ok (acquire_plan d c flags n v) ]

    is_named_well : first_that_holds (acquire_refusals d c n) ≡ None → is_name n ≡ true
    is_named_well h = one (is_name n) h
      where
        one : (b : Bool) → first_that_holds ((not b, BadName) ∷ (not (may_own d c n), NotPermitted) ∷ []) ≡ None → b ≡ true
        one true h = refl
        one false h = absurd cc

    asking : is_name n ≡ true → (r : Result Verdict Refusal) → asked d.registry c.id n flags ≡ r → answered r ≡ planned p → Then p
    asking named (Err why) is h = absurd cc
    asking named (Ok v) is h = of_given Then (acquire_plan d c flags n v) p h (acquired_settled d c flags n v s live kind named is)

    go : (o : Option Refusal) → first_that_holds (acquire_refusals d c n) ≡ o → (elim o [ Some r ↦ Err r | None ↦ answered (asked d.registry c.id n flags) ]) ≡ planned p → Then p
    go None is h = asking (is_named_well is) (asked d.registry c.id n flags) refl h
    go (Some r) is h = absurd cc

release_settled : (d : Desk) (c : Conn) (n : List ℕ) (p : Plan) → IsSettled d → name_release d c n ≡ Ok p → Then p
unfolding name_release without_claim
release_settled d c n p s e =
    of_unless Then (release_refusals d c n) _ p e (record { reached = s.reached; claims = filtered_claims d.conns d.registry (λ x. not (is_on n x && is_claim_of c.id x)) s.claims; rules = s.rules; seals = s.seals; requests = s.requests; policy = s.policy })

-- ---- rules

match_add_settled :
    (d : Desk) (c : Conn) (replace : Bool) (cookie : ℕ) (is : List WireItem) (p : Plan) → IsSettled d → lives sends d.conns c.id ≡ true
    → match_add d c replace cookie is ≡ Ok p → Then p
unfolding match_add match_refusals with_rule
match_add_settled d c replace cookie is p s live e =
    of_unless Then (match_refusals d c replace cookie is) (quiet c reply.MatchAdd (with_rule_of d c replace cookie is)) p e
    (record { reached = s.reached; claims = s.claims; rules = one_rule d.conns left x (fewer replace) live room; seals = s.seals; requests = s.requests; policy = s.policy })
  where
    left : List Rule
    left = rules_left d.rules.rules c.id cookie replace

    x : Rule
    x = record { id = c.id; cookie = cookie; conditions = conditions_in d.rules.size is }

    fewer : (b : Bool) → AreRules d.conns (rules_left d.rules.rules c.id cookie b)
    fewer true = filtered_rules d.conns d.rules.rules (λ r. not (is_named c.id cookie r)) s.rules
    fewer false = s.rules

    room : length (rules_of c.id left) < 64
    room = leb-false 64 (length (rules_of c.id left)) (none_hold (match_refusals d c replace cookie is) _ p e).1.1.1.0

match_remove_settled : (d : Desk) (c : Conn) (cookie : ℕ) (p : Plan) → IsSettled d → match_remove d c cookie ≡ Ok p → Then p
unfolding match_remove
match_remove_settled d c cookie p s e =
    of_unrefused Then (remove_refusal d.rules c.id cookie) (quiet c reply.MatchRemove (record d { rules = without_rules d.rules c.id cookie })) p e
    (λ none. record { reached = s.reached; claims = s.claims; rules = filtered_rules d.conns d.rules.rules (λ r. not (is_named c.id cookie r)) s.rules; seals = s.seals; requests = s.requests; policy = s.policy })

-- ---- policy

pub policy_settled : (d : Desk) (m : WhoKind) (o : Owner) (is : List WireItem) (p : Plan) → IsSettled d → owns_policy d.conns d.endpoints o ≡ true → policy_set d m o is ≡ Ok p → Then p
unfolding policy_set
policy_settled d m o is p s owns e =
    of_unrefused Then (put_refusal o (entries_in is))
    (record { parts = []; reply = reply.PolicySet; next = record d { policy = after_put d.policy o (entries_in is) }; becomes = m }) p e
    (λ none. record { reached = s.reached; claims = s.claims; rules = s.rules; seals = s.seals; requests = s.requests; policy = put_owned d.conns d.endpoints d.policy o (entries_in is) s.policy owns })

-- ---- sealed bytes

abbrev numbered : ℕ → Result ℕ Refusal
numbered n = Ok n

fewer_seals : (d : Desk) (id len n : ℕ) → seal_answer d.seals id len ≡ numbered n → has_most d.seals id ≡ false
fewer_seals d id len n e = go (nat_lt LONGEST len) (has_most d.seals id) e
  where
    go : (a b : Bool) → (elim (first_that_holds ((a, TooLong) ∷ (b, TooMany SEALS_OF_ONE) ∷ [])) [ Some why ↦ Err why | None ↦ Ok (next_number d.seals id) ]) ≡ numbered n → b ≡ false
    go true b h = absurd cc
    go false true h = absurd cc
    go false false h = refl

seal_settled : (d : Desk) (c : Conn) (bytes : List ℕ) (p : Plan) → IsSettled d → lives sends d.conns c.id ≡ true → seal d c bytes ≡ Ok p → Then p
unfolding seal
seal_settled d c bytes p s live e = go (seal_answer d.seals c.id (length bytes)) refl e
  where
    after : Desk
    after = record d { seals = with_seal d.seals c.id bytes }

    go : (r : Result ℕ Refusal) → seal_answer d.seals c.id (length bytes) ≡ r → (elim r [ Err why ↦ Err why | Ok n ↦ Ok (quiet c (reply.Seal n) after) ]) ≡ planned p → Then p
    go (Err why) is h = absurd cc
    go (Ok n) is h =
        of_given Then (quiet c (reply.Seal n) after) p h (record { reached = s.reached; claims = s.claims; rules = s.rules; seals = one_seal d.conns d.seals c.id bytes s.seals live (leb-false 16 (length (those (is_seal_of c.id) d.seals.seals)) (fewer_seals d c.id (length bytes) n is)); requests = s.requests; policy = s.policy })

unseal_settled : (d : Desk) (c : Conn) (number : ℕ) (p : Plan) → IsSettled d → unseal d c number ≡ Ok p → Then p
unfolding unseal
unseal_settled d c number p s e = go (unseal_answer d.seals c.id number) e
  where
    after : Desk
    after = record d { seals = unsealed d.seals c.id number }

    go : (r : Result (Unit {0}) Refusal) → (elim r [ Err why ↦ Err why | Ok x ↦ Ok (quiet c reply.Unseal after) ]) ≡ planned p → Then p
    go (Err why) h = absurd cc
    go (Ok x) h = of_given Then (quiet c reply.Unseal after) p h (record { reached = s.reached; claims = s.claims; rules = s.rules; seals = less; requests = s.requests; policy = s.policy })
      where
        fewer : AreSeals d.conns (record { seals = but_those (is_seal c.id number) d.seals.seals; counters = filter (λ (k : Counter). true) d.seals.counters })
        fewer = filtered_seals d.conns d.seals (λ x. not (is_seal c.id number x)) (λ k. true) s.seals

        less : AreSeals d.conns (unsealed d.seals c.id number)
        less = record { owned = fewer.owned; few = fewer.few; counted = s.seals.counted; own_counters = s.seals.own_counters }

-- ---- by kind

ordinary_settled :
    (d : Desk) (c : Conn) (x : Command) (p : Plan) → IsSettled d → conn_of d c.id ≡ Some c → c.kind ≡ Ordinary → from_ordinary d c x ≡ Ok p → Then p
ordinary_settled d c x p s live kind e = go x e
  where
    lives_here : lives sends d.conns c.id ≡ true
    lives_here = found_lives sends (has_id c.id) d.conns c live (ap is_ordinary kind)

    go : (y : Command) → from_ordinary d c y ≡ Ok p → Then p
    go (cmd.Send flags priority dst source payload_type cookie last is) h =
        let m : Sent = record { flags = flags; priority = priority; dst = dst; payload_type = payload_type; cookie = cookie; last = last; items = is } in
        send_settled d c m p s lives_here h
    go (cmd.NameAcquire flags n) h = acquire_settled d c flags n p s live kind h
    go (cmd.NameRelease n) h = release_settled d c n p s h
    go (cmd.MatchAdd replace cookie is) h = match_add_settled d c replace cookie is p s lives_here h
    go (cmd.MatchRemove cookie) h = match_remove_settled d c cookie p s h
    go (cmd.Seal bytes) h = seal_settled d c bytes p s lives_here h
    go (cmd.Unseal number) h = unseal_settled d c number p s h
    go y h = absurd cc

holder_settled :
    (d : Desk) (c : Conn) (x : Command) (p : Plan) → IsSettled d → conn_of d c.id ≡ Some c → c.kind ≡ Holder → from_holder d c x ≡ Ok p → Then p
holder_settled d c (cmd.PolicySet is) p s live kind e =
    policy_settled d (itself c) (owner.Conn c.id) is p s (found_lives has_policy (has_id c.id) d.conns c live (ap is_holder kind)) e
holder_settled d c x p s live kind e = absurd cc

pub kind_settled :
    (d : Desk) (c : Conn) (k : Kind) (x : Command) (p : Plan) → IsSettled d → conn_of d c.id ≡ Some c → c.kind ≡ k → from_kind d c k x ≡ Ok p → Then p
kind_settled d c Ordinary x p s live kind e = ordinary_settled d c x p s live kind e
kind_settled d c Activator x p s live kind e = absurd cc
kind_settled d c Holder x p s live kind e = holder_settled d c x p s live kind e
kind_settled d c Monitor x p s live kind e = absurd cc
