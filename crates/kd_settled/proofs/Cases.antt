-- The plans that there are, one by one: what holds of each of these holds of every plan.
use Rattle.std.proofs.Common.{◌≡◌, ℕ, ℤ, Bool, false, List, [], length, Option, Some, None, Ok, Err, Result, refl, sym, ap, ◌∙◌}
use Rattle.std.specs.List.{AllByRecursion}
use Rattle.std.proofs.lemmas.Bool.{eqb-true}
use Rattle.kd_types.specs.declared.creds.Creds.{Creds}
use Rattle.kd_types.specs.declared.creds.Kind.{Kind}
use Rattle.kd_types.specs.declared.creds.Kind.TheVariants.{Ordinary, Activator, Holder, Monitor}
use Rattle.kd_types.specs.declared.flags.HelloFlags.{HelloFlags}
use Rattle.kd_types.specs.declared.flags.ListFlags.{ListFlags}
use Rattle.kd_types.specs.declared.flags.NameFlags.{NameFlags}
use Rattle.kd_types.specs.declared.flags.SendFlags.{SendFlags}
use Rattle.kd_types.specs.declared.refusal.Refusal.{Refusal}
use Rattle.kd_model.specs.Words.{first_that_holds}
use Rattle.kd_model.proofs.Lists.{found_passes}
use Rattle.kd_wire.specs.declared.command.Command.{Command}
use Rattle.kd_wire.specs.declared.command.Command.TheVariants as cmd
use Rattle.kd_wire.specs.declared.item.WireItem.{WireItem}
use Rattle.kd_wire.specs.declared.reply.Reply.{Reply}
use Rattle.kd_wire.specs.declared.reply.Reply.TheVariants as reply
use Rattle.kd_policy.specs.declared.owner.Owner.{Owner}
use Rattle.kd_policy.specs.declared.owner.Owner.TheVariants as owner
use Rattle.kd_policy.specs.Policy.{after_put, put_refusal}
use Rattle.kd_registry.specs.declared.claim.Verdict.{Verdict}
use Rattle.kd_registry.specs.Claims.{asked}
use Rattle.kd_match.specs.Rules.{remove_refusal, without_rules}
use Rattle.kd_seal.specs.Book.{seal_answer, unseal_answer, unsealed, with_seal}
use Rattle.kd_commands.specs.declared.conn.Conn.{Conn}
use Rattle.kd_commands.specs.declared.sent.Sent.{Sent}
use Rattle.kd_commands.specs.declared.who.Who.{Who}
use Rattle.kd_commands.specs.declared.who.WhoKind.{WhoKind}
use Rattle.kd_commands.specs.declared.who.WhoKind.TheVariants as who
use Rattle.kd_commands.specs.State.{Desk, conn_of, has_id, unblocked}
use Rattle.kd_commands.specs.Audience.{owner_change}
use Rattle.kd_commands.specs.Endpoints.{endpoint_make, endpoint_refusals, next_endpoint, with_endpoint}
use Rattle.kd_commands.specs.Hello.{Asked, hello, hello_plan, hello_refusals, newcomer}
use Rattle.kd_commands.specs.Items.{entries_in}
use Rattle.kd_commands.specs.Leaving.{byebye, close_conn, close_endpoint}
use Rattle.kd_commands.specs.Matches.{match_add, match_refusals, match_remove, with_rule_of}
use Rattle.kd_commands.specs.NameList.{name_list}
use Rattle.kd_commands.specs.Names.{acquire_plan, acquire_refusals, name_acquire, name_release, release_refusals, without_claim}
use Rattle.kd_commands.specs.Plans.{Part, Plan, announced, itself, known, quiet}
use Rattle.kd_commands.specs.Policy.{policy_set}
use Rattle.kd_commands.specs.Seals.{seal, unseal}
use Rattle.kd_commands.specs.Send.{requests_after, send, send_parts, send_refusals}
use Rattle.kd_commands.specs.Step.{from_conn, from_fresh, from_gone, from_holder, from_keeper, from_kind, from_old, from_ordinary, plan}
use Rattle.kd_commands.specs.Tick.{tick}
use Rattle.kd_commands.proofs.Staying.{of_given, of_unless, planned}
use Rattle.kd_settled.proofs.Senders.{none_hold}
use Rattle.kd_settled.proofs.Settling.{of_unrefused}

-- none of the tests holds
abbrev pub NoneHold : List (Bool × Refusal) → Type 0
NoneHold ts = AllByRecursion (λ (t : Bool × Refusal). t.0 ≡ false) ts

abbrev pub asked_by : HelloFlags → ℕ → ℕ → ℕ → List WireItem → Asked
asked_by flags size send_mask receive_mask is = record {
  flags = flags;
  size = size;
  send_mask = send_mask;
  receive_mask = receive_mask;
  items = is;
}

abbrev pub sent_by : SendFlags → ℤ → ℕ → ℕ → ℕ → ℕ → List WireItem → Sent
sent_by flags priority dst payload_type cookie last is = record {
  flags = flags;
  priority = priority;
  dst = dst;
  payload_type = payload_type;
  cookie = cookie;
  last = last;
  items = is;
}

abbrev pub plan_of : List Part → Reply → Desk → WhoKind → Plan
plan_of ps r after m = record { parts = ps; reply = r; next = after; becomes = m }

-- what holds of each plan of a desk for a caller
pub record Cases (d : Desk) (m : WhoKind) (M : Command → Plan → Type 0) : Type 0 where
  pub enters : (new : Creds) → M (cmd.Enter new) (known reply.Enter d)
  pub closes : M cmd.Close (known reply.Close d)
  pub comes :
      (creds : Creds) (flags : HelloFlags) (size send_mask receive_mask : ℕ) (is : List WireItem)
      → let a : Asked = asked_by flags size send_mask receive_mask is in
      NoneHold (hello_refusals d (newcomer d creds a) a) → M (cmd.Hello flags size send_mask receive_mask is) (hello_plan d (newcomer d creds a) a)
  pub makes :
      (creds : Creds) (is : List WireItem) → NoneHold (endpoint_refusals d creds is)
      → M (cmd.EndpointMake is) (plan_of [] reply.EndpointMake (with_endpoint d is) (who.Keeper (next_endpoint d)))
  pub says_byebye : (c : Conn) → conn_of d c.id ≡ Some c → M cmd.Byebye (byebye d c)
  pub says_close : (c : Conn) → conn_of d c.id ≡ Some c → M cmd.Close (close_conn d c)
  pub lists : (c : Conn) (flags : ListFlags) → M (cmd.NameList flags) (name_list d c flags)
  pub ticks : (c : Conn) (moment : ℕ) → M (cmd.Tick moment) (tick d c moment)
  pub sends :
      (c : Conn) (flags : SendFlags) (priority : ℤ) (dst source payload_type cookie last : ℕ) (is : List WireItem)
      → conn_of d c.id ≡ Some c → NoneHold (send_refusals d c (sent_by flags priority dst payload_type cookie last is))
      → M (cmd.Send flags priority dst source payload_type cookie last is)
      (plan_of (send_parts d c (sent_by flags priority dst payload_type cookie last is)) reply.Send (record d { requests = requests_after d c (sent_by flags priority dst payload_type cookie last is) }) (itself c))
  pub acquires :
      (c : Conn) (flags : NameFlags) (n : List ℕ) (v : Verdict) → conn_of d c.id ≡ Some c → asked d.registry c.id n flags ≡ Ok v
      → M (cmd.NameAcquire flags n) (acquire_plan d c flags n v)
  pub releases : (c : Conn) (n : List ℕ) → M (cmd.NameRelease n) (announced c reply.NameRelease (without_claim d c.id n) (owner_change d.registry (without_claim d c.id n).registry n))
  pub adds_rule :
      (c : Conn) (replace : Bool) (cookie : ℕ) (is : List WireItem) → M (cmd.MatchAdd replace cookie is) (quiet c reply.MatchAdd (with_rule_of d c replace cookie is))
  pub removes_rule : (c : Conn) (cookie : ℕ) → M (cmd.MatchRemove cookie) (quiet c reply.MatchRemove (record d { rules = without_rules d.rules c.id cookie }))
  pub seals : (c : Conn) (bytes : List ℕ) (n : ℕ) → M (cmd.Seal bytes) (quiet c (reply.Seal n) (record d { seals = with_seal d.seals c.id bytes }))
  pub unseals : (c : Conn) (number : ℕ) → M (cmd.Unseal number) (quiet c reply.Unseal (record d { seals = unsealed d.seals c.id number }))
  pub sets :
      (c : Conn) (is : List WireItem) → M (cmd.PolicySet is) (plan_of [] reply.PolicySet (record d { policy = after_put d.policy (owner.Conn c.id) (entries_in is) }) (itself c))
  pub keeps :
      (e : ℕ) (is : List WireItem) → m ≡ who.Keeper e
      → M (cmd.PolicySet is) (plan_of [] reply.PolicySet (record d { policy = after_put d.policy (owner.Endpoint e) (entries_in is) }) (who.Keeper e))
  pub ends : (e : ℕ) → m ≡ who.Keeper e → M cmd.Close (close_endpoint d e)
  pub learns_byebye : (seat : ℕ) → M cmd.Byebye (known reply.Byebye (unblocked seat d))
  pub learns_close : (seat : ℕ) → M cmd.Close (known reply.Close (unblocked seat d))

-- ---- so it holds of any

pub of_command :
    (d : Desk) (w : Who) (M : Command → Plan → Type 0) → Cases d w.member M → (x : Command) (p : Plan) → plan d w x ≡ Ok p → M x p
unfolding plan hello endpoint_make name_acquire seal unseal send name_release match_add match_remove policy_set
of_command d w M c x p e = go w.member refl e
  where
    fresh : (y : Command) → from_fresh d w.creds y ≡ planned p → M y p
    fresh (cmd.Hello flags size send_mask receive_mask is) h =
        let a : Asked = asked_by flags size send_mask receive_mask is in
        let one : Conn = newcomer d w.creds a in
        of_unless (M (cmd.Hello flags size send_mask receive_mask is)) (hello_refusals d one a) (hello_plan d one a) p h
        (c.comes w.creds flags size send_mask receive_mask is (none_hold (hello_refusals d one a) (hello_plan d one a) p h))
    fresh (cmd.EndpointMake is) h =
        of_unless (M (cmd.EndpointMake is)) (endpoint_refusals d w.creds is) _ p h (c.makes w.creds is (none_hold (endpoint_refusals d w.creds is) _ p h))
    fresh (cmd.Enter new) h = of_given (M (cmd.Enter new)) (known reply.Enter d) p h (c.enters new)
    fresh cmd.Close h = of_given (M cmd.Close) (known reply.Close d) p h c.closes
    fresh y h = absurd cc

    acquired : (k : Conn) (flags : NameFlags) (n : List ℕ) → conn_of d k.id ≡ Some k → name_acquire d k flags n ≡ planned p → M (cmd.NameAcquire flags n) p
    acquired k flags n live h = judging (first_that_holds (acquire_refusals d k n)) h
      where
        answered : Result Verdict Refusal → Result Plan Refusal
        answered r = elim r [ Err why ↦ Err why | Ok v ↦ Ok (acquire_plan d k flags n v) ]

        asking : (r : Result Verdict Refusal) → asked d.registry k.id n flags ≡ r → answered r ≡ planned p → M (cmd.NameAcquire flags n) p
        asking (Err why) is t = absurd cc
        asking (Ok v) is t = of_given (M (cmd.NameAcquire flags n)) (acquire_plan d k flags n v) p t (c.acquires k flags n v live is)

        judging : (o : Option Refusal) → (elim o [ Some r ↦ Err r | None ↦ answered (asked d.registry k.id n flags) ]) ≡ planned p → M (cmd.NameAcquire flags n) p
        judging None t = asking (asked d.registry k.id n flags) refl t
        judging (Some r) t = absurd cc

    sealed : (k : Conn) (bytes : List ℕ) → seal d k bytes ≡ planned p → M (cmd.Seal bytes) p
    sealed k bytes h = one (seal_answer d.seals k.id (length bytes)) h
      where
        one : (r : Result ℕ Refusal) → (elim r [ Err why ↦ Err why | Ok n ↦ Ok (quiet k (reply.Seal n) (record d { seals = with_seal d.seals k.id bytes })) ]) ≡ planned p → M (cmd.Seal bytes) p
        one (Err why) t = absurd cc
        one (Ok n) t = of_given (M (cmd.Seal bytes)) (quiet k (reply.Seal n) (record d { seals = with_seal d.seals k.id bytes })) p t (c.seals k bytes n)

    given_up : (k : Conn) (number : ℕ) → unseal d k number ≡ planned p → M (cmd.Unseal number) p
    given_up k number h = one (unseal_answer d.seals k.id number) h
      where
        one : (r : Result (Unit {0}) Refusal) → (elim r [ Err why ↦ Err why | Ok x ↦ Ok (quiet k reply.Unseal (record d { seals = unsealed d.seals k.id number })) ]) ≡ planned p → M (cmd.Unseal number) p
        one (Err why) t = absurd cc
        one (Ok x) t = of_given (M (cmd.Unseal number)) (quiet k reply.Unseal (record d { seals = unsealed d.seals k.id number })) p t (c.unseals k number)

    ordinary : (k : Conn) (y : Command) → conn_of d k.id ≡ Some k → from_ordinary d k y ≡ planned p → M y p
    ordinary k (cmd.Send flags priority dst source payload_type cookie last is) live h =
        let m : Sent = sent_by flags priority dst payload_type cookie last is in
        of_unless (M (cmd.Send flags priority dst source payload_type cookie last is)) (send_refusals d k m) _ p h
        (c.sends k flags priority dst source payload_type cookie last is live (none_hold (send_refusals d k m) _ p h))
    ordinary k (cmd.NameAcquire flags n) live h = acquired k flags n live h
    ordinary k (cmd.NameRelease n) live h = of_unless (M (cmd.NameRelease n)) (release_refusals d k n) _ p h (c.releases k n)
    ordinary k (cmd.MatchAdd replace cookie is) live h =
        of_unless (M (cmd.MatchAdd replace cookie is)) (match_refusals d k replace cookie is) _ p h (c.adds_rule k replace cookie is)
    ordinary k (cmd.MatchRemove cookie) live h =
        of_unrefused (M (cmd.MatchRemove cookie)) (remove_refusal d.rules k.id cookie) _ p h (λ none. c.removes_rule k cookie)
    ordinary k (cmd.Seal bytes) live h = sealed k bytes h
    ordinary k (cmd.Unseal number) live h = given_up k number h
    ordinary k y live h = absurd cc

    holder : (k : Conn) (y : Command) → from_holder d k y ≡ planned p → M y p
    holder k (cmd.PolicySet is) h = of_unrefused (M (cmd.PolicySet is)) (put_refusal (owner.Conn k.id) (entries_in is)) _ p h (λ none. c.sets k is)
    holder k y h = absurd cc

    of_kind : (k : Conn) (kind : Kind) (y : Command) → conn_of d k.id ≡ Some k → from_kind d k kind y ≡ planned p → M y p
    of_kind k Ordinary y live h = ordinary k y live h
    of_kind k Activator y live h = absurd cc
    of_kind k Holder y live h = holder k y h
    of_kind k Monitor y live h = absurd cc

    conn : (k : Conn) (y : Command) → conn_of d k.id ≡ Some k → from_conn d k y ≡ planned p → M y p
    conn k cmd.Byebye live h = of_given (M cmd.Byebye) (byebye d k) p h (c.says_byebye k live)
    conn k cmd.Close live h = of_given (M cmd.Close) (close_conn d k) p h (c.says_close k live)
    conn k (cmd.NameList flags) live h = of_given (M (cmd.NameList flags)) (name_list d k flags) p h (c.lists k flags)
    conn k (cmd.Tick moment) live h = of_given (M (cmd.Tick moment)) (tick d k moment) p h (c.ticks k moment)
    conn k y live h = of_kind k k.kind y live h

    gone : (seat : ℕ) (y : Command) → from_gone d seat y ≡ planned p → M y p
    gone seat cmd.Byebye h = of_given (M cmd.Byebye) (known reply.Byebye (unblocked seat d)) p h (c.learns_byebye seat)
    gone seat cmd.Close h = of_given (M cmd.Close) (known reply.Close (unblocked seat d)) p h (c.learns_close seat)
    gone seat y h = absurd cc

    keeper : (e : ℕ) (y : Command) → w.member ≡ who.Keeper e → from_keeper d e y ≡ planned p → M y p
    keeper e (cmd.PolicySet is) its h = of_unrefused (M (cmd.PolicySet is)) (put_refusal (owner.Endpoint e) (entries_in is)) _ p h (λ none. c.keeps e is its)
    keeper e cmd.Close its h = of_given (M cmd.Close) (close_endpoint d e) p h (c.ends e its)
    keeper e y its h = absurd cc

    old : (o : Option ℕ) (y : Command) → from_old d o y ≡ planned p → M y p
    old (Some seat) y h = gone seat y h
    old None cmd.Close h = of_given (M cmd.Close) (known reply.Close d) p h c.closes
    old None y h = absurd cc

    found : (id seat : ℕ) (o : Option Conn) → conn_of d id ≡ o → (elim o [ Some k ↦ from_conn d k x | None ↦ from_gone d seat x ]) ≡ planned p → M x p
    found id seat None is h = gone seat x h
    found id seat (Some k) is h =
        let same : k.id ≡ id = eqb-true k.id id (found_passes (has_id id) d.conns k is) in
        conn k x (ap (conn_of d) same ∙ is) h

    go : (m : WhoKind) → w.member ≡ m
        → (elim m [
          | who.Fresh ↦ from_fresh d w.creds x
          | who.Conn id s ↦ elim (conn_of d id) [ Some k ↦ from_conn d k x | None ↦ from_gone d s x ]
          | who.Keeper n ↦ from_keeper d n x
          | who.Old s ↦ from_old d s x
        ]) ≡ planned p
        → M x p
    go who.Fresh is h = fresh x h
    go (who.Conn id seat) is h = found id seat (conn_of d id) refl h
    go (who.Keeper n) is h = keeper n x is h
    go (who.Old o) is h = old o x h
