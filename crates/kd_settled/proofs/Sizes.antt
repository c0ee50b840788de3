-- The sizes of pools, along the visits of every plan and through every act.
use Rattle.std.proofs.Common.{◌≡◌, ℕ, Bool, true, false, cond, List, [], ◌∷◌, ◌++◌, map, Option, Some, None, refl, sym, ap, ◌∙◌}
use Rattle.std.specs.Prelude.{◌==◌, ◌&&◌, ◌||◌, not, filter, is_none, max, option_map, unwrap_or}
use Rattle.std.specs.List.{AllByRecursion, IsDistinct}
use Rattle.std.proofs.lemmas.Bool.{eq-eqb, eqb-true}
use Rattle.kd_types.specs.declared.creds.Creds.{Creds}
use Rattle.kd_types.specs.declared.creds.Kind.{Kind}
use Rattle.kd_types.specs.declared.flags.NameFlags.{NameFlags}
use Rattle.kd_types.specs.declared.refusal.Refusal.{Refusal}
use Rattle.kd_model.specs.Words.{but_those, contains, first, put_in_order, some_of}
use Rattle.kd_model.proofs.Lists.{all_follow, all_of_append}
use Rattle.kd_wire.specs.declared.command.Command.{Command}
use Rattle.kd_wire.specs.declared.reply.Reply.{Reply}
use Rattle.kd_wire.specs.declared.reply.Reply.TheVariants as reply
use Rattle.kd_policy.specs.declared.owner.Owner.TheVariants as owner
use Rattle.kd_policy.specs.Policy.{after_put}
use Rattle.kd_match.specs.Rules.{without_rules}
use Rattle.kd_seal.specs.Book.{unsealed, with_seal}
use Rattle.kd_acts.specs.Lasting.{is_let_be}
use Rattle.kd_acts.specs.State.{Act, Answer, Image, Visit, by_desk, close, drain, offer, post, raise, refused, settle}
use Rattle.kd_replies.specs.Requests.{due, is_among, is_due}
use Rattle.kd_replies.specs.declared.request.Request.{Request}
use Rattle.kd_registry.specs.declared.claim.Verdict.{Verdict}
use Rattle.kd_commands.specs.declared.conn.Conn.{Conn}
use Rattle.kd_commands.specs.declared.who.Who.{Who}
use Rattle.kd_commands.specs.declared.who.WhoKind.{WhoKind}
use Rattle.kd_commands.specs.declared.who.WhoKind.TheVariants as who
use Rattle.kd_commands.specs.declared.sent.Sent.{Sent}
use Rattle.kd_commands.specs.Endpoints.{next_endpoint, with_endpoint}
use Rattle.kd_commands.specs.Items.{entries_in}
use Rattle.kd_commands.specs.Matches.{with_rule_of}
use Rattle.kd_commands.specs.Send.{requests_after, send_parts}
use Rattle.kd_commands.specs.State.{Desk, conn_of, has_seat, sits_before, unblocked}
use Rattle.kd_commands.specs.Audience.{Subject, owner_change, reply_timeout}
use Rattle.kd_commands.specs.Hello.{Asked, arrival, first_owner, free_seat, hello_plan, hello_refusals, newcomer, with_newcomer}
use Rattle.kd_commands.specs.Leaving.{byebye, close_conn, close_endpoint, closing, ids_of, leave, leaving_notices, on_endpoint, without_conns, without_endpoint}
use Rattle.kd_commands.specs.NameList.{name_list}
use Rattle.kd_commands.specs.Names.{acquire_plan, activator_in, handover, with_claim, without_claim}
use Rattle.kd_commands.specs.Plans.{Part, Plan, announced, itself, notices}
use Rattle.kd_commands.specs.Tick.{tick}
use Rattle.kd_commands.specs.Visits.{first_ends, images_in, next_part}
use Rattle.kd_commands.proofs.Asides.{AreAside, IsAside, handover_aside, notices_aside, send_aside}
use Rattle.kd_commands.proofs.Finds.{filter_agrees, first_is_put, first_of_filter, first_of_put, none_pass}
use Rattle.kd_commands.proofs.Gone.{contains_one}
use Rattle.kd_commands.proofs.Members.{AreAlike, IsAlike, endpoint_alike, one_alike, seats_of, turned, without}
use Rattle.kd_settled.specs.Settled.{IsSettled}
use Rattle.kd_settled.specs.Sizes.{HasSizes, KeepsSizes, PoolsHaveSizes, SizesStay, size_along, size_at, size_then}
use Rattle.kd_counts.specs.Sizes.{size_by}
use Rattle.kd_commands.proofs.Moves.{Moves, arrives, ends, learns, leaves, stays}
use Rattle.kd_commands.proofs.Moving.{moves}
use Rattle.kd_commands.proofs.Seats.{found_is_free, free_has_none}
use Rattle.kd_settled.proofs.Cases.{Cases, NoneHold, asked_by, of_command, plan_of, sent_by}
use Rattle.kd_settled.proofs.Always.{at_home}
use Rattle.kd_settled.proofs.Meeting.{isnt_let_be}

-- ---- parts aside

aside_by : (v : Visit) (o : Answer) (was : Option ℕ) → IsAside v → size_by (by_desk v) o was ≡ was
aside_by (raise size) o was a = absurd a
aside_by (close force) o was a = absurd a
aside_by (offer user len source must content) o was a = refl
aside_by (post image) o was a = refl
aside_by drain o was a = refl
aside_by (settle images) o was a = refl

aside_then : (s : ℕ) (p : Part) (o : Answer) (was : Option ℕ) → IsAside p.act → size_then s p o was ≡ was
aside_then s p o was a = go (p.seat == s)
  where
    go : (b : Bool) → elim b [ true ↦ size_by (by_desk p.act) o was | false ↦ was ] ≡ was
    go true = aside_by p.act o was a
    go false = refl

size_aside : (s : ℕ) (ps : List Part) (outs : List Answer) (was : Option ℕ) → AreAside ps → size_along s ps outs was ≡ was
unfolding size_along
size_aside s [] outs was a = refl
size_aside s (p ∷ ps) [] was a = refl
size_aside s (p ∷ ps) (o ∷ outs) was a = ap (size_along s ps outs) (aside_then s p o was a.0) ∙ size_aside s ps outs was a.1

-- ---- closes

-- a pool whose seat is among some is closed
abbrev closed_of : List ℕ → ℕ → Option ℕ → Option ℕ
closed_of seats s was = cond (not (contains s seats)) was None

closed_then : (s : ℕ) (force : Bool) (c : Conn) (o : Answer) (was : Option ℕ) → is_let_be force o ≡ false → size_then s (closing force c) o was ≡ closed_of (c.seat ∷ []) s was
closed_then s force c o was e =
    ap (λ t. elim (c.seat == s) [ true ↦ elim t [ true ↦ was | false ↦ None ] | false ↦ was ]) e ∙ go (c.seat == s) (contains s (c.seat ∷ [])) (contains_one c.seat s ∙ turned s c.seat)
  where
    go : (a b : Bool) → b ≡ a → elim a [ true ↦ None | false ↦ was ] ≡ cond (not b) was None
    go true b e = sym (ap (λ t. cond (not t) was None) e)
    go false b e = sym (ap (λ t. cond (not t) was None) e)

closes_along :
    (s : ℕ) (is : List Image) (gone : List Conn) (rest : List Part) (outs : List Answer) (was : Option ℕ) → AreAside rest
    → next_part is (map (closing true) gone ++ rest) outs ≡ None
    → size_along s (map (closing true) gone ++ rest) outs was ≡ closed_of (seats_of gone) s was
unfolding size_along next_part
closes_along s is [] rest outs was a e = size_aside s rest outs was a
closes_along s is (g ∷ gs) rest [] was a e = absurd cc
closes_along s is (g ∷ gs) rest (o ∷ outs) was a e =
    closes_along s (is ++ images_in o) gs rest outs (size_then s (closing true g) o was) a e
    ∙ ap (closed_of (seats_of gs) s) (closed_then s true g o was refl)
    ∙ both (s == g.seat) (contains s (seats_of gs))
  where
    both : (a b : Bool) → cond (not b) (cond (not (a || false)) was None) None ≡ cond (not (a || b)) was None
    both true true = refl
    both true false = refl
    both false true = refl
    both false false = refl

-- those that stay have the seats that the others don't, and their sizes
sizes_without : (s : ℕ) (gone cs : List Conn) → AreAlike gone cs → first (has_seat s) (without gone cs) ≡ cond (not (contains s (seats_of gone))) (first (has_seat s) cs) None
sizes_without s gone cs a =
    ap (first (has_seat s)) (filter_agrees by_id by_seat cs (all_follow (IsAlike gone) (λ (c : Conn). by_id c ≡ by_seat c) cs (λ c h. ap not h) a))
    ∙ first_of_filter (has_seat s) by_seat (not (contains s (seats_of gone))) (λ c e. ap (λ n. not (contains n (seats_of gone))) (eqb-true c.seat s e)) cs
  where
    by_id : Conn → Bool
    by_id c = not (is_among (ids_of gone) c.id)

    by_seat : Conn → Bool
    by_seat c = not (contains c.seat (seats_of gone))

size_without : (d e : Desk) (s : ℕ) (gone : List Conn) → e.conns ≡ without gone d.conns → AreAlike gone d.conns → closed_of (seats_of gone) s (size_at d s) ≡ size_at e s
unfolding size_at
size_without d e s gone conns a =
    go (not (contains s (seats_of gone))) ∙ sym (ap (option_map (λ (c : Conn). c.size)) (ap (first (has_seat s)) conns ∙ sizes_without s gone d.conns a))
  where
    go : (b : Bool) → cond b (option_map (λ (c : Conn). c.size) (first (has_seat s) d.conns)) None ≡ option_map (λ (c : Conn). c.size) (cond b (first (has_seat s) d.conns) None)
    go true = refl
    go false = refl

-- ---- of plans

same_sizes : (d : Desk) (p : Plan) → AreAside p.parts → p.next.conns ≡ d.conns → HasSizes d p
unfolding size_at
same_sizes d p a same outs s start all = size_aside s p.parts outs (size_at d s) a ∙ sym (ap (λ cs. option_map (λ (c : Conn). c.size) (first (has_seat s) cs)) same)

quiet_sizes : (d after : Desk) (r : Reply) (m : WhoKind) → after.conns ≡ d.conns → HasSizes d (plan_of [] r after m)
quiet_sizes d after r m same = same_sizes d (plan_of [] r after m) tt same

raised_sizes :
    (d : Desk) (p : Plan) (c : Conn) (rest : List Part) → p.parts ≡ record { seat = c.seat; act = raise c.size } ∷ rest → AreAside rest
    → p.next.conns ≡ put_in_order sits_before c d.conns → AllByRecursion (λ (x : Conn). has_seat c.seat x ≡ false) d.conns → HasSizes d p
unfolding size_at size_along next_part
raised_sizes d p c rest parts a conns free = λ outs s. rw (parts, conns) (go outs s)
  where
    there : (s : ℕ) (b : Bool) → (c.seat == s) ≡ b
        → elim b [ true ↦ Some c.size | false ↦ size_at d s ] ≡ option_map (λ (x : Conn). x.size) (first (has_seat s) (put_in_order sits_before c d.conns))
    there s true e =
        let same : c.seat ≡ s = eqb-true c.seat s e in
        sym (ap (option_map (λ (x : Conn). x.size)) (first_is_put (has_seat s) sits_before c d.conns e (rw same at free)))
    there s false e = sym (ap (option_map (λ (x : Conn). x.size)) (first_of_put (has_seat s) sits_before c d.conns e))

    go : (outs : List Answer) (s : ℕ) → first_ends (record { seat = c.seat; act = raise c.size } ∷ rest) outs ≡ None
        → next_part [] (record { seat = c.seat; act = raise c.size } ∷ rest) outs ≡ None
        → size_along s (record { seat = c.seat; act = raise c.size } ∷ rest) outs (size_at d s) ≡ option_map (λ (x : Conn). x.size) (first (has_seat s) (put_in_order sits_before c d.conns))
    go [] s start all = absurd cc
    go (o ∷ outs) s start all = size_aside s rest outs (size_then s (record { seat = c.seat; act = raise c.size }) o (size_at d s)) a ∙ there s (c.seat == s) refl

left_sizes :
    (d : Desk) (p : Plan) (force : Bool) (c : Conn) (rest : List Part) → p.parts ≡ closing force c ∷ rest → AreAside rest
    → p.next.conns ≡ without (c ∷ []) d.conns → AreAlike (c ∷ []) d.conns → HasSizes d p
unfolding size_along next_part
left_sizes d p force c rest parts a conns alike = λ outs s. rw parts (go outs s)
  where
    go : (outs : List Answer) (s : ℕ) → first_ends (closing force c ∷ rest) outs ≡ None → next_part [] (closing force c ∷ rest) outs ≡ None
        → size_along s (closing force c ∷ rest) outs (size_at d s) ≡ size_at p.next s
    go [] s start all = absurd cc
    go (o ∷ outs) s start all =
        size_aside s rest outs (size_then s (closing force c) o (size_at d s)) a
        ∙ closed_then s force c o (size_at d s) (isnt_let_be force c rest o outs start)
        ∙ size_without d p.next s (c ∷ []) conns alike

ended_sizes :
    (d : Desk) (p : Plan) (gone : List Conn) (rest : List Part) → p.parts ≡ map (closing true) gone ++ rest → AreAside rest
    → p.next.conns ≡ without gone d.conns → AreAlike gone d.conns → HasSizes d p
ended_sizes d p gone rest parts a conns alike = λ outs s. rw parts (λ start all. closes_along s [] gone rest outs (size_at d s) a all ∙ size_without d p.next s gone conns alike)

acquired_aside : (d : Desk) (c : Conn) (flags : NameFlags) (n : List ℕ) (v : Verdict) → AreAside (acquire_plan d c flags n v).parts
acquired_aside d c flags n v =
    let after : Desk = with_claim d c.id flags n v in
    let told : List Subject = owner_change d.registry after.registry n in
    all_of_append (λ (p : Part). IsAside p.act) (handover d c (activator_in v)) (notices after told) (handover_aside d c (activator_in v)) (notices_aside after told)

-- whoever comes takes the lowest free seat
seat_of_newcomer : (d : Desk) (creds : Creds) (a : Asked) → NoneHold (hello_refusals d (newcomer d creds a) a) → free_seat d ≡ Some (newcomer d creds a).seat
unfolding newcomer hello_refusals
seat_of_newcomer d creds a none = go (free_seat d) none.1.1.1.1.1.0
  where
    go : (o : Option ℕ) → is_none o ≡ false → o ≡ Some (unwrap_or o 0)
    go None h = absurd cc
    go (Some s) h = refl

ticked_aside : (d : Desk) (c : Conn) (moment : ℕ) → AreAside (tick d c moment).parts
unfolding tick
ticked_aside d c moment =
    let now : ℕ = max d.moment moment in
    notices_aside (record d { moment = now; requests = but_those (is_due now) d.requests }) (map (λ (q : Request). reply_timeout q.asker q.cookie) (due now d.requests))

sizes : (d : Desk) (m : WhoKind) → IsSettled d → Cases d m (λ x p. HasSizes d p)
unfolding byebye close_conn close_endpoint name_list tick with_newcomer without_conns without_endpoint with_claim without_claim newcomer with_endpoint
sizes d m s = record {
  enters = λ new. quiet_sizes d d reply.Enter who.Fresh refl;
  closes = quiet_sizes d d reply.Close who.Fresh refl;
  comes = λ creds flags size send_mask receive_mask is none.
      let a : Asked = asked_by flags size send_mask receive_mask is in
      let c : Conn = newcomer d creds a in
      let free : free_seat d ≡ Some c.seat = seat_of_newcomer d creds a none in
      raised_sizes d (hello_plan d c a) c (notices (with_newcomer d c a) (arrival c ++ first_owner d c a)) refl (notices_aside (with_newcomer d c a) (arrival c ++ first_owner d c a)) refl
      (none_pass (has_seat c.seat) d.conns (free_has_none d c.seat (found_is_free d c.seat free)));
  makes = λ creds is none. quiet_sizes d (with_endpoint d is) reply.EndpointMake (who.Keeper (next_endpoint d)) refl;
  says_byebye = λ c live.
      left_sizes d (byebye d c) false c (notices (without_conns d (c.id ∷ [])) (leaving_notices d (c ∷ []))) refl (notices_aside (without_conns d (c.id ∷ [])) (leaving_notices d (c ∷ []))) refl (one_alike d c s.seated live);
  says_close = λ c live.
      left_sizes d (close_conn d c) true c (notices (without_conns d (c.id ∷ [])) (leaving_notices d (c ∷ []))) refl (notices_aside (without_conns d (c.id ∷ [])) (leaving_notices d (c ∷ []))) refl (one_alike d c s.seated live);
  lists = λ c flags. same_sizes d (name_list d c flags) tt refl;
  ticks = λ c moment. same_sizes d (tick d c moment) (ticked_aside d c moment) refl;
  sends = λ c flags priority dst source payload_type cookie last is live none.
      let m : Sent = sent_by flags priority dst payload_type cookie last is in
      same_sizes d (plan_of (send_parts d c m) reply.Send (record d { requests = requests_after d c m }) (itself c)) (send_aside d c m) refl;
  acquires = λ c flags n v live is. same_sizes d (acquire_plan d c flags n v) (acquired_aside d c flags n v) refl;
  releases = λ c n.
      let after : Desk = without_claim d c.id n in
      let told : List Subject = owner_change d.registry after.registry n in
      same_sizes d (announced c reply.NameRelease after told) (notices_aside after told) refl;
  adds_rule = λ c replace cookie is. quiet_sizes d (with_rule_of d c replace cookie is) reply.MatchAdd (itself c) refl;
  removes_rule = λ c cookie. quiet_sizes d (record d { rules = without_rules d.rules c.id cookie }) reply.MatchRemove (itself c) refl;
  seals = λ c bytes n. quiet_sizes d (record d { seals = with_seal d.seals c.id bytes }) (reply.Seal n) (itself c) refl;
  unseals = λ c number. quiet_sizes d (record d { seals = unsealed d.seals c.id number }) reply.Unseal (itself c) refl;
  sets = λ c is. quiet_sizes d (record d { policy = after_put d.policy (owner.Conn c.id) (entries_in is) }) reply.PolicySet (itself c) refl;
  keeps = λ e is its. quiet_sizes d (record d { policy = after_put d.policy (owner.Endpoint e) (entries_in is) }) reply.PolicySet (who.Keeper e) refl;
  ends = λ e its.
      ended_sizes d (close_endpoint d e) (on_endpoint d e) (notices (without_endpoint d e) (leaving_notices d (on_endpoint d e))) refl (notices_aside (without_endpoint d e) (leaving_notices d (on_endpoint d e))) refl (endpoint_alike d e s.seated);
  learns_byebye = λ seat. quiet_sizes d (unblocked seat d) reply.Byebye who.Fresh refl;
  learns_close = λ seat. quiet_sizes d (unblocked seat d) reply.Close who.Fresh refl;
}

pub pools_have_sizes : PoolsHaveSizes
pools_have_sizes d k w x p s home e = of_command d w (λ y q. HasSizes d q) (sizes d w.member s) x p e

-- ---- where the first part ends all

raise_goes_on : (seat size : ℕ) (rest : List Part) (outs : List Answer) (why : Refusal) → first_ends (record { seat = seat; act = raise size } ∷ rest) outs ≡ Some why → ⊥
unfolding first_ends
raise_goes_on seat size rest [] why e = absurd cc
raise_goes_on seat size rest (refused r ∷ outs) why e = absurd cc
raise_goes_on seat size rest (o ∷ outs) why e = absurd cc

forced_goes_on : (c : Conn) (rest : List Part) (outs : List Answer) (why : Refusal) → first_ends (closing true c ∷ rest) outs ≡ Some why → ⊥
unfolding first_ends
forced_goes_on c rest [] why e = absurd cc
forced_goes_on c rest (refused r ∷ outs) why e = absurd cc
forced_goes_on c rest (o ∷ outs) why e = absurd cc

let_be_then : (s : ℕ) (c : Conn) (r : Refusal) (was : Option ℕ) → size_then s (closing false c) (refused r) was ≡ was
let_be_then s c r was = go (c.seat == s)
  where
    go : (b : Bool) → elim b [ true ↦ was | false ↦ was ] ≡ was
    go true = refl
    go false = refl

closed_still :
    (s : ℕ) (force : Bool) (c : Conn) (rest : List Part) (outs : List Answer) (was : Option ℕ) (why : Refusal) → AreAside rest
    → first_ends (closing force c ∷ rest) outs ≡ Some why → size_along s (closing force c ∷ rest) outs was ≡ was
unfolding size_along first_ends
closed_still s true c rest outs was why a e = absurd (forced_goes_on c rest outs why e)
closed_still s false c rest [] was why a e = refl
closed_still s false c rest (refused r ∷ outs) was why a e = size_aside s rest outs (size_then s (closing false c) (refused r) was) a ∙ let_be_then s c r was
closed_still s false c rest (o ∷ outs) was why a e = absurd cc

ended_still :
    (s : ℕ) (gone : List Conn) (rest : List Part) (outs : List Answer) (was : Option ℕ) (why : Refusal) → AreAside rest
    → first_ends (map (closing true) gone ++ rest) outs ≡ Some why → size_along s (map (closing true) gone ++ rest) outs was ≡ was
ended_still s [] rest outs was why a e = size_aside s rest outs was a
ended_still s (g ∷ gs) rest outs was why a e = absurd (forced_goes_on g (map (closing true) gs ++ rest) outs why e)

still : (d : Desk) (m : WhoKind) (p : Plan) → Moves d m p → KeepsSizes d p
still d m p (stays t) = λ outs s why e. size_aside s p.parts outs (size_at d s) t.aside
still d m p (arrives t) = λ outs s why. rw t.parts (λ e. absurd (raise_goes_on t.one.seat t.size t.rest outs why e))
still d m p (leaves t) = λ outs s why. rw t.parts (closed_still s t.force t.one t.rest outs (size_at d s) why t.aside)
still d m p (ends t) = λ outs s why. rw t.parts (ended_still s (on_endpoint d t.endpoint) t.rest outs (size_at d s) why t.aside)
still d m p (learns t) = λ outs s why. rw t.parts (λ e. size_aside s [] outs (size_at d s) tt)

pub sizes_stay : SizesStay
sizes_stay d k w x p s home e = still d w.member p (moves d k w x p (at_home d k w.member home) e)
