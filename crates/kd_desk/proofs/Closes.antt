-- What an endpoint's end comes to.
use Rattle.std.proofs.Common.{◌≡◌, ◌+◌, ℕ, Bool, true, false, cond, List, [], ◌∷◌, ◌++◌, map, is_some, refl, sym, ap, ◌∙◌}
use Rattle.std.specs.Prelude.{◌==◌, ◌||◌, not, Option}
use Rattle.std.specs.List.{AllByRecursion}
use Rattle.std.proofs.lemmas.Bool.{eq-eqb, eqb-true, or_parts, true≢false}
use Rattle.kd_model.specs.Words.{but_those, in_order, those}
use Rattle.kd_model.proofs.Lists.{all_follow, all_of_append, all_of_filter}
use Rattle.kd_types.specs.declared.creds.Level.TheVariants.{See}
use Rattle.kd_wire.specs.declared.reply.Reply.TheVariants as reply
use Rattle.kd_policy.specs.declared.entry.Entry.{Entry}
use Rattle.kd_policy.specs.declared.owner.Owner.{Owner}
use Rattle.kd_policy.specs.declared.owner.Owner.TheVariants as owner
use Rattle.kd_policy.specs.declared.owner.Scope.TheVariants as scope
use Rattle.kd_policy.specs.Level.{level_of}
use Rattle.kd_policy.specs.Policy.{Policy, after_drop, is_held_by, level_in, list_of, part_of}
use Rattle.kd_registry.specs.Changes.{changes_without}
use Rattle.kd_replies.specs.declared.request.Request.{Request}
use Rattle.kd_replies.specs.Requests.{is_among, is_dead_without}
use Rattle.kd_acts.specs.State.{Content}
use Rattle.kd_commands.specs.declared.conn.Conn.{Conn}
use Rattle.kd_commands.specs.declared.who.WhoKind.TheVariants as who
use Rattle.kd_commands.specs.State.{Desk, came_before, is_monitor}
use Rattle.kd_commands.specs.Audience.{Subject, audience, broadcast, id_add, id_remove, is_told, new_owner, reply_dead, reply_timeout, telling}
use Rattle.kd_commands.specs.Leaving.{close_endpoint, closing, ids_of, leaving_notices, on_endpoint, policy_without, without_conns, without_endpoint}
use Rattle.kd_commands.specs.Plans.{Part, notices, posted_to, posts}
use Rattle.kd_commands.specs.Rights.{may_see_name, reaches}
use Rattle.kd_tables.specs.declared.change.Change.{Change}
use Rattle.kd_tables.specs.declared.part.Part as code
use Rattle.kd_desk.specs.Closing.{ids_missed, is_missed}
use Rattle.kd_tables.specs.Room.{IsSeated, is_on}
use Rattle.kd_tables.specs.Drafts.{IsVisitable, StandByOffers, applied, drafted, parts_with}
use Rattle.kd_messages.specs.News.{without_leavers}
use Rattle.kd_desk.proofs.Leaves.{parted}
use Rattle.kd_tables.proofs.Marks.{both_filters}
use Rattle.kd_messages.proofs.Telling.{admits_without, audience_without, chosen_of_rest, level_without_all, told_alike}
use Rattle.kd_tables.proofs.Visits.{CanBeVisited, contentless, notices_visits, visitable_of}

-- ---- whom the end of an endpoint is told

-- who isn't among those of a test fails it
own_among : (on : Conn → Bool) (cs : List Conn) → AllByRecursion (λ (c : Conn). is_among (ids_of (those on cs)) c.id ≡ false → on c ≡ false) cs
own_among on [] = tt
own_among on (c ∷ cs) = go (on c) refl (own_among on cs)
  where
    go : (b : Bool) → on c ≡ b → AllByRecursion (λ (x : Conn). is_among (ids_of (those on cs)) x.id ≡ false → on x ≡ false) cs
        → AllByRecursion (λ (x : Conn). is_among (ids_of (cond b (c ∷ those on cs) (those on cs))) x.id ≡ false → on x ≡ false) (c ∷ cs)
    go true e ih = (
      λ apart. absurd (true≢false (sym (eq-eqb c.id c.id refl) ∙ (or_parts (c.id == c.id) (is_among (ids_of (those on cs)) c.id) apart).0)),
      all_follow (λ (x : Conn). is_among (ids_of (those on cs)) x.id ≡ false → on x ≡ false) (λ (x : Conn). is_among (c.id ∷ ids_of (those on cs)) x.id ≡ false → on x ≡ false) cs
          (λ x h apart. h (or_parts (c.id == x.id) (is_among (ids_of (those on cs)) x.id) apart).1) ih,
    )
    go false e ih = (λ apart. e, ih)

held_apart : (a e : ℕ) (o : Owner) (es : List Entry) (p q : Policy) → (a == e) ≡ false → list_of (scope.Endpoint a) q ≡ list_of (scope.Endpoint a) p
    → list_of (scope.Endpoint a) (cond (not (is_held_by (owner.Endpoint e) (record { owner = o; entries = es }))) (record { owner = o; entries = es } ∷ q) q) ≡ part_of (scope.Endpoint a) (record { owner = o; entries = es }) ++ list_of (scope.Endpoint a) p
held_apart a e (owner.Conn x) es p q apart h = h
held_apart a e (owner.Endpoint b) es p q apart h = go (b == e) refl
  where
    own : Bool → List Entry
    own t = elim t [ true ↦ es | false ↦ [] ]

    go : (t : Bool) → (b == e) ≡ t → list_of (scope.Endpoint a) (cond (not t) (record { owner = owner.Endpoint b; entries = es } ∷ q) q) ≡ own (a == b) ++ list_of (scope.Endpoint a) p
    go true same = h ∙ sym (ap (λ t. own t ++ list_of (scope.Endpoint a) p) (ap (a ==◌) (eqb-true b e same) ∙ apart))
    go false other = ap (own (a == b) ++◌) h

-- the lists of other endpoints stay
list_apart : (a e : ℕ) (p : Policy) → (a == e) ≡ false → list_of (scope.Endpoint a) (after_drop p (owner.Endpoint e)) ≡ list_of (scope.Endpoint a) p
unfolding after_drop
list_apart a e [] apart = refl
list_apart a e (h ∷ p) apart = held_apart a e h.owner h.entries p (after_drop p (owner.Endpoint e)) apart (list_apart a e p apart)

level_apart : (a e : ℕ) (p : Policy) (n : List ℕ) (uid gid : ℕ) → (a == e) ≡ false → level_in (after_drop p (owner.Endpoint e)) (scope.Endpoint a) n uid gid ≡ level_in p (scope.Endpoint a) n uid gid
unfolding level_in
level_apart a e p n uid gid apart = ap (λ es. level_of es n uid gid) (list_apart a e p apart)

sees_apart : (d : Desk) (e : ℕ) (c : Conn) (n : List ℕ) → (c.endpoint == e) ≡ false → may_see_name (without_endpoint d e) c n ≡ may_see_name d c n
unfolding may_see_name without_endpoint without_conns
sees_apart d e c n apart =
    let ids : List ℕ = ids_of (on_endpoint d e) in
    ap (λ l. c.endpoint == 0 || (reaches See l || false))
    (level_apart c.endpoint e (policy_without d.policy ids) n c.creds.uid c.creds.gid apart ∙ level_without_all c.endpoint ids d.policy n c.creds.uid c.creds.gid)

told_apart : (d : Desk) (e : ℕ) (s : Subject) (c : Conn) → is_some (telling s) ≡ true → (c.endpoint == e) ≡ false → is_among (ids_of (on_endpoint d e)) c.id ≡ false → is_told (without_endpoint d e) s c ≡ is_told d s c
unfolding without_endpoint without_conns
told_apart d e s c told apart stays =
    told_alike (without_endpoint d e) d s c told (λ n. sees_apart d e c n apart) (λ t. admits_without (ids_of (on_endpoint d e)) d.rules c.id t stays)

-- those that stay are told as where the connections alone leave
audience_closed : (d : Desk) (e : ℕ) (s : Subject) → is_some (telling s) ≡ true → audience (without_endpoint d e) s ≡ audience (without_leavers (ids_of (on_endpoint d e)) d) s
unfolding audience without_endpoint without_conns
audience_closed d e s told =
    let ids : List ℕ = ids_of (on_endpoint d e) in
    let same : AllByRecursion (λ (c : Conn). is_among ids c.id ≡ false → is_told (without_endpoint d e) s c ≡ is_told d s c) d.conns =
    all_follow (λ (c : Conn). is_among ids c.id ≡ false → (c.endpoint == e) ≡ false) _ d.conns (λ c h stays. told_apart d e s c told (h stays) stays) (own_among (λ (c : Conn). c.endpoint == e) d.conns) in
    chosen_of_rest (λ (c : Conn). is_among ids c.id) (is_told (without_endpoint d e) s) (is_told d s) d.conns same ∙ sym (audience_without ids d s told)

posts_closed : (d : Desk) (e : ℕ) (s : Subject) → posts (without_endpoint d e) s ≡ posts (without_leavers (ids_of (on_endpoint d e)) d) s
posts_closed d e (broadcast x f) = refl
posts_closed d e (id_add id) = ap (λ cs. posted_to cs (telling (id_add id))) (audience_closed d e (id_add id) refl)
posts_closed d e (id_remove id) = ap (λ cs. posted_to cs (telling (id_remove id))) (audience_closed d e (id_remove id) refl)
posts_closed d e (new_owner x) = ap (λ cs. posted_to cs (telling (new_owner x))) (audience_closed d e (new_owner x) refl)
posts_closed d e (reply_timeout asker cookie) = ap (λ cs. posted_to cs (telling (reply_timeout asker cookie))) (audience_closed d e (reply_timeout asker cookie) refl)
posts_closed d e (reply_dead asker cookie) = ap (λ cs. posted_to cs (telling (reply_dead asker cookie))) (audience_closed d e (reply_dead asker cookie) refl)

pub notices_closed : (d : Desk) (e : ℕ) (ss : List Subject) → notices (without_endpoint d e) ss ≡ notices (without_leavers (ids_of (on_endpoint d e)) d) ss
notices_closed d e [] = refl
notices_closed d e (s ∷ ss) = ap (λ ps. ps ++ notices (without_endpoint d e) ss) (posts_closed d e s) ∙ ap (posts (without_leavers (ids_of (on_endpoint d e)) d) s ++◌) (notices_closed d e ss)

-- ---- what is told

abbrev pub owners_gone : Desk → List ℕ → List Subject
owners_gone d ids = map new_owner (changes_without d.registry ids)

abbrev pub repliers_gone : Desk → List ℕ → List Subject
repliers_gone d ids = map (λ (q : Request). reply_dead q.asker q.cookie) (those (is_dead_without ids) d.requests)

each_removed : (cs : List Conn) → map (λ (c : Conn). id_remove c.id) cs ≡ map id_remove (ids_of cs)
each_removed [] = refl
each_removed (c ∷ cs) = ap (id_remove c.id ∷◌) (each_removed cs)

missed_are : (d : Desk) (e : ℕ) → map (λ (c : Conn). id_remove c.id) (in_order came_before (but_those (λ (c : Conn). is_monitor c.kind) (on_endpoint d e))) ≡ map id_remove (ids_missed d e)
missed_are d e =
    ap (λ cs. map (λ (c : Conn). id_remove c.id) (in_order came_before cs)) (both_filters (λ (c : Conn). not (is_monitor c.kind)) (is_on e) d.conns)
    ∙ each_removed (in_order came_before (those (is_missed e) d.conns))

pub closing_told : (d after : Desk) (e : ℕ) (ps : List Part)
    → ps ++ notices after (leaving_notices d (on_endpoint d e)) ≡ ps ++ notices after (owners_gone d (ids_of (on_endpoint d e))) ++ notices after (repliers_gone d (ids_of (on_endpoint d e))) ++ notices after (map id_remove (ids_missed d e))
unfolding leaving_notices
closing_told d after e ps =
    let ids : List ℕ = ids_of (on_endpoint d e) in
    ap (λ ss. ps ++ notices after (owners_gone d ids ++ repliers_gone d ids ++ ss)) (missed_are d e)
    ∙ parted after ps (owners_gone d ids) (repliers_gone d ids) (map id_remove (ids_missed d e))

-- ---- the plan

abbrev pub closing_parts : Desk → ℕ → List Part
closing_parts d e = map (closing true) (on_endpoint d e) ++ notices (without_endpoint d e) (leaving_notices d (on_endpoint d e))

-- what the code plans is what is asked for
pub closed_plan : (d : Desk) (e : ℕ) (x : Change) (qs : List code.Part) (cs : List (Option Content)) → applied x d ≡ without_endpoint d e → cs ≡ [] → parts_with [] qs ≡ closing_parts d e
    → close_endpoint d e ≡ drafted d (record { parts = qs; contents = cs; reply = reply.Close; change = x; after = who.Fresh })
unfolding close_endpoint drafted
closed_plan d e x qs cs next none h = rw (next, none, h) refl

closings_visit : (cs : List Conn) → AllByRecursion IsSeated cs → AllByRecursion CanBeVisited (map (closing true) cs)
closings_visit [] a = tt
closings_visit (c ∷ cs) a = (a.0, closings_visit cs a.1)

-- and its parts can be visited
can_visit : (d : Desk) (e : ℕ) (qs : List code.Part) → AllByRecursion IsSeated d.conns → parts_with [] qs ≡ closing_parts d e → AllByRecursion CanBeVisited (parts_with [] qs)
unfolding without_endpoint without_conns
can_visit d e qs seats h =
    let left : AllByRecursion IsSeated (without_endpoint d e).conns = all_of_filter IsSeated _ d.conns seats in
    let here : AllByRecursion IsSeated (on_endpoint d e) = all_of_filter IsSeated (λ (c : Conn). c.endpoint == e) d.conns seats in
    rw h (all_of_append CanBeVisited (map (closing true) (on_endpoint d e)) (notices (without_endpoint d e) (leaving_notices d (on_endpoint d e))) (closings_visit (on_endpoint d e) here) (notices_visits (without_endpoint d e) (leaving_notices d (on_endpoint d e)) left))

pub closed_visits : (d : Desk) (e : ℕ) (qs : List code.Part) → AllByRecursion IsSeated d.conns → parts_with [] qs ≡ closing_parts d e → AllByRecursion IsVisitable qs
closed_visits d e qs seats h = visitable_of qs (can_visit d e qs seats h)

-- without contents
pub closed_contents : (d : Desk) (e : ℕ) (qs : List code.Part) (cs : List (Option Content)) → cs ≡ [] → AllByRecursion IsSeated d.conns → parts_with [] qs ≡ closing_parts d e → StandByOffers cs qs
closed_contents d e qs cs none seats h = contentless cs qs none (can_visit d e qs seats h)
