-- What is told when one connection leaves.
use Rattle.std.proofs.Common.{◌≡◌, ℕ, Bool, true, false, cond, List, [], ◌∷◌, ◌++◌, map, refl, ap, sym, ◌∙◌, inl, inr}
use Rattle.std.specs.Prelude.{◌⊎◌, not, Option, Some}
use Rattle.std.specs.List.{AllByRecursion}
use Rattle.std.proofs.lemmas.Grind.{flat_map-append}
use Rattle.std.proofs.lemmas.List.{append-nil, append_assoc}
use Rattle.kd_model.specs.Words.{those, in_order}
use Rattle.kd_model.proofs.Lists.{all_of_filter, all_of_found}
use Rattle.kd_types.specs.declared.creds.Kind.{Kind}
use Rattle.kd_types.specs.declared.creds.Kind.TheVariants.{Ordinary, Activator, Holder}
use Rattle.kd_wire.specs.declared.reply.Reply.{Reply}
use Rattle.kd_acts.specs.State.{Content}
use Rattle.kd_registry.specs.Changes.{changes_without}
use Rattle.kd_replies.specs.declared.request.Request.{Request}
use Rattle.kd_replies.specs.Requests.{is_dead_without}
use Rattle.kd_commands.specs.declared.conn.Conn.{Conn}
use Rattle.kd_commands.specs.State.{Desk, conn_of, has_id, is_monitor, came_before}
use Rattle.kd_commands.specs.Audience.{Subject, id_remove, new_owner, reply_dead}
use Rattle.kd_commands.specs.Leaving.{closing, leave_one, leaving_notices, without_conns}
use Rattle.kd_tables.specs.declared.change.Change.TheVariants as change
use Rattle.kd_tables.specs.declared.part.Part as code
use Rattle.kd_commands.specs.declared.who.WhoKind.TheVariants as who
use Rattle.kd_tables.specs.Drafts.{IsVisitable, StandByOffers, applied, drafted, parts_with}
use Rattle.kd_tables.specs.Room.{IsSeated}
use Rattle.kd_tables.proofs.Visits.{CanBeVisited, contentless, notices_visits, visitable_of}
use Rattle.kd_commands.specs.Plans.{notices, posts, Part}

abbrev pub owners_gone : Desk → ℕ → List Subject
owners_gone d id = map new_owner (changes_without d.registry (id ∷ []))

abbrev pub repliers_gone : Desk → ℕ → List Subject
repliers_gone d id = map (λ (q : Request). reply_dead q.asker q.cookie) (those (is_dead_without (id ∷ [])) d.requests)

abbrev pub id_gone : Bool → ℕ → List Subject
id_gone b id = cond b [] (id_remove id ∷ [])

leaving_one : (d : Desk) (c : Conn) (b : Bool) → is_monitor c.kind ≡ b → leaving_notices d (c ∷ []) ≡ owners_gone d c.id ++ repliers_gone d c.id ++ id_gone b c.id
unfolding leaving_notices
leaving_one d c true e = ap (λ m. owners_gone d c.id ++ repliers_gone d c.id ++ map (λ (x : Conn). id_remove x.id) (in_order came_before (cond (not m) (c ∷ []) []))) e
leaving_one d c false e = ap (λ m. owners_gone d c.id ++ repliers_gone d c.id ++ map (λ (x : Conn). id_remove x.id) (in_order came_before (cond (not m) (c ∷ []) []))) e

pub parted : (after : Desk) (ps : List Part) (xs ys zs : List Subject) → ps ++ notices after (xs ++ ys ++ zs) ≡ ps ++ notices after xs ++ notices after ys ++ notices after zs
parted after ps xs ys zs =
    ap (ps ++◌) (flat_map-append (posts after) (xs ++ ys) zs ∙ ap (λ l. l ++ notices after zs) (flat_map-append (posts after) xs ys))
    ∙ sym (append_assoc ps (notices after xs ++ notices after ys) (notices after zs))
    ∙ ap (λ l. l ++ notices after zs) (sym (append_assoc ps (notices after xs) (notices after ys)))

-- a monitor leaves unnoticed
pub monitor_told : (d after : Desk) (c : Conn) (ps : List Part) → is_monitor c.kind ≡ true → ps ++ notices after (leaving_notices d (c ∷ [])) ≡ ps ++ notices after (owners_gone d c.id) ++ notices after (repliers_gone d c.id)
monitor_told d after c ps e =
    ap (λ ss. ps ++ notices after ss) (leaving_one d c true e)
    ∙ parted after ps (owners_gone d c.id) (repliers_gone d c.id) []
    ∙ append-nil (ps ++ notices after (owners_gone d c.id) ++ notices after (repliers_gone d c.id))

pub other_told : (d after : Desk) (c : Conn) (ps : List Part) → is_monitor c.kind ≡ false → ps ++ notices after (leaving_notices d (c ∷ [])) ≡ ps ++ notices after (owners_gone d c.id) ++ notices after (repliers_gone d c.id) ++ posts after (id_remove c.id)
other_told d after c ps e =
    ap (λ ss. ps ++ notices after ss) (leaving_one d c false e)
    ∙ parted after ps (owners_gone d c.id) (repliers_gone d c.id) (id_remove c.id ∷ [])
    ∙ ap (λ l. ps ++ notices after (owners_gone d c.id) ++ notices after (repliers_gone d c.id) ++ l) (append-nil (posts after (id_remove c.id)))

-- no other kind is a monitor
pub not_monitor : (k : Kind) → (k ≡ Ordinary) ⊎ (k ≡ Activator) ⊎ (k ≡ Holder) → is_monitor k ≡ false
not_monitor k (inl e) = ap is_monitor e
not_monitor k (inr (inl e)) = ap is_monitor e
not_monitor k (inr (inr e)) = ap is_monitor e

-- what the code plans is what is asked for
pub left_plan : (d : Desk) (r : Reply) (force : Bool) (c : Conn) (qs : List code.Part) (cs : List (Option Content)) → cs ≡ [] → parts_with [] qs ≡ closing force c ∷ notices (without_conns d (c.id ∷ [])) (leaving_notices d (c ∷ [])) → leave_one d r force c ≡ drafted d (record { parts = qs; contents = cs; reply = r; change = change.Leaves c.id; after = who.Fresh })
unfolding drafted applied
left_plan d r force c qs cs e h = rw (e, h) refl

-- and its parts can be visited
can_visit : (d : Desk) (force : Bool) (c : Conn) (qs : List code.Part) → AllByRecursion IsSeated d.conns → conn_of d c.id ≡ Some c → parts_with [] qs ≡ closing force c ∷ notices (without_conns d (c.id ∷ [])) (leaving_notices d (c ∷ [])) → AllByRecursion CanBeVisited (parts_with [] qs)
unfolding without_conns
can_visit d force c qs seats live h =
    let here : IsSeated c = all_of_found IsSeated (has_id c.id) d.conns c seats live in
    let left : AllByRecursion IsSeated (without_conns d (c.id ∷ [])).conns = all_of_filter IsSeated _ d.conns seats in
    rw h (here, notices_visits (without_conns d (c.id ∷ [])) (leaving_notices d (c ∷ [])) left)

pub left_visits : (d : Desk) (force : Bool) (c : Conn) (qs : List code.Part) → AllByRecursion IsSeated d.conns → conn_of d c.id ≡ Some c → parts_with [] qs ≡ closing force c ∷ notices (without_conns d (c.id ∷ [])) (leaving_notices d (c ∷ [])) → AllByRecursion IsVisitable qs
left_visits d force c qs seats live h = visitable_of qs (can_visit d force c qs seats live h)

-- without contents
pub left_contents : (d : Desk) (force : Bool) (c : Conn) (qs : List code.Part) (cs : List (Option Content)) → cs ≡ [] → AllByRecursion IsSeated d.conns → conn_of d c.id ≡ Some c → parts_with [] qs ≡ closing force c ∷ notices (without_conns d (c.id ∷ [])) (leaving_notices d (c ∷ [])) → StandByOffers cs qs
left_contents d force c qs cs e seats live h = contentless cs qs e (can_visit d force c qs seats live h)
