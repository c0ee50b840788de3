-- Who leaves the desk has visited every part.
use Rattle.std.specs.Prelude.{◌≡◌, ◌⊎◌, ◌<◌, ◌≤◌, ◌==◌, ◌&&◌, ℕ, true, false, List, [], ◌∷◌, ◌++◌, length, map, refl, Option, Some, None, Result, Ok, Err, is_none}
use Rattle.std.proofs.Common.{ap, sym, subst, ◌∙◌, arith, inl, inr, eqb-true}
use Rattle.std.proofs.lemmas.Bool.{true≢false}
use Rattle.std.proofs.lemmas.List.{length-append}
use Rattle.kd_types.specs.declared.refusal.Refusal.{Refusal}
use Rattle.kd_model.proofs.Truth.{left_true, no_some, right_true, same_some}
use Rattle.kd_wire.specs.declared.command.Command.{Command}
use Rattle.kd_acts.specs.State.{Answer, Hold, Image, Visit, close, drain, offer, post, raise, settle, done, placed, gone, freed, slice, refused, drained, got, bytes_of}
use Rattle.kd_commands.specs.declared.who.Who.{Who}
use Rattle.kd_commands.specs.Plans.{Part, Plan}
use Rattle.kd_commands.specs.State.{Desk}
use Rattle.kd_commands.specs.Step.{parts_in}
use Rattle.kd_commands.specs.Visits.{first_ends, images_in, met, next_part, parts_visited, with_images}
use Rattle.kd_settled.proofs.Short.{plans_are_short}
use Rattle.kd_world.specs.Addressed.{DeskEntry, desk_behind, desk_entry}
use Rattle.kd_world.specs.Holding.{next_visit, parts_held}
use Rattle.kd_world.specs.Legal.{Event, frees, is_caller, is_part_at, leave, legal, publishes, reads, receives, take, visit}
use Rattle.kd_world.specs.Planner.{desk_end, parts_planned, planned}
use Rattle.kd_world.specs.Pools.{pool_answer, pools_after}
use Rattle.kd_world.specs.Runs.{IsReached, all_legal, world_after}
use Rattle.kd_world.specs.State.{Caller, Holder, World, caller_at, new_world}
use Rattle.kd_world.specs.Step.{desk_after, holder_after, holder_by, step}
use Rattle.kd_world.specs.Tie.{desk_adds, desk_history}
use Rattle.kd_world.proofs.Holders.{Kept, hold, its, parts_are, plans}
use Rattle.kd_world.proofs.Reached.{reached_keeps}
use Rattle.kd_world.proofs.Tied.{next_from, of}
use Rattle.kd_runs.specs.Met.{HoldersVisitFew}
use Rattle.kd_runs.proofs.Home.{Home, home, reached_home}
use Rattle.kd_runs.specs.Left.{AreVisited, HaveVisited, LeaversHaveVisited, NobodyIsLeftOut, VisitedAreAll, bare, bare_visit}

-- ---- while parts are visited

-- as many answers as parts at most, and one where the first refusal ended all
abbrev pub AreOn : List Part → List Answer → Type 0
AreOn ps outs = ((first_ends ps outs ≡ None) × (length outs ≤ length ps)) ⊎ ((why : Refusal) × (first_ends ps outs ≡ Some why) × (length outs ≡ 1))

nothing_ends : (ps : List Part) → first_ends ps [] ≡ None
unfolding first_ends
nothing_ends [] = refl
nothing_ends (p ∷ ps) = refl

pub on_at_first : (ps : List Part) → AreOn ps []
on_at_first ps = inl (nothing_ends ps, omega arith)

-- where a part is next there are fewer answers than parts
next_fewer : (is : List Image) (ps : List Part) (outs : List Answer) (q : Part) → next_part is ps outs ≡ Some q → length outs < length ps
unfolding next_part
next_fewer is [] outs q e = absurd (no_some e)
next_fewer is (p ∷ ps) [] q e = omega arith
next_fewer is (p ∷ ps) (o ∷ outs) q e = let f = next_fewer (is ++ images_in o) ps outs q e in omega (arith, f)

-- and where none is next there are as many
none_next : (is : List Image) (ps : List Part) (outs : List Answer) → next_part is ps outs ≡ None → length ps ≤ length outs
unfolding next_part
none_next is [] outs e = omega arith
none_next is (p ∷ ps) [] e = absurd (no_some (sym e))
none_next is (p ∷ ps) (o ∷ outs) e = let f = none_next (is ++ images_in o) ps outs e in omega (arith, f)

-- only the first answer ends
same_end : (ps : List Part) (x o : Answer) (outs : List Answer) → first_ends ps (x ∷ outs ++ o ∷ []) ≡ first_ends ps (x ∷ outs)
unfolding first_ends
same_end [] x o outs = refl
same_end (p ∷ ps) (refused why) o outs = refl
same_end (p ∷ ps) done o outs = refl
same_end (p ∷ ps) placed o outs = refl
same_end (p ∷ ps) gone o outs = refl
same_end (p ∷ ps) freed o outs = refl
same_end (p ∷ ps) (slice n) o outs = refl
same_end (p ∷ ps) (drained images) o outs = refl
same_end (p ∷ ps) (got n offset len dropped) o outs = refl
same_end (p ∷ ps) (bytes_of bytes) o outs = refl

ends_or_not : (ps : List Part) (outs : List Answer) (o : Option Refusal) → first_ends ps outs ≡ o → length outs ≤ length ps → length outs ≡ 1 → AreOn ps outs
ends_or_not ps outs None e few one = inl (e, few)
ends_or_not ps outs (Some why) e few one = inr (why, e, one)

on_further : (ps : List Part) (outs : List Answer) (o : Answer) → first_ends ps outs ≡ None → length outs < length ps → AreOn ps (outs ++ o ∷ [])
on_further ps [] o e few = ends_or_not ps (o ∷ []) (first_ends ps (o ∷ [])) refl (omega (arith, few)) refl
on_further ps (x ∷ outs) o e few = inl (same_end ps x o outs ∙ e, let f = length-append (x ∷ outs) (o ∷ []) in omega (arith, f, few))

pub on_ended : (is : List Image) (ps : List Part) (outs : List Answer) → AreOn ps outs → (first_ends ps outs ≡ None → next_part is ps outs ≡ None) → AreVisited ps outs
on_ended is ps outs (inl a) none = let f = none_next is ps outs (none a.0) in let g = a.1 in inl (omega (arith, f, g))
on_ended is ps outs (inr b) none = inr b

-- ---- in a world

-- the holder of the desk is on
abbrev pub IsOn : World → Type 0
IsOn w = (h : Holder) → w.holder ≡ Some h → AreOn (parts_held w h) h.outs

ends_none : (w : World) (h : Holder) (q : Part) → next_visit w h ≡ Some q → first_ends (parts_held w h) h.outs ≡ None
unfolding next_visit
ends_none w h q e = go (first_ends (parts_held w h) h.outs) refl e
  where
    go : (r : Option Refusal) → first_ends (parts_held w h) h.outs ≡ r → elim r [ Some x ↦ None | None ↦ next_part [] (parts_held w h) h.outs ] ≡ Some q → first_ends (parts_held w h) h.outs ≡ None
    go None f g = f
    go (Some why) f g = absurd (no_some g)

none_left : (w : World) (h : Holder) → next_visit w h ≡ None → first_ends (parts_held w h) h.outs ≡ None → next_part [] (parts_held w h) h.outs ≡ None
unfolding next_visit
none_left w h e f = ap (λ (r : Option Refusal). elim r [ Some x ↦ None | None ↦ next_part [] (parts_held w h) h.outs ]) (sym f) ∙ e

take_on : (d : Desk) (pools : List Hold) (callers : List Caller) (n : ℕ) (x : Command) (w : Who) (r : Result Plan Refusal) → IsOn (of d (holder_by n w x r) pools callers)
take_on d pools callers n x w (Err why) h e = absurd (no_some e)
take_on d pools callers n x w (Ok p) h e =
    subst (λ (g : Holder). AreOn (parts_planned d g.who g.command) g.outs) (same_some _ _ e) (on_at_first (parts_planned d w x))

visit_on : (d : Desk) (h : Holder) (pools later : List Hold) (callers : List Caller) (o : Answer) (q : Part) → IsOn (of d (Some h) pools callers) → next_visit (of d (Some h) pools callers) h ≡ Some q
    → IsOn (of d (Some (record h { outs = h.outs ++ o ∷ [] })) later callers)
visit_on d h pools later callers o q on next g e =
    let w : World = of d (Some h) pools callers in
    subst (λ (g : Holder). AreOn (parts_planned d g.who g.command) g.outs) (same_some _ _ e)
    (on_further (parts_held w h) h.outs o (ends_none w h q next) (next_fewer [] (parts_held w h) h.outs q (next_from w h q next)))

-- one event
one : (d : Desk) (o : Option Holder) (pools : List Hold) (callers : List Caller) (e : Event) → legal (of d o pools callers) e ≡ true → IsOn (of d o pools callers) → IsOn (step (of d o pools callers) e)
unfolding legal holder_after desk_after
one d o pools callers (take n x) l on = take_on d (pools_after (of d o pools callers) (take n x)) callers n x (caller_at (of d o pools callers) n).who (planned d (caller_at (of d o pools callers) n).who x)
one d None pools callers (visit n s) l on = absurd (true≢false (sym (right_true (is_caller n) false l)))
one d (Some h) pools callers (visit n s) l on =
    let w : World = of d (Some h) pools callers in
    go (next_visit w h) refl (right_true (h.caller == n) (is_part_at s (next_visit w h)) (right_true (is_caller n) (h.caller == n && is_part_at s (next_visit w h)) l))
  where
    go : (q : Option Part) → next_visit (of d (Some h) pools callers) h ≡ q → is_part_at s q ≡ true → IsOn (step (of d (Some h) pools callers) (visit n s))
    go None e t = absurd (true≢false (sym t))
    go (Some q) e t =
        let w : World = of d (Some h) pools callers in
        visit_on d h pools (pools_after w (visit n s)) callers (pool_answer w (visit n s)) q on e
one d o pools callers (leave n) l on = λ h e. absurd (no_some e)
one d o pools callers (publishes n s number) l on = on
one d o pools callers (receives n mode) l on = on
one d o pools callers (reads n number sealed) l on = on
one d o pools callers (frees n number) l on = on

-- and any number
pub on_along : (w : World) (es : List Event) → all_legal w es ≡ true → IsOn w → IsOn (world_after w es)
unfolding all_legal world_after
on_along w [] l on = on
on_along w (e ∷ es) l on =
    on_along (step w e) es (right_true (legal w e) (all_legal (step w e) es) l) (one w.desk w.holder w.pools w.callers e (left_true (legal w e) (all_legal (step w e) es) l) on)

on_opening : (creator size hashes : ℕ) → IsOn (new_world creator size hashes)
unfolding new_world
on_opening creator size hashes h e = absurd (no_some e)

pub reached_on : (w : World) → IsReached w → IsOn w
reached_on w r = subst IsOn r.world (on_along (new_world r.creator r.size r.hashes) r.events r.legal (on_opening r.creator r.size r.hashes))

-- ---- leaving

may_leave : (w : World) (n : ℕ) (o : Option Holder) → w.holder ≡ o → elim o [ None ↦ false | Some h ↦ h.caller == n && is_none (next_visit w h) ] ≡ true
    → (h : Holder) × (w.holder ≡ Some h) × (h.caller ≡ n) × (next_visit w h ≡ None)
may_leave w n None e l = absurd (true≢false (sym l))
may_leave w n (Some h) e l =
    (h, e, eqb-true h.caller n (left_true (h.caller == n) (is_none (next_visit w h)) l), none (next_visit w h) (right_true (h.caller == n) (is_none (next_visit w h)) l))
  where
    none : (q : Option Part) → is_none q ≡ true → q ≡ None
    none None t = refl
    none (Some q) t = absurd (true≢false (sym t))

leaver : (w : World) (n : ℕ) → legal w (leave n) ≡ true → (h : Holder) × (w.holder ≡ Some h) × (h.caller ≡ n) × (next_visit w h ≡ None)
unfolding legal
leaver w n l = may_leave w n w.holder refl (right_true (is_caller n) _ l)

has_visited : (w : World) (h : Holder) → IsOn w → w.holder ≡ Some h → next_visit w h ≡ None → AreVisited (parts_held w h) h.outs
has_visited w h on e none = on_ended [] (parts_held w h) h.outs (on h e) (none_left w h none)

pub leavers_have_visited : LeaversHaveVisited
leavers_have_visited w n r l = let t = leaver w n l in (t.0, t.1, t.2, has_visited w t.0 (reached_on w r) t.1 t.3)

-- ---- along the history

refused_behind : (d : Desk) (n : ℕ) (w : Who) (x : Command) (r : Refusal) → planned d w x ≡ Err r → desk_behind planned d (desk_entry n w x []) ≡ d
refused_behind d n w x r e = rw (desk_behind, e) refl

take_adds : (d : Desk) (n : ℕ) (w : Who) (x : Command) (rest : List DeskEntry) (r : Result Plan Refusal) → planned d w x ≡ r → HaveVisited d rest
    → HaveVisited d (elim r [ Err why ↦ desk_entry n w x [] ∷ [] | Ok p ↦ [] ] ++ rest)
unfolding HaveVisited
take_adds d n w x rest (Err why) e later = (inl (sym (ap (λ (r : Result Plan Refusal). length (parts_in r)) e)), subst (λ t. HaveVisited t rest) (sym (refused_behind d n w x why e)) later)
take_adds d n w x rest (Ok p) e later = later

adds : (d : Desk) (o : Option Holder) (pools : List Hold) (callers : List Caller) (e : Event) (rest : List DeskEntry) → IsOn (of d o pools callers) → legal (of d o pools callers) e ≡ true
    → HaveVisited (desk_after (of d o pools callers) e) rest → HaveVisited d (desk_adds (of d o pools callers) e ++ rest)
unfolding desk_adds desk_after HaveVisited desk_end parts_planned
adds d o pools callers (take n x) rest on l later =
    take_adds d n (caller_at (of d o pools callers) n).who x rest (planned d (caller_at (of d o pools callers) n).who x) refl later
adds d None pools callers (leave n) rest on l later = later
adds d (Some h) pools callers (leave n) rest on l later =
    let w : World = of d (Some h) pools callers in
    let t = leaver w n l in
    let same : t.0 ≡ h = same_some _ _ (sym t.1) in
    (has_visited w h on refl (subst (λ g. next_visit w g ≡ None) same t.3), later)
adds d o pools callers (visit n s) rest on l later = later
adds d o pools callers (publishes n s number) rest on l later = later
adds d o pools callers (receives n mode) rest on l later = later
adds d o pools callers (reads n number sealed) rest on l later = later
adds d o pools callers (frees n number) rest on l later = later

along : (w : World) (es : List Event) → all_legal w es ≡ true → IsOn w → HaveVisited w.desk (desk_history w es)
unfolding all_legal desk_history HaveVisited
along w [] l on = tt
along w (e ∷ es) l on =
    let first = left_true (legal w e) (all_legal (step w e) es) l in
    adds w.desk w.holder w.pools w.callers e (desk_history (step w e) es) on first
    (along (step w e) es (right_true (legal w e) (all_legal (step w e) es) l) (one w.desk w.holder w.pools w.callers e first on))

pub nobody_is_left_out : NobodyIsLeftOut
unfolding new_world
nobody_is_left_out creator size hashes es l = along (new_world creator size hashes) es l (on_opening creator size hashes)

-- ---- the visits are the parts

met_bare : (is : List Image) (p : Part) → bare (met is p) ≡ bare p
met_bare is p = ap (λ v. record p { act = v }) (go p.act)
  where
    go : (v : Visit) → bare_visit (with_images is v) ≡ bare_visit v
    go (raise size) = refl
    go (close force) = refl
    go (offer user len source must content) = refl
    go (post image) = refl
    go drain = refl
    go (settle old) = refl

all_bare : (is : List Image) (ps : List Part) (outs : List Answer) → length outs ≡ length ps → map bare (parts_visited is ps outs) ≡ map bare ps
unfolding parts_visited
all_bare is [] outs e = refl
all_bare is (p ∷ ps) [] e = absurd (omega (arith, e))
all_bare is (p ∷ ps) (o ∷ outs) e = ap (◌∷ map bare (parts_visited (is ++ images_in o) ps outs)) (met_bare is p) ∙ ap (bare p ∷◌) (all_bare (is ++ images_in o) ps outs (omega (arith, e)))

pub visited_are_all : VisitedAreAll
visited_are_all ps outs e = all_bare [] ps outs e

-- ---- how many

nobody_ends : (outs : List Answer) → first_ends [] outs ≡ None
unfolding first_ends
nobody_ends outs = refl

pub holders_visit_few : HoldersVisitFew
holders_visit_few w h r e = go (reached_keeps w r) (reached_home w r) (reached_on w r h e)
  where
    few : (ps : List Part) (outs : List Answer) → AreOn ps outs → length outs ≤ length ps
    few ps outs (inl a) = a.1
    few [] [] (inr b) = omega arith
    few [] (o ∷ outs) (inr b) = absurd (no_some (sym (nobody_ends (o ∷ outs)) ∙ b.1))
    few (p ∷ ps) outs (inr b) = let f = b.2 in omega (arith, f)

    go : Kept (of w.desk w.holder w.pools w.callers) → Home (of w.desk w.holder w.pools w.callers) → AreOn (parts_held w h) h.outs → (length h.outs ≤ length (parts_held w h)) × (length (parts_held w h) ≤ 1048576)
    go k0 h0 on =
        let k = subst (λ o. Kept (of w.desk o w.pools w.callers)) e k0 in
        let here = subst (λ o. Home (of w.desk o w.pools w.callers)) e h0 in (
          few (parts_held w h) h.outs on,
          subst (λ ps. length ps ≤ 1048576) (sym (parts_are w.desk h w.pools w.callers k))
              (plans_are_short w.desk (its w.desk h w.pools w.callers k).kind h.who h.command (hold w.desk h w.pools w.callers k).plan here.settled (home w.desk h w.pools w.callers k here) (plans w.desk h w.pools w.callers k)),
        )
