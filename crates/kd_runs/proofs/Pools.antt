-- Which pools are open, and of which size, along every list of legal events.
use Rattle.std.specs.Prelude.{◌≡◌, ◌≢◌, ◌<◌, ◌==◌, ◌&&◌, ℕ, Bool, true, false, List, [], ◌∷◌, ◌++◌, length, get_or, refl, Option, Some, None, Result, Ok, Err, IsNone, is_none}
use Rattle.std.proofs.Common.{ap, sym, subst, ◌∙◌, arith, eq-eqb, ne_eqb}
use Rattle.std.proofs.lemmas.Bool.{true≢false}
use Rattle.std.proofs.lemmas.List.{get_or_past}
use mathlib.Core.Logic.{dite}
use native.Mathlib.Decide.{dec_le}
use Rattle.kd_types.specs.declared.refusal.Refusal.{Refusal}
use Rattle.kd_model.proofs.Truth.{left_true, no_some, right_true}
use Rattle.kd_wire.specs.declared.command.Command.{Command}
use Rattle.kd_acts.specs.Lasting.{is_open}
use Rattle.kd_acts.specs.State.{Act, Answer, Hold, Image, Visit, by_desk, close, drain, free, offer, post, raise, read, receive, settle}
use Rattle.kd_acts.specs.Steps.{after, answer}
use Rattle.kd_commands.specs.declared.who.Who.{Who}
use Rattle.kd_commands.specs.Plans.{Part, Plan}
use Rattle.kd_commands.specs.Seating.{is_live, open_along}
use Rattle.kd_commands.specs.State.{Desk, opening_desk}
use Rattle.kd_commands.specs.Step.{Ended, ended, ended_by}
use Rattle.kd_commands.specs.Visits.{first_ends, images_in, met, next_part, with_images}
use Rattle.kd_commands.proofs.Opens.{raises_free}
use Rattle.kd_counts.specs.Sizes.{size_by, size_of}
use Rattle.kd_counts.proofs.Steps.{sizes_follow}
use Rattle.kd_settled.specs.Parts.{needs_pool}
use Rattle.kd_settled.specs.Sizes.{size_along, size_at, size_then}
use Rattle.kd_settled.proofs.Meeting.{visits_meet_open}
use Rattle.kd_settled.proofs.Sizes.{pools_have_sizes, sizes_stay}
use Rattle.kd_world.specs.declared.told.Told.{Told}
use Rattle.kd_world.specs.declared.told.Told.TheVariants.{Peeked, Handed}
use Rattle.kd_world.specs.Holding.{command_end, next_visit, parts_held}
use Rattle.kd_world.specs.Legal.{Event, frees, is_caller, is_for_desk, is_part_at, leave, legal, publishes, reads, receives, take, visit}
use Rattle.kd_world.specs.Own.{hand_entry, pending_of, pool_seat}
use Rattle.kd_world.specs.Planner.{desk_end, parts_planned, planned}
use Rattle.kd_world.specs.Pools.{Aimed, act_at, act_of, aimed, free_of, pool_answer, pools_after, publish_of}
use Rattle.kd_world.specs.Runs.{IsReached, all_legal, world_after}
use Rattle.kd_world.specs.State.{Caller, Holder, Pending, World, caller_at, closed_pool, new_world, pool_at}
use Rattle.kd_world.specs.Step.{desk_after, holder_after, holder_by, step}
use Rattle.kd_world.proofs.Acts.{set_nowhere, set_pool}
use Rattle.kd_world.proofs.Agreeing.{each}
use Rattle.kd_world.proofs.Holders.{Kept, answer_is, hold, its, knows, parts_are, plans, pools_are, pools_by, pools_of, visit_act}
use Rattle.kd_world.proofs.Moving.{alike}
use Rattle.kd_world.proofs.Reached.{kept_on, opening_keeps, reached_keeps}
use Rattle.kd_world.proofs.Tied.{next_from, of}
use Rattle.kd_runs.specs.Met.{VisitsMeetPools}
use Rattle.kd_runs.specs.Reached.{OpenPoolsAreLive, OpenPoolsAreSized, OpenPoolsSoFar}
use Rattle.kd_runs.proofs.Home.{Home, home, home_on, opening_home, reached_home}

-- ---- what is visited

-- by the plan of the holder
abbrev pub Meets : World → Part → Type 0
Meets w q = (q.seat < 64) × (needs_pool q.act ≡ true → is_open (pool_at w q.seat) ≡ true)

ends_none : (w : World) (h : Holder) (q : Part) → next_visit w h ≡ Some q → first_ends (parts_held w h) h.outs ≡ None
unfolding next_visit
ends_none w h q e = go (first_ends (parts_held w h) h.outs) refl e
  where
    go : (r : Option Refusal) → first_ends (parts_held w h) h.outs ≡ r → elim r [ Some x ↦ None | None ↦ next_part [] (parts_held w h) h.outs ] ≡ Some q → first_ends (parts_held w h) h.outs ≡ None
    go None f g = f
    go (Some why) f g = absurd (no_some g)

raise_of : (v : Visit) → needs_pool v ≡ false → (size : ℕ) × (v ≡ raise size)
raise_of (raise size) e = (size, refl)
raise_of (close force) e = absurd (true≢false e)
raise_of (offer user len source must content) e = absurd (true≢false e)
raise_of (post image) e = absurd (true≢false e)
raise_of drain e = absurd (true≢false e)
raise_of (settle images) e = absurd (true≢false e)

pub meets_here : (d : Desk) (h : Holder) (pools : List Hold) (callers : List Caller) → Kept (of d (Some h) pools callers) → Home (of d (Some h) pools callers)
    → (q : Part) → next_visit (of d (Some h) pools callers) h ≡ Some q → Meets (of d (Some h) pools callers) q
meets_here d h pools callers k r q next = (low (needs_pool q.act) refl, is_up)
  where
    w : World
    w = of d (Some h) pools callers

    p : Plan
    p = (hold d h pools callers k).plan

    same : parts_held w h ≡ p.parts
    same = parts_are d h pools callers k

    its_next : next_part [] p.parts h.outs ≡ Some q
    its_next = ap (λ ps. next_part [] ps h.outs) (sym same) ∙ next_from w h q next

    is_up : needs_pool q.act ≡ true → is_open (pool_at w q.seat) ≡ true
    is_up needs =
        k.agrees.opens q.seat ∙ ap (λ ps. open_along q.seat ps h.outs (is_live d q.seat)) same
        ∙ visits_meet_open d (its d h pools callers k).kind h.who h.command p r.settled (home d h pools callers k r) (plans d h pools callers k) h.outs q
        (ap (λ ps. first_ends ps h.outs) (sym same) ∙ ends_none w h q next) its_next needs

    inside : (s : ℕ) → is_open (get_or pools s closed_pool) ≡ true → s < 64
    inside s up = dite (dec_le (length pools) s)
        (λ le. absurd (true≢false (sym up ∙ ap is_open (get_or_past pools s closed_pool le))))
        (λ gt. let many = k.many_pools in omega (arith, gt, many))

    low : (b : Bool) → needs_pool q.act ≡ b → q.seat < 64
    low true needs = inside q.seat (is_up needs)
    low false needs =
        let v = raise_of q.act needs in
        (raises_free d (its d h pools callers k).kind h.who h.command p k.agrees.seated (knows d h pools callers k) (plans d h pools callers k) h.outs q v.0 its_next v.1).0

pub visits_meet_pools : VisitsMeetPools
visits_meet_pools w h q r e next = go (reached_keeps w r) (reached_home w r)
  where
    turned : (d : Desk) (o : Option Holder) (pools : List Hold) (callers : List Caller) → o ≡ Some h → next_visit (of d o pools callers) h ≡ Some q → next_visit (of d (Some h) pools callers) h ≡ Some q
    turned d o pools callers f n = subst (λ o. next_visit (of d o pools callers) h ≡ Some q) f n

    go : Kept (of w.desk w.holder w.pools w.callers) → Home (of w.desk w.holder w.pools w.callers) → Meets w q
    go k there =
        meets_here w.desk h w.pools w.callers (subst (λ o. Kept (of w.desk o w.pools w.callers)) e k) (subst (λ o. Home (of w.desk o w.pools w.callers)) e there) q
        (turned w.desk w.holder w.pools w.callers e next)

-- ---- sizes along visits

size_none : (s : ℕ) (ps : List Part) (was : Option ℕ) → size_along s ps [] was ≡ was
unfolding size_along
size_none s [] was = refl
size_none s (p ∷ ps) was = refl

met_sizes : (s : ℕ) (is : List Image) (p : Part) (o : Answer) (was : Option ℕ) → size_then s p o was ≡ size_then s (met is p) o was
met_sizes s is p o was = ap (λ x. elim (p.seat == s) [ true ↦ x | false ↦ was ]) (go p.act)
  where
    go : (v : Visit) → size_by (by_desk v) o was ≡ size_by (by_desk (with_images is v)) o was
    go (raise size) = refl
    go (close force) = refl
    go (offer user len source must content) = refl
    go (post image) = refl
    go drain = refl
    go (settle old) = refl

size_more : (s : ℕ) (is : List Image) (ps : List Part) (outs : List Answer) (o : Answer) (q : Part) (was : Option ℕ) → next_part is ps outs ≡ Some q
    → size_along s ps (outs ++ o ∷ []) was ≡ size_then s q o (size_along s ps outs was)
unfolding size_along next_part
size_more s is [] outs o q was e = absurd cc
size_more s is (p ∷ ps) [] o q was e =
    size_none s ps (size_then s p o was) ∙ met_sizes s is p o was ∙ ap (λ (x : Option Part). elim x [ None ↦ was | Some y ↦ size_then s y o was ]) e
size_more s is (p ∷ ps) (x ∷ outs) o q was e = size_more s (is ++ images_in x) ps outs o q (size_then s p x was) e

-- ---- sizes in a world

abbrev pub size_now : World → ℕ → Option ℕ
size_now w s = elim w.holder [ None ↦ size_at w.desk s | Some h ↦ size_along s (parts_held w h) h.outs (size_at w.desk s) ]

abbrev pub Sized : World → Type 0
Sized w = (s : ℕ) → size_of (pools_of w.pools s) ≡ size_now w s

-- an act that isn't the holder's
abbrev IsAside : Option Aimed → Type 0
IsAside None = Unit {0}
IsAside (Some a) = (o : Answer) (was : Option ℕ) → size_by a.act o was ≡ was

aside_at : (s : Option ℕ) (a : Act) → ((o : Answer) (was : Option ℕ) → size_by a o was ≡ was) → IsAside (act_at s a)
aside_at None a f = tt
aside_at (Some s) a f = f

publish_aside : (q : Option Pending) → IsAside (publish_of q)
publish_aside None = tt
publish_aside (Some p) = λ o was. refl

free_aside : (s : Option ℕ) (n : ℕ) (t : Option Told) → IsAside (free_of s n t)
free_aside s n None = tt
free_aside s n (Some Peeked) = tt
free_aside s n (Some Handed) = aside_at s (free n) (λ o was. refl)

aside_sizes : (pools : List Hold) (a : Option Aimed) → IsAside a → (s : ℕ) → size_of (pools_of (pools_by a pools) s) ≡ size_of (pools_of pools s)
aside_sizes pools None f s = refl
aside_sizes pools (Some a) f s =
    let now : Hold = after (pools_of pools a.seat) a.act in
    dite (dec_le (length pools) a.seat)
    (λ le. ap size_of (set_nowhere pools a.seat now le s))
    (λ gt. ap size_of (set_pool pools a.seat now (omega (arith, gt)) s)
    ∙ each (λ t h. size_of h ≡ size_of (pools_of pools t)) (pools_of pools) a.seat now
    (sizes_follow (pools_of pools a.seat) a.act ∙ f (answer (pools_of pools a.seat) a.act) (size_of (pools_of pools a.seat))) (λ t ne. refl) s)

sized_aside : (d : Desk) (o : Option Holder) (pools : List Hold) (callers others : List Caller) (e : Event) (a : Option Aimed) → Sized (of d o pools callers)
    → act_of (of d o pools callers) e ≡ a → IsAside a → Sized (of d o (pools_after (of d o pools callers) e) others)
sized_aside d o pools callers others e a r f aside s =
    ap (λ ps. size_of (pools_of ps s)) (pools_are (of d o pools callers) e a f) ∙ aside_sizes pools a aside s ∙ r s

take_sized : (d : Desk) (pools : List Hold) (callers : List Caller) (n : ℕ) (x : Command) (w : Who) (r : Result Plan Refusal) → Sized (of d None pools callers)
    → Sized (of d (holder_by n w x r) pools callers)
take_sized d pools callers n x w (Err why) s t = s t
take_sized d pools callers n x w (Ok p) s t = s t ∙ sym (size_none t (parts_planned d w x) (size_at d t))

module _ (d : Desk) (h : Holder) (pools : List Hold) (callers : List Caller) (k : Kept (of d (Some h) pools callers)) (r : Home (of d (Some h) pools callers))
    (z : Sized (of d (Some h) pools callers)) where
  abbrev w : World
  w = of d (Some h) pools callers

  module _ (n s : ℕ) (q : Part) (next : next_visit (of d (Some h) pools callers) h ≡ Some q) where
    abbrev o : Answer
    o = pool_answer w (visit n s)

    abbrev now : Hold
    now = after (pools_of pools q.seat) (by_desk q.act)

    abbrev was : ℕ → Option ℕ
    was t = size_along t (parts_held w h) h.outs (size_at d t)

    said : o ≡ answer (pools_of pools q.seat) (by_desk q.act)
    said = answer_is w (visit n s) (aimed q) (visit_act d h pools callers n s q next)

    then_here : size_of now ≡ size_then q.seat q o (was q.seat)
    then_here =
        sizes_follow (pools_of pools q.seat) (by_desk q.act)
        ∙ ap (λ a. size_by (by_desk q.act) a (size_of (pools_of pools q.seat))) (sym said)
        ∙ ap (size_by (by_desk q.act) o) (z q.seat)
        ∙ sym (ap (λ b. elim b [ true ↦ size_by (by_desk q.act) o (was q.seat) | false ↦ was q.seat ]) (eq-eqb q.seat q.seat refl))

    then_else : (t : ℕ) → t ≢ q.seat → size_of (pools_of pools t) ≡ size_then t q o (was t)
    then_else t ne = z t ∙ sym (ap (λ b. elim b [ true ↦ size_by (by_desk q.act) o (was t) | false ↦ was t ]) (ne_eqb q.seat t (λ e. ne (sym e))))

    pub visit_sized : Sized (of d (Some (record h { outs = h.outs ++ o ∷ [] })) (pools_after w (visit n s)) callers)
    visit_sized t =
        let low = (meets_here d h pools callers k r q next).0 in let many = k.many_pools in
        ap (λ ps. size_of (pools_of ps t)) (pools_are w (visit n s) (Some (aimed q)) (visit_act d h pools callers n s q next))
        ∙ ap size_of (set_pool pools q.seat now (omega (arith, low, many)) t)
        ∙ each (λ t g. size_of g ≡ size_then t q o (was t)) (pools_of pools) q.seat now then_here then_else t
        ∙ sym (size_more t [] (parts_held w h) h.outs o q (size_at d t) (next_from w h q next))

  abbrev p : Plan
  p = (hold d h pools callers k).plan

  same_parts : parts_held w h ≡ p.parts
  same_parts = parts_are d h pools callers k

  none_left : next_visit w h ≡ None → first_ends (parts_held w h) h.outs ≡ None → next_part [] (parts_held w h) h.outs ≡ None
  unfolding next_visit
  none_left e f = ap (λ (x : Option Refusal). elim x [ Some y ↦ None | None ↦ next_part [] (parts_held w h) h.outs ]) (sym f) ∙ e

  ends_sized : next_visit w h ≡ None → (o : Option Refusal) → first_ends p.parts h.outs ≡ o → (t : ℕ) → size_along t p.parts h.outs (size_at d t) ≡ size_at (ended d h.who p o).next t
  ends_sized done (Some why) e t = sizes_stay d (its d h pools callers k).kind h.who h.command p r.settled (home d h pools callers k r) (plans d h pools callers k) h.outs t why e
  ends_sized done None e t =
      pools_have_sizes d (its d h pools callers k).kind h.who h.command p r.settled (home d h pools callers k r) (plans d h pools callers k) h.outs t e
      (ap (λ ps. next_part [] ps h.outs) (sym same_parts) ∙ none_left done (ap (λ ps. first_ends ps h.outs) same_parts ∙ e))

  end_is : command_end w h ≡ ended d h.who p (first_ends p.parts h.outs)
  unfolding desk_end
  end_is = ap (λ x. ended_by d h.who x h.outs) (hold d h pools callers k).planned

  pub leave_sized : next_visit w h ≡ None → (others : List Caller) → Sized (of (command_end w h).next None pools others)
  leave_sized done others t =
      z t ∙ ap (λ ps. size_along t ps h.outs (size_at d t)) same_parts ∙ ends_sized done (first_ends p.parts h.outs) refl t
      ∙ ap (λ (x : Ended). size_at x.next t) (sym end_is)

one : (d : Desk) (o : Option Holder) (pools : List Hold) (callers : List Caller) (e : Event) → Kept (of d o pools callers) → Home (of d o pools callers) → legal (of d o pools callers) e ≡ true
    → Sized (of d o pools callers) → Sized (step (of d o pools callers) e)
unfolding legal desk_after holder_after pools_after act_of
one d None pools callers (take n x) k r l z = take_sized d pools callers n x (caller_at (of d None pools callers) n).who (planned d (caller_at (of d None pools callers) n).who x) z
one d (Some h) pools callers (take n x) k r l z =
    absurd (true≢false (sym (right_true (is_caller n) false (left_true (is_caller n && false) (is_for_desk x) (left_true (is_caller n && false && is_for_desk x) _ l)))))
one d None pools callers (visit n s) k r l z = absurd (true≢false (sym (right_true (is_caller n) false l)))
one d (Some h) pools callers (visit n s) k r l z =
    let w : World = of d (Some h) pools callers in
    go (next_visit w h) refl (right_true (h.caller == n) (is_part_at s (next_visit w h)) (right_true (is_caller n) (h.caller == n && is_part_at s (next_visit w h)) l))
  where
    go : (q : Option Part) → next_visit (of d (Some h) pools callers) h ≡ q → is_part_at s q ≡ true → Sized (step (of d (Some h) pools callers) (visit n s))
    go None e t = absurd (true≢false (sym t))
    go (Some q) e t = visit_sized d h pools callers k r z n s q e
one d None pools callers (leave n) k r l z = absurd (true≢false (sym (right_true (is_caller n) false l)))
one d (Some h) pools callers (leave n) k r l z =
    let w : World = of d (Some h) pools callers in
    leave_sized d h pools callers k r z (none (next_visit w h) refl (right_true (h.caller == n) (is_none (next_visit w h)) (right_true (is_caller n) (h.caller == n && is_none (next_visit w h)) l))) callers
  where
    none : (q : Option Part) → next_visit (of d (Some h) pools callers) h ≡ q → is_none q ≡ true → next_visit (of d (Some h) pools callers) h ≡ None
    none None e t = e
    none (Some q) e t = absurd (true≢false (sym t))
one d o pools callers (publishes n s number) k r l z =
    let w : World = of d o pools callers in
    sized_aside d o pools callers callers (publishes n s number) (publish_of (pending_of w n s number)) z refl (publish_aside (pending_of w n s number))
one d o pools callers (receives n mode) k r l z =
    let w : World = of d o pools callers in
    sized_aside d o pools callers callers (receives n mode) (act_at (pool_seat (caller_at w n)) (receive mode)) z refl (aside_at (pool_seat (caller_at w n)) (receive mode) (λ a was. refl))
one d o pools callers (reads n number sealed) k r l z =
    let w : World = of d o pools callers in
    sized_aside d o pools callers callers (reads n number sealed) (act_at (pool_seat (caller_at w n)) (read number sealed)) z refl
    (aside_at (pool_seat (caller_at w n)) (read number sealed) (λ a was. refl))
one d o pools callers (frees n number) k r l z =
    let w : World = of d o pools callers in
    sized_aside d o pools callers callers (frees n number) (free_of (pool_seat (caller_at w n)) number (hand_entry (caller_at w n) number)) z refl
    (free_aside (pool_seat (caller_at w n)) number (hand_entry (caller_at w n) number))

sized_on : (w : World) (es : List Event) → all_legal w es ≡ true → Kept w → Home w → Sized w → Sized (world_after w es)
unfolding all_legal world_after
sized_on w [] l k r z = z
sized_on w (e ∷ es) l k r z =
    let first : legal w e ≡ true = left_true (legal w e) (all_legal (step w e) es) l in
    sized_on (step w e) es (right_true (legal w e) (all_legal (step w e) es) l) (kept_on w (e ∷ []) (ap (λ b. b && true) first) k)
    (home_on w (e ∷ []) (ap (λ b. b && true) first) k r) (one w.desk w.holder w.pools w.callers e k r first z)

opening_sized : (creator size hashes : ℕ) → Sized (new_world creator size hashes)
unfolding new_world opening_desk size_at
opening_sized creator size hashes s = ap size_of (alike 64 s closed_pool)

pub reached_sized : (w : World) → IsReached w → Sized w
reached_sized w r =
    let opened : World = new_world r.creator r.size r.hashes in
    subst Sized r.world (sized_on opened r.events r.legal (opening_keeps r.creator r.size r.hashes) (opening_home r.creator r.size r.hashes) (opening_sized r.creator r.size r.hashes))

-- ---- the laws

by_free : {X : Type 0} (o : Option Holder) (a : X) (f : Holder → X) → IsNone o → elim o [ None ↦ a | Some h ↦ f h ] ≡ a
by_free None a f nobody = refl
by_free (Some h) a f nobody = absurd (true≢false nobody)

pub open_pools_are_live : OpenPoolsAreLive
open_pools_are_live w s r nobody =
    (reached_keeps w r).agrees.opens s ∙ by_free w.holder (is_live w.desk s) (λ h. open_along s (parts_held w h) h.outs (is_live w.desk s)) nobody

pub open_pools_are_sized : OpenPoolsAreSized
open_pools_are_sized w s r nobody = reached_sized w r s ∙ by_free w.holder (size_at w.desk s) (λ h. size_along s (parts_held w h) h.outs (size_at w.desk s)) nobody

pub open_pools_so_far : OpenPoolsSoFar
open_pools_so_far w s h r e = (
  (reached_keeps w r).agrees.opens s ∙ ap (λ (o : Option Holder). elim o [ None ↦ is_live w.desk s | Some h ↦ open_along s (parts_held w h) h.outs (is_live w.desk s) ]) e,
  reached_sized w r s ∙ ap (λ (o : Option Holder). elim o [ None ↦ size_at w.desk s | Some h ↦ size_along s (parts_held w h) h.outs (size_at w.desk s) ]) e,
)
