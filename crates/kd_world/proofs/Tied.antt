-- The tie between the desk's history and the pools' histories.
use Rattle.std.specs.Prelude.{◌≡◌, ℕ, Bool, true, false, ◌&&◌, List, [], ◌∷◌, ◌++◌, Option, Some, None, Result, Ok, Err, ◌==◌, option_map, IsNone, refl}
use Rattle.std.proofs.Common.{sym, ap, ◌∙◌, append-nil, append_assoc}
use Rattle.kd_model.proofs.Truth.{left_true, no_some, right_true, same_some}
use Rattle.std.proofs.lemmas.Bool.{true≢false}
use Rattle.kd_types.specs.declared.refusal.Refusal.{Refusal}
use Rattle.kd_wire.specs.declared.command.Command.{Command}
use Rattle.kd_acts.specs.State.{Hold, Visit, Act, by_desk, Answer, Image, publish, receive, read, free}
use Rattle.kd_commands.specs.declared.who.Who.{Who}
use Rattle.kd_commands.specs.State.{Desk, opening_desk}
use Rattle.kd_commands.specs.Plans.{Part, Plan}
use Rattle.kd_commands.specs.Visits.{first_ends, images_in, met, next_part, parts_visited}
use Rattle.kd_commands.specs.Step.{parts_in}
use Rattle.kd_world.specs.declared.told.Told.{Told}
use Rattle.kd_world.specs.declared.told.Told.TheVariants.{Peeked, Handed}
use Rattle.kd_wire.specs.WellFormed.{is_well_formed}
use Rattle.kd_world.specs.Addressed.{DeskEntry, desk_behind, desk_entry, at_seat, acts_at, parts_addressed}
use Rattle.kd_world.specs.State.{Pending, World, Caller, Holder, new_world, caller_at}
use Rattle.kd_world.specs.Planner.{parts_planned, planned, desk_end}
use Rattle.kd_world.specs.Holding.{next_visit, parts_held}
use Rattle.kd_world.specs.Own.{pending_of, pool_seat, hand_entry}
use Rattle.kd_world.specs.Legal.{Event, take, visit, leave, publishes, receives, reads, frees, legal, is_part_at, is_caller, is_for_desk}
use Rattle.kd_world.specs.Pools.{aimed, act_at, act_of, pool_answer, publish_of, free_of}
use Rattle.kd_world.specs.Step.{step, desk_after, holder_after}
use Rattle.kd_world.specs.Runs.{world_after, all_legal}
use Rattle.kd_world.specs.Tie.{held_entry, desk_adds, act_on, pool_adds, desk_history, pool_history, visit_in, visits_made, visited_at, AddressedIsOffered, OfferedSoFar}

pub made_append : (xs ys : List Act) → visits_made (xs ++ ys) ≡ visits_made xs ++ visits_made ys
unfolding visits_made
made_append [] ys = refl
made_append (x ∷ xs) ys = ap (visit_in x ++◌) (made_append xs ys) ∙ sym (append_assoc (visit_in x) (visits_made xs) (visits_made ys))

pub acts_at_append : (c : ℕ) (ps qs : List Part) → acts_at c (ps ++ qs) ≡ acts_at c ps ++ acts_at c qs
unfolding acts_at
acts_at_append c [] qs = refl
acts_at_append c (p ∷ ps) qs = ap (at_seat c p ++◌) (acts_at_append c ps qs) ∙ sym (append_assoc (at_seat c p) (acts_at c ps) (acts_at c qs))

visited_none : (is : List Image) (ps : List Part) → parts_visited is ps [] ≡ []
unfolding parts_visited
visited_none is [] = refl
visited_none is (p ∷ ps) = refl

acts_at_one : (c : ℕ) (p : Part) → acts_at c (p ∷ []) ≡ at_seat c p
unfolding acts_at
acts_at_one c p = append-nil (at_seat c p)

made_nil : (v : List Visit) (c : ℕ) (d : Desk) → v ++ visits_made [] ≡ parts_addressed planned d c [] ++ v
unfolding visits_made parts_addressed
made_nil v c d = append-nil v

-- one more out: the parts before it, and the part that was next
pub visited_more : (is : List Image) (ps : List Part) (outs : List Answer) (o : Answer) (p : Part) → next_part is ps outs ≡ Some p → parts_visited is ps (outs ++ o ∷ []) ≡ parts_visited is ps outs ++ p ∷ []
unfolding parts_visited next_part
visited_more is [] outs o p e = absurd (no_some e)
visited_more is (q ∷ ps) [] o p e = ap (met is q ∷◌) (visited_none (is ++ images_in o) ps) ∙ ap (◌∷ []) (same_some _ _ e)
visited_more is (q ∷ ps) (x ∷ outs) o p e = ap (met is q ∷◌) (visited_more (is ++ images_in x) ps outs o p e)

-- what other acts than visits leave in `made`: nothing
made_if : (b : Bool) (a : Act) → visit_in a ≡ [] → visits_made (elim b [ true ↦ a ∷ [] | false ↦ [] ]) ≡ []
unfolding visits_made
made_if true a e = rw e refl
made_if false a e = refl

made_publish : (c : ℕ) (q : Option Pending) → visits_made (act_on c (publish_of q)) ≡ []
unfolding visits_made
made_publish c None = refl
made_publish c (Some p) = made_if (p.seat == c) (publish p.generation p.number p.content) refl

made_at : (c : ℕ) (s : Option ℕ) (a : Act) → visit_in a ≡ [] → visits_made (act_on c (act_at s a)) ≡ []
unfolding visits_made
made_at c None a e = refl
made_at c (Some s) a e = made_if (s == c) a e

made_free : (c : ℕ) (s : Option ℕ) (n : ℕ) (t : Option Told) → visits_made (act_on c (free_of s n t)) ≡ []
unfolding visits_made
made_free c s n None = refl
made_free c s n (Some Peeked) = refl
made_free c s n (Some Handed) = made_at c s (free n) refl

-- a visit leaves itself
made_visit : (c : ℕ) (p : Part) → visits_made (act_on c (Some (aimed p))) ≡ at_seat c p
unfolding visits_made
made_visit c p = go (p.seat == c)
  where
    go : (b : Bool) → visits_made (elim b [ true ↦ by_desk p.act ∷ [] | false ↦ [] ]) ≡ elim b [ true ↦ p.act ∷ [] | false ↦ [] ]
    go true = refl
    go false = refl

-- a world by its parts, so that its holder can be taken by cases
abbrev pub of : Desk → Option Holder → List Hold → List Caller → World
of d o pools callers = record { desk = d; holder = o; pools = pools; callers = callers }

-- one event
one_take : (d : Desk) (pools : List Hold) (callers : List Caller) (n : ℕ) (x : Command) (c : ℕ) (r : Result Plan Refusal) → planned d (caller_at (of d None pools callers) n).who x ≡ r
    → [] ≡ parts_addressed planned d c (desk_adds (of d None pools callers) (take n x)) ++ visited_at planned (step (of d None pools callers) (take n x)) c
unfolding parts_addressed desk_adds visited_at holder_after desk_after acts_at
one_take d pools callers n x c (Err r) e = rw (desk_adds, holder_after, visited_at, e, visited_none) refl
one_take d pools callers n x c (Ok p) e = rw (desk_adds, holder_after, visited_at, e, visited_none) refl

-- the part that is visited next is the one after those with outs
pub next_from : (w : World) (h : Holder) (p : Part) → next_visit w h ≡ Some p → next_part [] (parts_held w h) h.outs ≡ Some p
unfolding next_visit
next_from w h p e = go (first_ends (parts_held w h) h.outs) e
  where
    go : (r : Option Refusal) → elim r [ Some x ↦ None | None ↦ next_part [] (parts_held w h) h.outs ] ≡ Some p → next_part [] (parts_held w h) h.outs ≡ Some p
    go (Some x) f = absurd (no_some f)
    go None f = f

one_visit : (d : Desk) (h : Holder) (pools : List Hold) (callers : List Caller) (n s : ℕ) (c : ℕ) (q : Option Part) → next_visit (of d (Some h) pools callers) h ≡ q → is_part_at s q ≡ true
    → visited_at planned (of d (Some h) pools callers) c ++ visits_made (pool_adds (of d (Some h) pools callers) c (visit n s)) ≡ visited_at planned (step (of d (Some h) pools callers) (visit n s)) c
unfolding pool_adds act_of visited_at holder_after desk_after parts_planned
one_visit d h pools callers n s c None e l = absurd (true≢false (sym l))
one_visit d h pools callers n s c (Some p) e l =
    let w : World = of d (Some h) pools callers in
    let before : List Visit = acts_at c (parts_visited [] (parts_held w h) h.outs) in
    let more : parts_visited [] (parts_held w h) (h.outs ++ pool_answer w (visit n s) ∷ []) ≡ parts_visited [] (parts_held w h) h.outs ++ p ∷ [] = visited_more [] (parts_held w h) h.outs (pool_answer w (visit n s)) p (next_from w h p e) in
    let this : visits_made (act_on c (option_map aimed (next_visit w h))) ≡ at_seat c p = ap (λ q. visits_made (act_on c (option_map aimed q))) e ∙ made_visit c p in
    ap (before ++◌) this ∙ sym (ap (acts_at c) more ∙ acts_at_append c (parts_visited [] (parts_held w h) h.outs) (p ∷ []) ∙ ap (before ++◌) (acts_at_one c p))

one : (d : Desk) (o : Option Holder) (pools : List Hold) (callers : List Caller) (e : Event) (c : ℕ) → legal (of d o pools callers) e ≡ true
    → visited_at planned (of d o pools callers) c ++ visits_made (pool_adds (of d o pools callers) c e) ≡ parts_addressed planned d c (desk_adds (of d o pools callers) e) ++ visited_at planned (step (of d o pools callers) e) c
unfolding legal pool_adds act_of visited_at holder_after desk_after desk_adds parts_addressed visits_made acts_at
one d None pools callers (take n x) c l = one_take d pools callers n x c (planned d (caller_at (of d None pools callers) n).who x) refl
one d (Some h) pools callers (take n x) c l = absurd (true≢false (sym (right_true (is_caller n) false (left_true (is_caller n && false) (is_for_desk x) (left_true (is_caller n && false && is_for_desk x) (is_well_formed x) l)))))
one d None pools callers (visit n s) c l = refl
one d (Some h) pools callers (visit n s) c l = one_visit d h pools callers n s c (next_visit (of d (Some h) pools callers) h) refl (right_true (h.caller == n) (is_part_at s (next_visit (of d (Some h) pools callers) h)) (right_true (is_caller n) (h.caller == n && is_part_at s (next_visit (of d (Some h) pools callers) h)) l))
one d None pools callers (leave n) c l = refl
one d (Some h) pools callers (leave n) c l = sym (append-nil (acts_at c (parts_visited [] (parts_in (planned d h.who h.command)) h.outs) ++ []))
one d o pools callers (publishes n s number) c l = ap (visited_at planned (of d o pools callers) c ++◌) (made_publish c (pending_of (of d o pools callers) n s number)) ∙ append-nil (visited_at planned (of d o pools callers) c)
one d o pools callers (receives n mode) c l = ap (visited_at planned (of d o pools callers) c ++◌) (made_at c (pool_seat (caller_at (of d o pools callers) n)) (receive mode) refl) ∙ append-nil (visited_at planned (of d o pools callers) c)
one d o pools callers (reads n number wants) c l = ap (visited_at planned (of d o pools callers) c ++◌) (made_at c (pool_seat (caller_at (of d o pools callers) n)) (read number wants) refl) ∙ append-nil (visited_at planned (of d o pools callers) c)
one d o pools callers (frees n number) c l = ap (visited_at planned (of d o pools callers) c ++◌) (made_free c (pool_seat (caller_at (of d o pools callers) n)) number (hand_entry (caller_at (of d o pools callers) n) number)) ∙ append-nil (visited_at planned (of d o pools callers) c)

-- a refused command leaves the desk as it is
refused_stays : (d : Desk) (n : ℕ) (w : Who) (x : Command) (outs : List Answer) (r : Refusal) → planned d w x ≡ Err r → desk_behind planned d (desk_entry n w x outs) ≡ d
refused_stays d n w x outs r e = rw (desk_behind, e) refl

later_refused : (d : Desk) (n : ℕ) (w : Who) (x : Command) (c : ℕ) (hs : List DeskEntry) (r : Refusal) → planned d w x ≡ Err r → parts_addressed planned d c (desk_entry n w x [] ∷ hs) ≡ parts_addressed planned d c hs
unfolding parts_addressed acts_at
later_refused d n w x c hs r e = rw (visited_none) (ap (λ s. parts_addressed planned s c hs) (refused_stays d n w x [] r e))

-- the desk's entry of an event, and the rest from the desk after it
later_take : (d : Desk) (o : Option Holder) (pools : List Hold) (callers : List Caller) (n : ℕ) (x : Command) (c : ℕ) (hs : List DeskEntry) (r : Result Plan Refusal) → planned d (caller_at (of d o pools callers) n).who x ≡ r
    → parts_addressed planned d c (desk_adds (of d o pools callers) (take n x) ++ hs) ≡ parts_addressed planned d c (desk_adds (of d o pools callers) (take n x)) ++ parts_addressed planned d c hs
unfolding parts_addressed desk_adds
later_take d o pools callers n x c hs (Err r) e =
    let w : Who = (caller_at (of d o pools callers) n).who in
    rw (desk_adds, e) (later_refused d n w x c hs r e ∙ ap (◌++ parts_addressed planned d c hs) (sym (later_refused d n w x c [] r e)))
later_take d o pools callers n x c hs (Ok p) e = rw (desk_adds, e) refl

later : (d : Desk) (o : Option Holder) (pools : List Hold) (callers : List Caller) (e : Event) (c : ℕ) (hs : List DeskEntry) → parts_addressed planned d c (desk_adds (of d o pools callers) e ++ hs) ≡ parts_addressed planned d c (desk_adds (of d o pools callers) e) ++ parts_addressed planned (desk_after (of d o pools callers) e) c hs
unfolding desk_adds desk_after parts_addressed desk_end
later d o pools callers (take n x) c hs = later_take d o pools callers n x c hs (planned d (caller_at (of d o pools callers) n).who x) refl
later d None pools callers (leave n) c hs = refl
later d (Some h) pools callers (leave n) c hs = ap (◌++ parts_addressed planned (desk_behind planned d (held_entry h)) c hs) (sym (append-nil (acts_at c (parts_visited [] (parts_in (planned d h.who h.command)) h.outs))))
later d o pools callers (visit n s) c hs = refl
later d o pools callers (publishes n s number) c hs = refl
later d o pools callers (receives n mode) c hs = refl
later d o pools callers (reads n number wants) c hs = refl
later d o pools callers (frees n number) c hs = refl

-- all events
pub tied : (w : World) (es : List Event) (c : ℕ) → all_legal w es ≡ true → visited_at planned w c ++ visits_made (pool_history w c es) ≡ parts_addressed planned w.desk c (desk_history w es) ++ visited_at planned (world_after w es) c
unfolding all_legal pool_history desk_history world_after
tied w [] c l = made_nil (visited_at planned w c) c w.desk
tied w (e ∷ es) c l =
    let v : List Visit = visited_at planned w c in
    let a : List Act = pool_adds w c e in
    let b : List Act = pool_history (step w e) c es in
    let d : List DeskEntry = desk_adds w e in
    let r : List DeskEntry = desk_history (step w e) es in
    let v' : List Visit = visited_at planned (step w e) c in
    let end : List Visit = visited_at planned (world_after (step w e) es) c in
    let here : v ++ visits_made a ≡ parts_addressed planned w.desk c d ++ v' = one w.desk w.holder w.pools w.callers e c (left_true (legal w e) (all_legal (step w e) es) l) in
    let there : v' ++ visits_made b ≡ parts_addressed planned (desk_after w e) c r ++ end = tied (step w e) es c (right_true (legal w e) (all_legal (step w e) es) l) in
    ap (v ++◌) (made_append a b)
    ∙ sym (append_assoc v (visits_made a) (visits_made b))
    ∙ ap (◌++ visits_made b) here
    ∙ append_assoc (parts_addressed planned w.desk c d) v' (visits_made b)
    ∙ ap (parts_addressed planned w.desk c d ++◌) there
    ∙ sym (append_assoc (parts_addressed planned w.desk c d) (parts_addressed planned (desk_after w e) c r) end)
    ∙ ap (◌++ end) (sym (later w.desk w.holder w.pools w.callers e c r))

pub offered_so_far : OfferedSoFar
unfolding visited_at new_world
offered_so_far creator size hashes es c l = tied (new_world creator size hashes) es c l

nobody_visits : (w : World) (c : ℕ) (o : Option Holder) → w.holder ≡ o → IsNone o → visited_at planned w c ≡ []
unfolding visited_at
nobody_visits w c None e h = rw (visited_at, e) refl
nobody_visits w c (Some x) e h = absurd (true≢false h)

pub addressed_is_offered : AddressedIsOffered
addressed_is_offered creator size hashes es c l h =
    let w : World = world_after (new_world creator size hashes) es in
    let made_parts : List Visit = parts_addressed planned (opening_desk creator size hashes) c (desk_history (new_world creator size hashes) es) in
    offered_so_far creator size hashes es c l ∙ ap (made_parts ++◌) (nobody_visits w c w.holder refl h) ∙ append-nil made_parts
