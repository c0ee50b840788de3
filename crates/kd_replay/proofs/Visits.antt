-- The visits of whoever holds the desk.
use Rattle.std.proofs.Common.{◌≡◌, ℕ, zero, suc, ◌+◌, ◌-◌, ◌≤◌, ◌<◌, true, List, [], ◌∷◌, ◌++◌, length, length-append, append_assoc, Option, Some, None, refl, sym, ap, ◌∙◌, eq-eqb, arith}
use Rattle.std.specs.Prelude.{option_map}
use Rattle.std.proofs.lemmas.List.{append-nil}
use Rattle.kd_types.specs.declared.refusal.Refusal.{Refusal}
use Rattle.kd_acts.specs.State.{Answer, Hold, Image}
use Rattle.kd_commands.specs.State.{Desk}
use Rattle.kd_commands.specs.Plans.{Part}
use Rattle.kd_commands.specs.Visits.{first_ends, images_in, next_part}
use Rattle.kd_world.specs.State.{World, Holder, Caller}
use Rattle.kd_world.specs.Holding.{parts_held, next_visit, holds_desk}
use Rattle.kd_world.specs.Legal.{Event, visit, leave, is_caller, is_part_at, legal}
use Rattle.kd_world.specs.Pools.{pool_answer}
use Rattle.kd_world.specs.Step.{holder_after, desk_after, step}
use Rattle.kd_world.specs.Runs.{world_after}
use Rattle.kd_world.specs.Whole.{next_seat, part_count, visits, visits_run}
use Rattle.kd_replay.specs.Events.{visits_of}
use Rattle.kd_model.proofs.Truth.{no_some}
use Rattle.kd_world.proofs.Tied.{of}
use Rattle.kd_replay.proofs.Holding.{callers_stay}
use Rattle.kd_replay.proofs.Along.{one_more_run}

-- how many visits are left at most
abbrev pub remaining : World → ℕ
remaining w = elim w.holder [ None ↦ 0 | Some h ↦ length (parts_held w h) - length h.outs ]

next_inside : (is : List Image) (ps : List Part) (outs : List Answer) (p : Part) → next_part is ps outs ≡ Some p → length outs < length ps
unfolding next_part
next_inside is [] outs p e = absurd (no_some e)
next_inside is (q ∷ ps) [] p e = omega arith
next_inside is (q ∷ ps) (o ∷ outs) p e = omega (arith, next_inside (is ++ images_in o) ps outs p e)

next_of : (w : World) (h : Holder) (p : Part) (r : Option Refusal) → elim r [ Some x ↦ None | None ↦ next_part [] (parts_held w h) h.outs ] ≡ Some p → length h.outs < length (parts_held w h)
next_of w h p (Some x) e = absurd (no_some e)
next_of w h p None e = next_inside [] (parts_held w h) h.outs p e

visit_inside : (w : World) (h : Holder) (p : Part) → next_visit w h ≡ Some p → length h.outs < length (parts_held w h)
unfolding next_visit
visit_inside w h p e = next_of w h p (first_ends (parts_held w h) h.outs) e

-- a seat comes of a part
pub record Next (w : World) (h : Holder) (s : ℕ) : Type 0 where
  pub inside : length h.outs < length (parts_held w h)
  pub there : is_part_at s (next_visit w h) ≡ true

seat_of_part : (w : World) (h : Holder) (s : ℕ) (o : Option Part) → o ≡ next_visit w h → option_map (λ (p : Part). p.seat) o ≡ Some s → Next w h s
seat_of_part w h s None is e = absurd (no_some e)
seat_of_part w h s (Some p) is e =
    let same : p.seat ≡ s = cc in
    record { inside = visit_inside w h p (sym is); there = rw (← is) (eq-eqb p.seat s same) }

-- one visit fewer is left behind a visit
pub record IsVisited (w : World) (n s : ℕ) : Type 0 where
  pub fewer : remaining (step w (visit n s)) + 1 ≡ remaining w
  pub holds : holds_desk (step w (visit n s)) n ≡ true
  pub may : is_caller n ≡ true → legal w (visit n s) ≡ true

one_visit : (d : Desk) (o : Option Holder) (pools : List Hold) (callers : List Caller) (n s : ℕ) → next_seat (of d o pools callers) ≡ Some s → holds_desk (of d o pools callers) n ≡ true → IsVisited (of d o pools callers) n s
unfolding legal holder_after desk_after
one_visit d None pools callers n s e h = absurd (no_some e)
one_visit d (Some holder) pools callers n s e h =
    let w : World = of d (Some holder) pools callers in
    let x = seat_of_part w holder s (next_visit w holder) refl e in
    record {
      fewer = omega (arith, x.inside, length-append holder.outs (pool_answer w (visit n s) ∷ []));
      holds = h;
      may = λ c. rw (c, h, x.there) refl;
    }

pub visited_one : (w : World) (n s : ℕ) → next_seat w ≡ Some s → holds_desk w n ≡ true → IsVisited w n s
visited_one w n s e h = one_visit w.desk w.holder w.pools w.callers n s e h

-- so far, behind these events: what is left of all visits
pub record Visiting (start now : World) (n : ℕ) (es : List Event) : Type 0 where
  pub fuel : ℕ
  pub same : visits fuel n now ≡ visits_run start n
  pub left : es ++ visits_of fuel n now ≡ visits_of (part_count start) n start
  pub reached : now ≡ world_after start es
  pub enough : remaining now ≤ fuel
  pub holds : holds_desk now n ≡ true
  pub callers : length now.callers ≡ length start.callers

pub fuel_at_first : (w : World) (o : Option Holder) → o ≡ w.holder → remaining w ≤ part_count w
fuel_at_first w None e = rw (← e) (omega arith)
fuel_at_first w (Some h) e = rw (← e) (omega arith)

pub visiting_first : (w : World) (n : ℕ) → holds_desk w n ≡ true → Visiting w w n []
unfolding world_after
visiting_first w n h = record { fuel = part_count w; same = refl; left = refl; reached = refl; enough = fuel_at_first w w.holder refl; holds = h; callers = refl }

go_on : (start now : World) (n s k : ℕ) (es : List Event) → visits k n now ≡ visits_run start n → es ++ visits_of k n now ≡ visits_of (part_count start) n start → now ≡ world_after start es → remaining now ≤ k
    → length now.callers ≡ length start.callers → next_seat now ≡ Some s → IsVisited now n s → Visiting start (step now (visit n s)) n (es ++ visit n s ∷ [])
unfolding visits visits_of
go_on start now n s zero es same left reached enough callers next v = absurd (let bad : ⊥ = omega (arith, v.fewer, enough) in bad)
go_on start now n s (suc k) es same left reached enough callers next v =
    let mid : World = step now (visit n s) in
    let opened : visits (suc k) n now ≡ visits k n mid = ap (λ (o : Option ℕ). elim o [ None ↦ now | Some t ↦ visits k n (step now (visit n t)) ]) next in
    let events : visits_of (suc k) n now ≡ visit n s ∷ visits_of k n mid = ap (λ (o : Option ℕ). elim o [ None ↦ [] | Some t ↦ visit n t ∷ visits_of k n (step now (visit n t)) ]) next in
    record {
      fuel = k;
      same = sym opened ∙ same;
      left = append_assoc es (visit n s ∷ []) (visits_of k n mid) ∙ ap (λ (l : List Event). es ++ l) (sym events) ∙ left;
      reached = one_more_run start now es (visit n s) reached;
      enough = omega (arith, v.fewer, enough);
      holds = v.holds;
      callers = callers_stay now (visit n s) ∙ callers;
    }

pub visiting_more : (start now : World) (n s : ℕ) (es : List Event) → Visiting start now n es → next_seat now ≡ Some s → Visiting start (step now (visit n s)) n (es ++ visit n s ∷ [])
visiting_more start now n s es v next = go_on start now n s v.fuel es v.same v.left v.reached v.enough v.callers next (visited_one now n s next v.holds)

none_left : (k n : ℕ) (w : World) → next_seat w ≡ None → visits k n w ≡ w
unfolding visits
none_left zero n w e = refl
none_left (suc k) n w e = ap (λ (o : Option ℕ). elim o [ None ↦ w | Some t ↦ visits k n (step w (visit n t)) ]) e

no_visits : (k n : ℕ) (w : World) → next_seat w ≡ None → visits_of k n w ≡ []
unfolding visits_of
no_visits zero n w e = refl
no_visits (suc k) n w e = ap (λ (o : Option ℕ). elim o [ None ↦ [] | Some t ↦ visit n t ∷ visits_of k n (step w (visit n t)) ]) e

pub visiting_ends : (start now : World) (n : ℕ) (es : List Event) → Visiting start now n es → next_seat now ≡ None → now ≡ visits_run start n
visiting_ends start now n es v e = sym (none_left v.fuel n now e) ∙ v.same

pub visited_all : (start now : World) (n : ℕ) (es : List Event) → Visiting start now n es → next_seat now ≡ None → es ≡ visits_of (part_count start) n start
visited_all start now n es v e = sym (append-nil es) ∙ ap (λ (l : List Event). es ++ l) (sym (no_visits v.fuel n now e)) ∙ v.left

no_part : (w : World) (h : Holder) (o : Option Part) → o ≡ next_visit w h → option_map (λ (p : Part). p.seat) o ≡ None → next_visit w h ≡ None
no_part w h None is e = sym is
no_part w h (Some p) is e = absurd cc

one_leave : (d : Desk) (o : Option Holder) (pools : List Hold) (callers : List Caller) (n : ℕ) → next_seat (of d o pools callers) ≡ None → holds_desk (of d o pools callers) n ≡ true → is_caller n ≡ true → legal (of d o pools callers) (leave n) ≡ true
unfolding legal
one_leave d None pools callers n e h c = absurd cc
one_leave d (Some holder) pools callers n e h c =
    let w : World = of d (Some holder) pools callers in
    let x : next_visit w holder ≡ None = no_part w holder (next_visit w holder) refl e in
    rw (c, h, x) refl

-- behind all visits the holder may leave
pub leave_may : (w : World) (n : ℕ) → next_seat w ≡ None → holds_desk w n ≡ true → is_caller n ≡ true → legal w (leave n) ≡ true
leave_may w n e h c = one_leave w.desk w.holder w.pools w.callers n e h c
