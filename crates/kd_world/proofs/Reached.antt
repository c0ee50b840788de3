-- Whatever legal events lead to: hands agree with pools there.
use Rattle.std.specs.Prelude.{◌≡◌, ◌-◌, ◌==◌, ◌&&◌, ℕ, true, false, not, List, [], ◌∷◌, ◌++◌, replicate, refl, Option, Some, None, is_none, is_some}
use Rattle.std.specs.List.{IsDistinct}
use Rattle.std.proofs.Common.{ap, sym, subst, ◌∙◌, eqb-true}
use Rattle.std.proofs.lemmas.Bool.{true≢false}
use Rattle.kd_wire.specs.WellFormed.{is_well_formed}
use Rattle.kd_acts.specs.State.{Hold}
use Rattle.kd_commands.specs.declared.who.WhoKind.TheVariants as who
use Rattle.kd_commands.specs.State.{Desk, opening_desk}
use Rattle.kd_commands.specs.Plans.{Part}
use Rattle.kd_commands.specs.Seating.{is_live}
use Rattle.kd_world.specs.State.{Caller, Holder, World, closed_pool, new_world, caller_at, stranger}
use Rattle.kd_world.specs.Planner.{planned}
use Rattle.kd_world.specs.Holding.{holds_desk, next_visit}
use Rattle.kd_world.specs.Own.{pending_of}
use Rattle.kd_world.specs.Legal.{Event, frees, is_caller, is_for_desk, is_part_at, leave, legal, publishes, reads, receives, take, visit}
use Rattle.kd_world.specs.Step.{step}
use Rattle.kd_world.specs.Runs.{all_legal, world_after, IsReached}
use Rattle.kd_world.specs.Agreed.{HandsAlwaysAgree}
use Rattle.kd_model.proofs.Truth.{left_true, no_some, right_true}
use Rattle.kd_world.proofs.Tied.{of}
use Rattle.kd_world.proofs.Agreeing.{Agrees}
use Rattle.kd_world.proofs.Acts.{with_faces, with_pools}
use Rattle.kd_world.proofs.Moving.{alike, nothing_told}
use Rattle.kd_world.proofs.Holders.{Kept, face_of, faces_of, leave_keeps, pools_of, take_is, take_keeps, visit_keeps}
use Rattle.kd_world.proofs.Own.{free_keeps, publish_keeps, read_keeps, receive_keeps}

-- ---- the opening

opening_agrees : (creator size hashes : ℕ) → Agrees (opening_desk creator size hashes) (λ _. closed_pool) (λ _. face_of stranger) (is_live (opening_desk creator size hashes))
unfolding opening_desk IsDistinct
opening_agrees creator size hashes = record {
  seated = record { old_ids = tt; own_ids = tt; few_seats = tt; own_seats = tt; unblocked = tt };
  numbered = λ _. tt;
  opens = λ _. refl;
  wide = λ _. refl;
  known = λ _. tt;
  bare = λ i n h. absurd (true≢false (sym h ∙ nothing_told n));
  apart = λ i j id s ne m. absurd (let f : who.Fresh ≡ who.Conn id s = m in cc);
  agreed = λ i id s n m o. absurd (true≢false (sym o));
  unowned = λ _ _ _. refl;
}

pub opening_keeps : (creator size hashes : ℕ) → Kept (new_world creator size hashes)
unfolding new_world
opening_keeps creator size hashes = record {
  agrees = with_pools (opening_desk creator size hashes) (λ _. closed_pool) (pools_of (replicate 64 closed_pool)) (faces_of (replicate 64 stranger)) (is_live (opening_desk creator size hashes))
      (λ k. sym (alike 64 k closed_pool))
      (with_faces (opening_desk creator size hashes) (λ _. closed_pool) (λ _. face_of stranger) (faces_of (replicate 64 stranger)) (is_live (opening_desk creator size hashes))
      (λ i. sym (ap face_of (alike 64 i stranger))) (opening_agrees creator size hashes));
  many_callers = refl;
  many_pools = refl;
  held = λ h e. absurd (no_some e);
}

-- ---- one event, and any number

one : (d : Desk) (o : Option Holder) (pools : List Hold) (callers : List Caller) (e : Event) → Kept (of d o pools callers) → legal (of d o pools callers) e ≡ true
    → Kept (step (of d o pools callers) e)
unfolding legal
one d None pools callers (take n x) k l =
    let who = (caller_at (of d None pools callers) n).who in
    let fits = left_true (is_caller n && true && is_for_desk x) (is_well_formed x) l in
    let named = left_true (is_caller n) true (left_true (is_caller n && true) (is_for_desk x) fits) in
    subst Kept (take_is d pools callers n x) (take_keeps d pools callers n x k named (planned d who x) refl)
one d (Some h) pools callers (take n x) k l =
    absurd (true≢false (sym (right_true (is_caller n) false (left_true (is_caller n && false) (is_for_desk x) (left_true (is_caller n && false && is_for_desk x) (is_well_formed x) l)))))
one d None pools callers (visit n s) k l = absurd (true≢false (sym (right_true (is_caller n) false l)))
one d (Some h) pools callers (visit n s) k l =
    go (next_visit (of d (Some h) pools callers) h) refl
    (right_true (h.caller == n) (is_part_at s (next_visit (of d (Some h) pools callers) h)) (right_true (is_caller n) (h.caller == n && is_part_at s (next_visit (of d (Some h) pools callers) h)) l))
  where
    go : (q : Option Part) → next_visit (of d (Some h) pools callers) h ≡ q → is_part_at s q ≡ true → Kept (step (of d (Some h) pools callers) (visit n s))
    go None e t = absurd (true≢false (sym t))
    go (Some q) e t = visit_keeps d h pools callers k n s q e
one d None pools callers (leave n) k l = absurd (true≢false (sym (right_true (is_caller n) false l)))
one d (Some h) pools callers (leave n) k l =
    let both = right_true (is_caller n) (h.caller == n && is_none (next_visit (of d (Some h) pools callers) h)) l in
    go (next_visit (of d (Some h) pools callers) h) refl (eqb-true h.caller n (left_true (h.caller == n) (is_none (next_visit (of d (Some h) pools callers) h)) both))
    (right_true (h.caller == n) (is_none (next_visit (of d (Some h) pools callers) h)) both)
  where
    go : (q : Option Part) → next_visit (of d (Some h) pools callers) h ≡ q → h.caller ≡ n → is_none q ≡ true → Kept (step (of d (Some h) pools callers) (leave n))
    go (Some q) e z t = absurd (true≢false (sym t))
    go None e z t = subst (λ m. Kept (step (of d (Some h) pools callers) (leave m))) z
        (leave_keeps d h pools callers k e)
one d o pools callers (publishes n s number) k l =
    let w : World = of d o pools callers in
    publish_keeps d o pools callers k n
    (left_true (is_caller n) (not (holds_desk w n)) (left_true (is_caller n && not (holds_desk w n)) (is_some (pending_of w n s number)) l)) s number
    (right_true (is_caller n && not (holds_desk w n)) (is_some (pending_of w n s number)) l)
one d o pools callers (receives n mode) k l =
    let w : World = of d o pools callers in
    receive_keeps d o pools callers k n
    (left_true (is_caller n) (not (holds_desk w n)) (left_true (is_caller n && not (holds_desk w n)) (not (mode.peek && mode.drop_it)) l)) mode
one d o pools callers (reads n number sealed) k l =
    let w : World = of d o pools callers in
    read_keeps d o pools callers k n (left_true (is_caller n) (not (holds_desk w n)) l) number sealed
one d o pools callers (frees n number) k l =
    let w : World = of d o pools callers in
    free_keeps d o pools callers k n (left_true (is_caller n) (not (holds_desk w n)) l) number

pub kept_on : (w : World) (es : List Event) → all_legal w es ≡ true → Kept w → Kept (world_after w es)
unfolding all_legal world_after
kept_on w [] l k = k
kept_on w (e ∷ es) l k =
    kept_on (step w e) es (right_true (legal w e) (all_legal (step w e) es) l) (one w.desk w.holder w.pools w.callers e k (left_true (legal w e) (all_legal (step w e) es) l))

pub reached_keeps : (w : World) → IsReached w → Kept w
reached_keeps w r = subst Kept r.world (kept_on (new_world r.creator r.size r.hashes) r.events r.legal (opening_keeps r.creator r.size r.hashes))

pub hands_always_agree : HandsAlwaysAgree
hands_always_agree w r n id seat number is m up = (reached_keeps w r).agrees.agreed (n - 1) id seat number m up

-- ---- further on

runs_more : (w : World) (es : List Event) (e : Event) → world_after w (es ++ e ∷ []) ≡ step (world_after w es) e
unfolding world_after
runs_more w [] e = refl
runs_more w (x ∷ es) e = runs_more (step w x) es e

legal_more : (w : World) (es : List Event) (e : Event) → all_legal w es ≡ true → legal (world_after w es) e ≡ true → all_legal w (es ++ e ∷ []) ≡ true
unfolding all_legal world_after
legal_more w [] e l m = ap (λ b. b && true) m
legal_more w (x ∷ es) e l m =
    ap (λ b. b && all_legal (step w x) (es ++ e ∷ [])) (left_true (legal w x) (all_legal (step w x) es) l)
    ∙ legal_more (step w x) es e (right_true (legal w x) (all_legal (step w x) es) l) m

-- a legal event leads on
pub reached_on : (w : World) (e : Event) → legal w e ≡ true → IsReached w → IsReached (step w e)
reached_on w e l r =
    let opened : World = new_world r.creator r.size r.hashes in record {
      creator = r.creator;
      size = r.size;
      hashes = r.hashes;
      events = r.events ++ e ∷ [];
      legal = legal_more opened r.events e r.legal (ap (λ x. legal x e) r.world ∙ l);
      world = runs_more opened r.events e ∙ ap (λ x. step x e) r.world;
    }

pub reached_at_first : (creator size hashes : ℕ) → IsReached (new_world creator size hashes)
unfolding all_legal world_after
reached_at_first creator size hashes = record { creator = creator; size = size; hashes = hashes; events = []; legal = refl; world = refl }
