-- The desk is settled and callers are at home, along every list of legal events.
use Rattle.std.specs.Prelude.{◌≡◌, ◌≢◌, ◌⊎◌, ◌<◌, ◌-◌, ◌==◌, ◌&&◌, ℕ, Bool, true, false, not, List, [], ◌∷◌, length, get_or, set, refl, Option, Some, None, Ok, is_none, is_some}
use Rattle.std.proofs.Common.{ap, sym, subst, ◌∙◌, arith, inl, inr, eqb-true}
use Rattle.std.proofs.lemmas.Bool.{true≢false}
use Rattle.std.proofs.lemmas.Bool.Decides.{nat_tests}
use Rattle.kd_types.specs.declared.creds.Kind.{Kind}
use Rattle.kd_types.specs.declared.creds.Kind.TheVariants.{Ordinary}
use Rattle.kd_types.specs.declared.refusal.Refusal.{Refusal}
use Rattle.kd_model.proofs.Truth.{left_true, right_true}
use Rattle.kd_acts.specs.State.{Hold}
use Rattle.kd_commands.specs.declared.who.Who.{Who}
use Rattle.kd_commands.specs.declared.who.WhoKind.{WhoKind}
use Rattle.kd_commands.specs.declared.who.WhoKind.TheVariants as who
use Rattle.kd_commands.specs.Plans.{Plan}
use Rattle.kd_commands.specs.Seating.{IsKnown}
use Rattle.kd_commands.specs.State.{Desk, opening_desk}
use Rattle.kd_commands.specs.Step.{Ended, ended, ended_by, plan}
use Rattle.kd_commands.specs.Visits.{first_ends}
use Rattle.kd_settled.specs.Callers.{IsApart}
use Rattle.kd_settled.specs.Owners.{is_there}
use Rattle.kd_settled.specs.Room.{IsAtHome}
use Rattle.kd_settled.specs.Settled.{IsSettled}
use Rattle.kd_settled.proofs.Always.{opens_settled, settled_stays}
use Rattle.kd_settled.proofs.Callers.{callers_are_at_home, keepers_are_new, others_stay_at_home}
use Rattle.kd_world.specs.Callers.{callers_after, has_published, left_caller}
use Rattle.kd_world.specs.Hands.{hand_freed, hand_received}
use Rattle.kd_world.specs.Holding.{command_end, holds_desk, next_visit}
use Rattle.kd_world.specs.Legal.{Event, frees, is_caller, leave, legal, publishes, reads, receives, take, visit}
use Rattle.kd_world.specs.Own.{hand_entry, pending_of}
use Rattle.kd_world.specs.Planner.{desk_end}
use Rattle.kd_world.specs.Pools.{pool_answer}
use Rattle.kd_world.specs.Runs.{IsReached, all_legal, world_after}
use Rattle.kd_world.specs.State.{Caller, Holder, World, caller_at, new_world, stranger}
use Rattle.kd_world.specs.Step.{desk_after, step}
use Rattle.kd_world.proofs.Agreeing.{but_at, each, set_reads}
use Rattle.kd_world.proofs.Holders.{Kept, caller_index, hold, its, knows, plans, same_whos}
use Rattle.kd_world.proofs.Moving.{alike}
use Rattle.kd_world.proofs.Reached.{kept_on, opening_keeps, reached_keeps}
use Rattle.kd_world.proofs.Tied.{of}
use Rattle.kd_runs.specs.Reached.{CallersAreApart, CallersAreHome, DesksAreSettled}

-- who the caller at a place of the list is
abbrev pub member : List Caller → ℕ → WhoKind
member callers i = (get_or callers i stranger).who.member

-- each keeper's endpoint is there, and no two keep one
pub record Keep (d : Desk) (m : ℕ → WhoKind) : Type 0 where
  pub there : (i e : ℕ) → m i ≡ who.Keeper e → is_there d.endpoints e ≡ true
  pub apart : (i j e : ℕ) → j ≢ i → m i ≡ who.Keeper e → m j ≢ who.Keeper e

pub record Home (w : World) : Type 0 where
  pub settled : IsSettled w.desk
  pub keep : Keep w.desk (member w.callers)

with_members : (d : Desk) (m n : ℕ → WhoKind) → ((i : ℕ) → m i ≡ n i) → Keep d m → Keep d n
with_members d m n same = subst (Keep d) (λ t i. same i t)

-- whom the desk knows, and whose endpoint is there, is at home
pub home_of : (d : Desk) (k : Kind) (m : WhoKind) → IsKnown d k m → ((e : ℕ) → m ≡ who.Keeper e → is_there d.endpoints e ≡ true) → IsAtHome d k m
home_of d k who.Fresh known there = tt
home_of d k (who.Conn id s) known there = known
home_of d k (who.Keeper e) known there = there e refl
home_of d k (who.Old s) known there = known

-- ---- one event

same_members : (callers : List Caller) (n : ℕ) (c : Caller) → length callers ≡ 64 → is_caller n ≡ true → c.who ≡ (get_or callers (n - 1) stranger).who
    → (j : ℕ) → member callers j ≡ member (set callers (n - 1) c) j
same_members callers n c many is same j =
    let low = caller_index n is in
    sym (ap (λ (w : Who). w.member) (same_whos callers (n - 1) c (omega (arith, many, low)) same j))

module _ (d : Desk) (h : Holder) (pools : List Hold) (callers : List Caller) (k : Kept (of d (Some h) pools callers)) (r : Home (of d (Some h) pools callers)) where
  abbrev w : World
  w = of d (Some h) pools callers

  abbrev i : ℕ
  i = h.caller - 1

  abbrev kind : Kind
  kind = (its d h pools callers k).kind

  abbrev p : Plan
  p = (hold d h pools callers k).plan

  was : member callers i ≡ h.who.member
  was = ap (λ (x : Who). x.member) (hold d h pools callers k).who

  pub home : IsAtHome d kind h.who.member
  home = home_of d kind h.who.member (knows d h pools callers k) (λ e m. r.keep.there i e (was ∙ m))

  planned_here : plan d h.who h.command ≡ Ok p
  planned_here = plans d h pools callers k

  -- of a plan that is done
  done_settled : IsSettled p.next
  done_settled = settled_stays d kind h.who h.command p r.settled home planned_here

  becomes_there : (e : ℕ) → p.becomes ≡ who.Keeper e → is_there p.next.endpoints e ≡ true
  becomes_there e m = let x = callers_are_at_home d kind h.who h.command p r.settled home planned_here in subst (IsAtHome p.next x.0) m x.1

  other_there : (j e : ℕ) → j ≢ i → member callers j ≡ who.Keeper e → is_there p.next.endpoints e ≡ true
  other_there j e ne m = others_stay_at_home d kind h.who h.command p r.settled home planned_here Ordinary (who.Keeper e) (r.keep.there j e m)
      (λ x. r.keep.apart i j e ne (was ∙ x) m)

  becomes_apart : (j e : ℕ) → j ≢ i → member callers j ≡ who.Keeper e → p.becomes ≢ who.Keeper e
  becomes_apart j e ne m x = go (keepers_are_new d kind h.who h.command p r.settled home planned_here e x)
    where
      go : (h.who.member ≡ who.Keeper e) ⊎ (is_there d.endpoints e ≡ false) → ⊥
      go (inl y) = r.keep.apart i j e ne (was ∙ y) m
      go (inr y) = true≢false (sym (r.keep.there j e m) ∙ y)

  abbrev then : Ended → ℕ → WhoKind
  then x = but_at (member callers) i x.becomes

  done_there : (t e : ℕ) → but_at (member callers) i p.becomes t ≡ who.Keeper e → is_there p.next.endpoints e ≡ true
  done_there t e = each (λ t m. m ≡ who.Keeper e → is_there p.next.endpoints e ≡ true) (member callers) i p.becomes (becomes_there e) (λ j ne. other_there j e ne) t

  done_apart : (t u e : ℕ) → u ≢ t → but_at (member callers) i p.becomes t ≡ who.Keeper e → but_at (member callers) i p.becomes u ≢ who.Keeper e
  done_apart t u e = each (λ t m. u ≢ t → m ≡ who.Keeper e → but_at (member callers) i p.becomes u ≢ who.Keeper e) (member callers) i p.becomes
      (λ ne x. each (λ u n. u ≢ i → n ≢ who.Keeper e) (member callers) i p.becomes (λ no. absurd (no refl)) (λ j not _ y. becomes_apart j e not y x) u ne)
      (λ j not ne x. each (λ u n. u ≢ j → n ≢ who.Keeper e) (member callers) i p.becomes (λ _. becomes_apart j e not x) (λ l other no. r.keep.apart j l e no x) u ne) t

  stayed : (t : ℕ) → but_at (member callers) i h.who.member t ≡ member callers t
  stayed t = each (λ t m. m ≡ member callers t) (member callers) i h.who.member (sym was) (λ j _. refl) t

  abbrev EndsHome : Ended → Type 0
  EndsHome x = IsSettled x.next × Keep x.next (but_at (member callers) i x.becomes)

  ends_home : (o : Option Refusal) → first_ends p.parts h.outs ≡ o → EndsHome (ended d h.who p o)
  ends_home (Some why) e = (r.settled, with_members d (member callers) (but_at (member callers) i h.who.member) (λ t. sym (stayed t)) r.keep)
  ends_home None e = (done_settled, record { there = done_there; apart = done_apart })

  end_is : command_end w h ≡ ended d h.who p (first_ends p.parts h.outs)
  unfolding desk_end
  end_is = ap (λ x. ended_by d h.who x h.outs) (hold d h pools callers k).planned

  leaves : EndsHome (command_end w h)
  leaves = subst EndsHome (sym end_is) (ends_home (first_ends p.parts h.outs) refl)

  abbrev left : Caller
  left = left_caller w h (caller_at w h.caller)

  members_then : (t : ℕ) → but_at (member callers) i (command_end w h).becomes t ≡ member (set callers i left) t
  members_then t =
      let many = k.many_callers in let low = caller_index h.caller (hold d h pools callers k).caller in
      sym (ap (λ (c : Caller). c.who.member) (set_callers callers i left (omega (arith, many, low)) t) ∙ split t)
    where
      set_callers : (xs : List Caller) (i : ℕ) (c : Caller) → i < length xs → (t : ℕ) → get_or (set xs i c) t stranger ≡ but_at (λ j. get_or xs j stranger) i c t
      set_callers xs i c lt t = set_reads xs i t c stranger lt

      split : (t : ℕ) → (but_at (λ j. get_or callers j stranger) i left t).who.member ≡ but_at (member callers) i (command_end w h).becomes t
      split t = go (t == i)
        where
          go : (b : Bool) → (elim b as (λ b. Caller) [ true ↦ left | false ↦ get_or callers t stranger ]).who.member ≡ elim b [ true ↦ (command_end w h).becomes | false ↦ member callers t ]
          go true = refl
          go false = refl

  pub leave_home : Home (step w (leave h.caller))
  unfolding desk_after callers_after
  leave_home = record {
    settled = leaves.0;
    keep = with_members (command_end w h).next (but_at (member callers) i (command_end w h).becomes) (member (set callers i left)) members_then leaves.1;
  }

one : (d : Desk) (o : Option Holder) (pools : List Hold) (callers : List Caller) (e : Event) → Kept (of d o pools callers) → legal (of d o pools callers) e ≡ true → Home (of d o pools callers)
    → Home (step (of d o pools callers) e)
unfolding legal desk_after callers_after
one d o pools callers (take n x) k l r = record { settled = r.settled; keep = r.keep }
one d o pools callers (visit n s) k l r = record { settled = r.settled; keep = r.keep }
one d None pools callers (leave n) k l r = absurd (true≢false (sym (right_true (is_caller n) false l)))
one d (Some h) pools callers (leave n) k l r =
    let left = is_none (next_visit (of d (Some h) pools callers) h) in
    subst (λ m. Home (step (of d (Some h) pools callers) (leave m)))
    (eqb-true h.caller n (left_true (h.caller == n) left (right_true (is_caller n) (h.caller == n && left) l))) (leave_home d h pools callers k r)
one d o pools callers (publishes n s number) k l r =
    let w : World = of d o pools callers in
    let is = left_true (is_caller n) (not (holds_desk w n)) (left_true (is_caller n && not (holds_desk w n)) (is_some (pending_of w n s number)) l) in
    let c : Caller = has_published s number (caller_at w n) in
    record { settled = r.settled; keep = with_members d (member callers) (member (set callers (n - 1) c)) (same_members callers n c k.many_callers is refl) r.keep }
one d o pools callers (receives n mode) k l r =
    let w : World = of d o pools callers in
    let is = left_true (is_caller n) (not (holds_desk w n)) (left_true (is_caller n && not (holds_desk w n)) (not (mode.peek && mode.drop_it)) l) in
    let c : Caller = record (caller_at w n) { hand = hand_received mode (pool_answer w (receives n mode)) (caller_at w n).hand } in
    record { settled = r.settled; keep = with_members d (member callers) (member (set callers (n - 1) c)) (same_members callers n c k.many_callers is refl) r.keep }
one d o pools callers (reads n number sealed) k l r = record { settled = r.settled; keep = r.keep }
one d o pools callers (frees n number) k l r =
    let w : World = of d o pools callers in
    let is = left_true (is_caller n) (not (holds_desk w n)) l in
    let c : Caller = record (caller_at w n) { hand = hand_freed number (hand_entry (caller_at w n) number) (caller_at w n).hand } in
    record { settled = r.settled; keep = with_members d (member callers) (member (set callers (n - 1) c)) (same_members callers n c k.many_callers is refl) r.keep }

-- and any number
pub home_on : (w : World) (es : List Event) → all_legal w es ≡ true → Kept w → Home w → Home (world_after w es)
unfolding all_legal world_after
home_on w [] l k r = r
home_on w (e ∷ es) l k r =
    let first : legal w e ≡ true = left_true (legal w e) (all_legal (step w e) es) l in
    home_on (step w e) es (right_true (legal w e) (all_legal (step w e) es) l) (kept_on w (e ∷ []) (ap (λ b. b && true) first) k)
    (one w.desk w.holder w.pools w.callers e k first r)

pub opening_home : (creator size hashes : ℕ) → Home (new_world creator size hashes)
unfolding new_world
opening_home creator size hashes = record {
  settled = opens_settled creator size hashes;
  keep = with_members (opening_desk creator size hashes) (λ _. who.Fresh) (member (new_world creator size hashes).callers) (λ i. sym (ap (λ (c : Caller). c.who.member) (alike 64 i stranger)))
      (record { there = λ i e m. absurd (let f : who.Fresh ≡ who.Keeper e = m in cc); apart = λ i j e ne m. absurd (let f : who.Fresh ≡ who.Keeper e = m in cc) });
}

pub reached_home : (w : World) → IsReached w → Home w
reached_home w r =
    subst Home r.world (home_on (new_world r.creator r.size r.hashes) r.events r.legal (opening_keeps r.creator r.size r.hashes) (opening_home r.creator r.size r.hashes))

-- ---- the laws

pub desks_are_settled : DesksAreSettled
desks_are_settled w r = (reached_home w r).settled

pub callers_are_home : CallersAreHome
callers_are_home w n r = home_of w.desk (caller_at w n).kind (caller_at w n).who.member ((reached_keeps w r).agrees.known (n - 1)) (λ e m. (reached_home w r).keep.there (n - 1) e m)

pub callers_are_apart : CallersAreApart
callers_are_apart w n m r is its ne = go (caller_at w m).who.member refl
  where
    other : (n - 1) ≢ (m - 1)
    other z = let a = is in let b = its in ne (grind (arith, nat_tests))

    turned : (m - 1) ≢ (n - 1)
    turned z = other (sym z)

    go : (x : WhoKind) → (caller_at w m).who.member ≡ x → IsApart (caller_at w n).who.member x
    go who.Fresh e = tt
    go (who.Conn id s) e = (reached_keeps w r).agrees.apart (m - 1) (n - 1) id s other e
    go (who.Keeper k) e = (reached_home w r).keep.apart (m - 1) (n - 1) k other e
    go (who.Old s) e = tt
