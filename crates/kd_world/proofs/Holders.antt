-- Hands agree with pools while callers take the desk, visit pools and leave it.
use Rattle.std.specs.Prelude.{◌≡◌, ◌≢◌, ◌<◌, ◌-◌, ◌&&◌, ℕ, Bool, true, false, List, [], ◌∷◌, ◌++◌, length, get_or, set, refl, Option, Some, None, Result, Ok, Err, option_map}
use Rattle.std.proofs.Common.{ap, sym, subst, ◌∙◌, arith, eq-eqb, ne_eqb, get_or-set_other, get_or-set_same}
use Rattle.std.proofs.lemmas.Bool.Decides.{nat_tests}
use mathlib.Core.Logic.{dite}
use native.Mathlib.Decide.{ℕ_discrete}
use Rattle.std.proofs.lemmas.List.{length-set}
use Rattle.kd_types.specs.declared.refusal.Refusal.{Refusal}
use Rattle.kd_types.specs.declared.refusal.Refusal.TheVariants.{NoSuchBus}
use Rattle.kd_wire.specs.declared.command.Command.{Command}
use Rattle.kd_acts.specs.State.{Act, Answer, Hold, Visit, by_desk, close, done, drain, offer, post, settle, raise}
use Rattle.kd_acts.specs.Steps.{after, answer, pool_step}
use Rattle.kd_acts.specs.Lasting.{is_open, open_after}
use Rattle.kd_commands.specs.declared.who.Who.{Who}
use Rattle.kd_commands.specs.State.{Desk}
use Rattle.kd_commands.specs.Plans.{Part, Plan}
use Rattle.kd_commands.specs.Visits.{first_ends, next_part}
use Rattle.kd_commands.specs.Step.{Ended, ended, ended_by, parts_in, plan}
use Rattle.kd_commands.specs.Seating.{IsElsewhere, IsKnown, IsNow, is_live, open_along, open_at}
use Rattle.kd_world.specs.State.{Caller, Holder, World, caller_at, closed_pool, pool_at, stranger}
use Rattle.kd_world.specs.Planner.{desk_end, is_fresh, names_other_bus, parts_planned, planned}
use Rattle.kd_world.specs.Holding.{command_end, next_visit, parts_held}
use Rattle.kd_world.specs.Legal.{Event, is_caller, leave, take, visit}
use Rattle.kd_world.specs.Pools.{Aimed, act_of, aimed, pool_answer, pools_after}
use Rattle.kd_world.specs.Callers.{callers_after, left_caller}
use Rattle.kd_world.specs.Step.{desk_after, holder_after, holder_by, step}
use Rattle.kd_model.proofs.Truth.{no_some, same_some}
use Rattle.kd_world.proofs.Tied.{next_from, of}
use Rattle.kd_world.proofs.Agreeing.{Agrees, Face, but_at, each, is_quiet, raised}
use Rattle.kd_world.proofs.Acts.{acts_quietly, along_more, along_none, set_pool, with_faces, with_open, with_pools}
use Rattle.kd_world.proofs.Moving.{face_after, itself_now, moved, nobody_at}
use Rattle.kd_commands.proofs.Callers.{callers_move}
use Rattle.kd_commands.proofs.Opens.{raises_free, opens_are_live, opens_stay}
use Rattle.kd_commands.proofs.Others.{others_stay}
use Rattle.kd_commands.proofs.Seating.{seating_stays}
use Rattle.kd_acts.proofs.Lasting.{open_follows}

abbrev pub face_of : Caller → Face
face_of c = record { member = c.who.member; kind = c.kind; hand = c.hand }

abbrev pub faces_of : List Caller → ℕ → Face
faces_of callers i = face_of (get_or callers i stranger)

abbrev pub pools_of : List Hold → ℕ → Hold
pools_of pools s = get_or pools s closed_pool

-- the open pools are those of live connections, as the holder's visits left them
abbrev pub open_now : World → ℕ → Bool
open_now w s = elim w.holder [ None ↦ is_live w.desk s | Some h ↦ open_along s (parts_held w h) h.outs (is_live w.desk s) ]

-- the holder is its caller, and has a plan
pub record Holding (w : World) (h : Holder) : Type 0 where
  pub caller : is_caller h.caller ≡ true
  pub who : (caller_at w h.caller).who ≡ h.who
  pub plan : Plan
  pub planned : planned w.desk h.who h.command ≡ Ok plan

pub record Kept (w : World) : Type 0 where
  pub agrees : Agrees w.desk (pools_of w.pools) (faces_of w.callers) (open_now w)
  pub many_callers : length w.callers ≡ 64
  pub many_pools : length w.pools ≡ 64
  pub held : (h : Holder) → w.holder ≡ Some h → Holding w h

-- the desk's own plan
planned_plan : (d : Desk) (w : Who) (x : Command) (p : Plan) → planned d w x ≡ Ok p → plan d w x ≡ Ok p
unfolding planned
planned_plan d w x p = go (is_fresh w.member && names_other_bus x)
  where
    go : (b : Bool) → ◌≡◌ {A = Result Plan Refusal} (elim b [ true ↦ Err (NoSuchBus 0) | false ↦ plan d w x ]) (Ok p) → plan d w x ≡ Ok p
    go true e = absurd cc
    go false e = e

held_parts : (w : World) (h : Holder) (p : Plan) → planned w.desk h.who h.command ≡ Ok p → parts_held w h ≡ p.parts
unfolding parts_planned
held_parts w h p e = ap parts_in e

pub caller_index : (n : ℕ) → is_caller n ≡ true → n - 1 < 64
caller_index n e = grind (arith, nat_tests)

-- ---- one caller of a list becomes another

module _ (callers : List Caller) (i : ℕ) (c : Caller) (lt : i < length callers) where
  pub set_faces : (j : ℕ) → but_at (faces_of callers) i (face_of c) j ≡ faces_of (set callers i c) j
  set_faces = each (λ j f. f ≡ faces_of (set callers i c) j) (faces_of callers) i (face_of c)
      (sym (ap face_of (get_or-set_same callers i c stranger lt))) (λ j ne. sym (ap face_of (get_or-set_other callers i j c stranger ne)))

  pub same_faces : face_of c ≡ faces_of callers i → (j : ℕ) → faces_of callers j ≡ faces_of (set callers i c) j
  same_faces e j = dite (ℕ_discrete j i)
      (λ z. subst (λ k. faces_of callers k ≡ faces_of (set callers i c) k) (sym z) (sym e ∙ sym (ap face_of (get_or-set_same callers i c stranger lt))))
      (λ ne. sym (ap face_of (get_or-set_other callers i j c stranger ne)))

  pub same_whos : c.who ≡ (get_or callers i stranger).who → (j : ℕ) → (get_or (set callers i c) j stranger).who ≡ (get_or callers j stranger).who
  same_whos e j = dite (ℕ_discrete j i)
      (λ z. subst (λ k. (get_or (set callers i c) k stranger).who ≡ (get_or callers k stranger).who) (sym z)
      (ap (λ (x : Caller). x.who) (get_or-set_same callers i c stranger lt) ∙ e))
      (λ ne. ap (λ (x : Caller). x.who) (get_or-set_other callers i j c stranger ne))

-- ---- an act at a pool

abbrev pub pools_by : Option Aimed → List Hold → List Hold
pools_by None pools = pools
pools_by (Some a) pools = set pools a.seat (after (get_or pools a.seat closed_pool) a.act)

pub pools_are : (w : World) (e : Event) (o : Option Aimed) → act_of w e ≡ o → pools_after w e ≡ pools_by o w.pools
unfolding pools_after
pools_are w e None f = ap (λ (x : Option Aimed). elim x [ None ↦ w.pools | Some p ↦ set w.pools p.seat (pool_step (pool_at w p.seat) p.act).0 ]) f
pools_are w e (Some a) f = ap (λ (x : Option Aimed). elim x [ None ↦ w.pools | Some p ↦ set w.pools p.seat (pool_step (pool_at w p.seat) p.act).0 ]) f

pub answer_is : (w : World) (e : Event) (a : Aimed) → act_of w e ≡ Some a → pool_answer w e ≡ answer (pool_at w a.seat) a.act
unfolding pool_answer
answer_is w e a f = ap (λ (x : Option Aimed). elim x [ None ↦ done | Some p ↦ (pool_step (pool_at w p.seat) p.act).1 ]) f

pub no_answer : (w : World) (e : Event) → act_of w e ≡ None → pool_answer w e ≡ done
unfolding pool_answer
no_answer w e f = ap (λ (x : Option Aimed). elim x [ None ↦ done | Some p ↦ (pool_step (pool_at w p.seat) p.act).1 ]) f

pub as_many : (w : World) (e : Event) → length w.pools ≡ 64 → length (pools_after w e) ≡ 64
unfolding pools_after
as_many w e long = go (act_of w e)
  where
    go : (o : Option Aimed) → length {A = Hold} (elim o [ None ↦ w.pools | Some p ↦ set w.pools p.seat (pool_step (pool_at w p.seat) p.act).0 ]) ≡ 64
    go None = long
    go (Some a) = length-set w.pools a.seat (after (pool_at w a.seat) a.act) ∙ long

-- ---- taking the desk

pub take_is : (d : Desk) (pools : List Hold) (callers : List Caller) (n : ℕ) (x : Command)
    → of d (holder_by n (caller_at (of d None pools callers) n).who x (planned d (caller_at (of d None pools callers) n).who x)) pools callers
    ≡ step (of d None pools callers) (take n x)
unfolding holder_after desk_after pools_after callers_after act_of
take_is d pools callers n x = refl

pub take_keeps : (d : Desk) (pools : List Hold) (callers : List Caller) (n : ℕ) (x : Command) → Kept (of d None pools callers) → is_caller n ≡ true → (r : Result Plan Refusal)
    → planned d (caller_at (of d None pools callers) n).who x ≡ r → Kept (of d (holder_by n (caller_at (of d None pools callers) n).who x r) pools callers)
take_keeps d pools callers n x k c (Err why) e =
    record { agrees = k.agrees; many_callers = k.many_callers; many_pools = k.many_pools; held = λ h f. absurd (no_some f) }
take_keeps d pools callers n x k c (Ok p) e =
    let w : Who = (caller_at (of d None pools callers) n).who in
    let h : Holder = record { caller = n; who = w; command = x; outs = [] } in record {
      agrees = with_open d (pools_of pools) (faces_of callers) (is_live d) (λ s. open_along s (parts_planned d w x) [] (is_live d s))
          (λ s. sym (along_none s (parts_planned d w x) (is_live d s))) k.agrees;
      many_callers = k.many_callers;
      many_pools = k.many_pools;
      held = λ g f. subst (Holding (of d (Some h) pools callers)) (same_some _ _ f) record { caller = c; who = refl; plan = p; planned = e };
    }

-- ---- visits

pub visit_is : (d : Desk) (h : Holder) (pools : List Hold) (callers : List Caller) (n s : ℕ)
    → of d (Some (record h { outs = h.outs ++ pool_answer (of d (Some h) pools callers) (visit n s) ∷ [] })) (pools_after (of d (Some h) pools callers) (visit n s)) callers
    ≡ step (of d (Some h) pools callers) (visit n s)
unfolding holder_after desk_after callers_after
visit_is d h pools callers n s = refl

pub visit_act : (d : Desk) (h : Holder) (pools : List Hold) (callers : List Caller) (n s : ℕ) (q : Part) → next_visit (of d (Some h) pools callers) h ≡ Some q
    → act_of (of d (Some h) pools callers) (visit n s) ≡ Some (aimed q)
unfolding act_of
visit_act d h pools callers n s q e = ap (option_map aimed) e

-- the desk of the holder knows it
module _ (d : Desk) (h : Holder) (pools : List Hold) (callers : List Caller) (k : Kept (of d (Some h) pools callers)) where
  abbrev here_world : World
  here_world = of d (Some h) pools callers

  abbrev pub hold : Holding here_world h
  hold = k.held h refl

  abbrev place : ℕ
  place = h.caller - 1

  abbrev pub its : Face
  its = faces_of callers place

  member_is : its.member ≡ h.who.member
  member_is = ap (λ (w : Who). w.member) hold.who

  pub knows : IsKnown d its.kind h.who.member
  knows = subst (IsKnown d its.kind) member_is (k.agrees.known place)

  pub plans : plan d h.who h.command ≡ Ok hold.plan
  plans = planned_plan d h.who h.command hold.plan hold.planned

  pub parts_are : parts_held here_world h ≡ hold.plan.parts
  parts_are = held_parts here_world h hold.plan hold.planned

module _ (d : Desk) (h : Holder) (pools : List Hold) (callers : List Caller) (k : Kept (of d (Some h) pools callers)) (n s : ℕ) (q : Part)
    (next : next_visit (of d (Some h) pools callers) h ≡ Some q) where
  abbrev w : World
  w = of d (Some h) pools callers

  abbrev o : Answer
  o = pool_answer w (visit n s)

  abbrev act : Act
  act = by_desk q.act

  abbrev pool : ℕ → Hold
  pool = pools_of pools

  abbrev up : ℕ → Bool
  up = open_now w

  abbrev up' : ℕ → Bool
  up' t = open_along t (parts_held w h) (h.outs ++ o ∷ []) (is_live d t)

  said_is : o ≡ answer (pool q.seat) act
  said_is = answer_is w (visit n s) (aimed q) (visit_act d h pools callers n s q next)

  more : (t : ℕ) → up' t ≡ open_at t q o (up t)
  more t = along_more t [] (parts_held w h) h.outs o q (is_live d t) (next_from w h q next)

  open_here : up' q.seat ≡ open_after act (answer (pool q.seat) act) (up q.seat)
  open_here = more q.seat ∙ ap (λ b. elim b [ true ↦ open_after act o (up q.seat) | false ↦ up q.seat ]) (eq-eqb q.seat q.seat refl)
      ∙ ap (λ x. open_after act x (up q.seat)) said_is

  open_else : (t : ℕ) → t ≢ q.seat → up' t ≡ up t
  open_else t ne = more t ∙ ap (λ b. elim b [ true ↦ open_after act o (up t) | false ↦ up t ]) (ne_eqb q.seat t (λ z. ne (sym z)))

  abbrev pools' : List Hold
  pools' = set pools q.seat (after (pool q.seat) act)

  by_raise : (size : ℕ) → q.act ≡ raise size → Agrees d (pools_of pools') (faces_of callers) up'
  by_raise size is =
      let r = k.agrees in
      let free = raises_free d (its d h pools callers k).kind h.who h.command (hold d h pools callers k).plan r.seated (knows d h pools callers k) (plans d h pools callers k)
      h.outs q size (ap (λ ps. next_part [] ps h.outs) (sym (parts_are d h pools callers k)) ∙ next_from w h q next) is in
      let many = k.many_pools in
      with_pools d (but_at pool q.seat (after (pool q.seat) act)) (pools_of pools') (faces_of callers) up'
      (λ t. sym (set_pool pools q.seat (after (pool q.seat) act) (let low = free.0 in omega (arith, low, many)) t))
      (raised d pool (faces_of callers) up r q.seat act up'
      (each (λ t g. is_open g ≡ up' t) pool q.seat (after (pool q.seat) act)
      (open_follows (pool q.seat) act ∙ ap (open_after act (answer (pool q.seat) act)) (r.opens q.seat) ∙ sym open_here) (λ t ne. r.opens t ∙ sym (open_else t ne)))
      size (ap by_desk is) (nobody_at d pool (faces_of callers) up r q.seat free.1))

  by_other : is_quiet act ≡ true → Agrees d (pools_of pools') (faces_of callers) up'
  by_other quiet = acts_quietly d pools (faces_of callers) up k.agrees q.seat act quiet up' open_here open_else

  by_any : (v : Visit) → q.act ≡ v → Agrees d (pools_of pools') (faces_of callers) up'
  by_any (raise size) is = by_raise size is
  by_any (close force) is = by_other (ap (λ v. is_quiet (by_desk v)) is)
  by_any (offer user len source must content) is = by_other (ap (λ v. is_quiet (by_desk v)) is)
  by_any (post image) is = by_other (ap (λ v. is_quiet (by_desk v)) is)
  by_any drain is = by_other (ap (λ v. is_quiet (by_desk v)) is)
  by_any (settle images) is = by_other (ap (λ v. is_quiet (by_desk v)) is)

  pub visit_keeps : Kept (step w (visit n s))
  visit_keeps = subst Kept (visit_is d h pools callers n s) record {
    agrees = subst (λ ps. Agrees d (pools_of ps) (faces_of callers) up') (sym (pools_are w (visit n s) (Some (aimed q)) (visit_act d h pools callers n s q next))) (by_any q.act refl);
    many_callers = k.many_callers;
    many_pools = as_many w (visit n s) k.many_pools;
    held = λ g f. subst (Holding (of d (Some (record h { outs = h.outs ++ o ∷ [] })) (pools_after w (visit n s)) callers)) (same_some _ _ f)
        (let b = hold d h pools callers k in record { caller = b.caller; who = b.who; plan = b.plan; planned = b.planned });
  }

-- ---- leaving the desk

pub leave_is : (d : Desk) (h : Holder) (pools : List Hold) (callers : List Caller) (n : ℕ)
    → of (command_end (of d (Some h) pools callers) h).next None pools
    (set callers (n - 1) (left_caller (of d (Some h) pools callers) h (caller_at (of d (Some h) pools callers) n)))
    ≡ step (of d (Some h) pools callers) (leave n)
unfolding holder_after desk_after callers_after pools_after act_of
leave_is d h pools callers n = refl

-- nothing is left to visit where the first part didn't end all
none_left : (w : World) (h : Holder) → next_visit w h ≡ None → first_ends (parts_held w h) h.outs ≡ None → next_part [] (parts_held w h) h.outs ≡ None
unfolding next_visit
none_left w h e f = ap (λ (r : Option Refusal). elim r [ Some x ↦ None | None ↦ next_part [] (parts_held w h) h.outs ]) (sym f) ∙ e

module _ (d : Desk) (h : Holder) (pools : List Hold) (callers : List Caller) (k : Kept (of d (Some h) pools callers))
    (done : next_visit (of d (Some h) pools callers) h ≡ None) where
  abbrev lw : World
  lw = of d (Some h) pools callers

  abbrev i : ℕ
  i = h.caller - 1

  abbrev f : Face
  f = faces_of callers i

  abbrev p : Plan
  p = (hold d h pools callers k).plan

  abbrev LeavesWell : Ended → Type 0
  LeavesWell x = Agrees x.next (pools_of pools) (but_at (faces_of callers) i (face_after x.next f x.becomes)) (is_live x.next)

  opens_were : (s : ℕ) → open_now lw s ≡ open_along s p.parts h.outs (is_live d s)
  opens_were s = ap (λ ps. open_along s ps h.outs (is_live d s)) (parts_are d h pools callers k)

  ends_well : (o : Option Refusal) → first_ends p.parts h.outs ≡ o → LeavesWell (ended d h.who p o)
  ends_well (Some why) e = moved d d (pools_of pools) (faces_of callers) (open_now lw) k.agrees i h.who.member k.agrees.seated (λ id seat kind x _. x)
      (subst (λ m. IsNow d d f.kind m h.who.member) (sym (member_is d h pools callers k)) (itself_now d f.kind h.who.member (knows d h pools callers k)))
      (λ s. opens_were s ∙ opens_stay d f.kind h.who h.command p k.agrees.seated (knows d h pools callers k) (plans d h pools callers k) h.outs s why e)
  ends_well None e = moved d p.next (pools_of pools) (faces_of callers) (open_now lw) k.agrees i p.becomes
      (seating_stays d f.kind h.who h.command p k.agrees.seated (knows d h pools callers k) (plans d h pools callers k))
      (λ id seat kind x else. others_stay d f.kind h.who h.command p k.agrees.seated (knows d h pools callers k) (plans d h pools callers k) id seat kind x
      (subst (IsElsewhere seat) (member_is d h pools callers k) else))
      (subst (λ m. IsNow d p.next f.kind m p.becomes) (sym (member_is d h pools callers k))
      (callers_move d f.kind h.who h.command p k.agrees.seated (knows d h pools callers k) (plans d h pools callers k)))
      (λ s. opens_were s ∙ opens_are_live d f.kind h.who h.command p k.agrees.seated (knows d h pools callers k) (plans d h pools callers k) h.outs s e
      (ap (λ ps. next_part [] ps h.outs) (sym (parts_are d h pools callers k)) ∙ none_left lw h done (ap (λ ps. first_ends ps h.outs) (parts_are d h pools callers k) ∙ e)))

  end_is : command_end lw h ≡ ended d h.who p (first_ends p.parts h.outs)
  unfolding desk_end
  end_is = ap (λ r. ended_by d h.who r h.outs) (hold d h pools callers k).planned

  pub leave_keeps : Kept (step lw (leave h.caller))
  leave_keeps =
      let x : Ended = command_end lw h in
      let c : Caller = left_caller lw h (caller_at lw h.caller) in
      let small : i < length callers = let many = k.many_callers in let low = caller_index h.caller (hold d h pools callers k).caller in omega (arith, many, low) in
      subst Kept (leave_is d h pools callers h.caller) record {
        agrees = with_faces x.next (pools_of pools) (but_at (faces_of callers) i (face_of c)) (faces_of (set callers i c)) (is_live x.next) (set_faces callers i c small)
            (subst LeavesWell (sym end_is) (ends_well (first_ends p.parts h.outs) refl));
        many_callers = length-set callers i c ∙ k.many_callers;
        many_pools = k.many_pools;
        held = λ g e. absurd (no_some e);
      }
