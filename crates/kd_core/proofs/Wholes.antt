-- What a world keeps through its events.
use Rattle.std.proofs.Common.{◌≡◌, ◌≢◌, ◌<◌, ◌≤◌, ◌+◌, ◌*◌, ◌^◌, ℕ, List, [], ◌∷◌, Option, Some, None, Result, Ok, Err, IsTrue, refl, sym, ap, ◌∙◌, subst, arith, ◌&&◌, true, false}
use Rattle.std.specs.List.{AllByRecursion}
use Rattle.kd_types.specs.declared.refusal.Refusal.{Refusal}
use Rattle.kd_types.specs.declared.refusal.Refusal.TheVariants as why
use Rattle.kd_wire.specs.declared.command.Command.{Command}
use Rattle.kd_acts.specs.State.{Answer, Batch, Hold}
use Rattle.kd_commands.specs.State.{Desk, opening_desk}
use Rattle.kd_commands.specs.Plans.{Plan}
use Rattle.kd_tables.specs.declared.part.Out.{Out}
use Rattle.kd_tables.specs.declared.part.Part as part
use Rattle.kd_commands.specs.declared.who.Who.{Who}
use Rattle.kd_model.specs.declared.slice_no.TheConstants.{SLICES}
use Rattle.kd_commands.specs.Step.{plan}
use Rattle.kd_tables.specs.Drafts.{PlanResult, Draft}
use Rattle.kd_core.specs.declared.event.Answer.TheVariants as answer
use Rattle.kd_holds.specs.declared.holder.Holder as code
use Rattle.kd_core.specs.declared.world.World.TheInside.{Inside}
use Rattle.kd_holds.specs.Counts.{IsBelow}
use Rattle.kd_holds.specs.Handing.{AreInOrder, IsMadeFor, answers_told}
use Rattle.kd_world.specs.State.{World, caller_at}
use Rattle.kd_world.specs.Planner.{is_fresh, names_other_bus, planned}
use Rattle.kd_world.specs.Legal.{take, legal}
use Rattle.kd_world.specs.Callers.{creds_after}
use Rattle.kd_world.specs.Answers.{says}
use Rattle.kd_core.specs.Running.{Running, said, stepped}
use Rattle.kd_core.specs.Held.{IsHeld, IsWhole, world_of}
use Rattle.kd_holds.proofs.Below.{below_more}
use Rattle.kd_holds.proofs.Telling.{tells_none}
use Rattle.kd_core.proofs.Seen.{inner}
use Rattle.kd_core.proofs.Takes.{after_refusing, after_taking, says_refused, says_taken, takes_free_desk}

pub more_below : (n : ℕ) (hs : List Hold) → AllByRecursion (IsBelow (SLICES * n)) hs → AllByRecursion (IsBelow (SLICES * (n + 1))) hs
more_below n hs a = below_more (SLICES * n) (SLICES * (n + 1)) hs (omega arith) a

-- one event more, which changed nothing
pub whole_later : (w : Inside) → IsWhole w → w.steps < 2 ^ 54 → IsWhole (record w { steps = w.steps + 1 })
whole_later w i few = record {
  pools = i.pools;
  callers = i.callers;
  below = more_below w.steps w.pools.items i.below;
  ids = let ids : w.desk.next_id ≤ w.steps + 1 = i.ids in omega (arith, ids);
  steps = omega (arith, few);
  holder = i.holder;
}

-- one event more, by which somebody holds the desk
pub whole_held : (w : Inside) (h : code.Holder) → IsWhole w → w.steps < 2 ^ 54 → IsHeld w.desk h → IsWhole (record w { holder = Some h; steps = w.steps + 1 })
whole_held w h i few held = record {
  pools = i.pools;
  callers = i.callers;
  below = more_below w.steps w.pools.items i.below;
  ids = let ids : w.desk.next_id ≤ w.steps + 1 = i.ids in omega (arith, ids);
  steps = omega (arith, few);
  holder = held;
}

pub refusal_is : (d : Desk) (r : Result Plan Refusal) (e : Refusal) → e ≢ why.OutOfMemory → PlanResult d r (Err e) → r ≡ Err e
refusal_is d r why.OutOfMemory ne a = absurd (ne refl)
refusal_is d r e ne a = a

abbrev pub with_steps : ℕ → World → Running
with_steps n w = record { world = w; steps = n }

-- a plan as the world has it
pub planned_here : (d : Desk) (who : Who) (x : Command) (result : Result Draft Refusal) → (is_fresh who.member && names_other_bus x) ≡ false → PlanResult d (plan d who x) result → PlanResult d (planned d who x) result
unfolding planned
planned_here d who x result e p = subst (λ (r : Result Plan Refusal). PlanResult d r result) (sym (ap (λ b. elim b as (λ b. Result Plan Refusal) [ true ↦ Err (why.NoSuchBus 0) | false ↦ plan d who x ]) e)) p

-- a take that was refused
pub refused_in : (w : Inside) (r : Running) (n : ℕ) (who : Who) (x : Command) (e : Refusal) → world_of w ≡ r → who ≡ (caller_at r.world n).who → IsTrue (legal r.world (take n x))
    → planned r.world.desk who x ≡ Err e → world_of (record w { steps = w.steps + 1 }) ≡ stepped r (take n x)
unfolding stepped
refused_in w r n who x e v wh m p =
    subst (λ (s : Running). who ≡ (caller_at s.world n).who → IsTrue (legal s.world (take n x)) → planned s.world.desk who x ≡ Err e → world_of (record w { steps = w.steps + 1 }) ≡ stepped s (take n x)) v here wh m p
  where
    here : who ≡ (caller_at (inner w) n).who → IsTrue (legal (inner w) (take n x)) → planned w.desk who x ≡ Err e → world_of (record w { steps = w.steps + 1 }) ≡ stepped (world_of w) (take n x)
    here wh m p = ap (with_steps (w.steps + 1)) (sym (after_refusing (inner w) n x e (ap (λ u. planned w.desk u x) (sym wh) ∙ p) (takes_free_desk (inner w) n x m)))

pub refused_said : (w : World) (n : ℕ) (who : Who) (x : Command) (e : Refusal) → who ≡ (caller_at w n).who → planned w.desk who x ≡ Err e → answer.Refused e ≡ said (take n x) (says w (take n x))
refused_said w n who x e wh p = sym (ap (said (take n x)) (says_refused w n x e (ap (λ u. planned w.desk u x) (sym wh) ∙ p)))

none_told : (ps : List part.Part) (took : Option Batch) → answers_told ps [] took ≡ []
unfolding answers_told
none_told [] took = refl
none_told (p ∷ ps) took = refl

-- a take that wasn't
pub taken_in : (w : Inside) (r : Running) (h : code.Holder) (x : Command) (p : Plan) → world_of w ≡ r → h.who ≡ (caller_at r.world h.caller).who
    → planned r.world.desk h.who x ≡ Ok p → h.command.value ≡ x → h.outs.items ≡ [] → world_of (record w { holder = Some h; steps = w.steps + 1 }) ≡ stepped r (take h.caller x)
unfolding stepped
taken_in w r h x p v wh e c o =
    subst (λ (s : Running). h.who ≡ (caller_at s.world h.caller).who → planned s.world.desk h.who x ≡ Ok p → world_of (record w { holder = Some h; steps = w.steps + 1 }) ≡ stepped s (take h.caller x)) v here wh e
  where
    with_holder : Who → Command → List Answer → Running
    with_holder who command outs = with_steps (w.steps + 1) (record (inner w) { holder = Some (record { caller = h.caller; who = who; command = command; outs = outs }) })

    outs_of : List Out → List Answer
    outs_of outs = answers_told h.plan.parts outs h.made.drained

    here : h.who ≡ (caller_at (inner w) h.caller).who → planned w.desk h.who x ≡ Ok p → world_of (record w { holder = Some h; steps = w.steps + 1 }) ≡ stepped (world_of w) (take h.caller x)
    here wh e =
        ap (λ u. with_holder u h.command.value (outs_of h.outs.items)) wh ∙ ap (λ y. with_holder (caller_at (inner w) h.caller).who y (outs_of h.outs.items)) c
        ∙ ap (with_holder (caller_at (inner w) h.caller).who x) (ap outs_of o ∙ none_told h.plan.parts h.made.drained)
        ∙ ap (with_steps (w.steps + 1)) (sym (after_taking (inner w) h.caller x p (ap (λ u. planned w.desk u x) (sym wh) ∙ e)))

pub taken_said : (w : World) (n : ℕ) (who : Who) (x : Command) (p : Plan) → who ≡ (caller_at w n).who → planned w.desk who x ≡ Ok p → answer.Taken ≡ said (take n x) (says w (take n x))
taken_said w n who x p wh e = sym (ap (said (take n x)) (says_taken w n x p (ap (λ u. planned w.desk u x) (sym wh) ∙ e)))

-- who has just taken the desk
pub newly_held : (w : Inside) (r : Running) (h : code.Holder) (x : Command) → world_of w ≡ r → PlanResult r.world.desk (planned r.world.desk h.who x) (Ok h.plan)
    → h.command.value ≡ x → h.outs.items ≡ [] → AreInOrder h.plan.parts → IsMadeFor h.made h.plan.parts → h.made.drained ≡ None → h.creds ≡ creds_after h.who.creds x → IsHeld w.desk h
newly_held w r h x v a c o order m none k = subst (λ (s : Running). PlanResult s.world.desk (planned s.world.desk h.who x) (Ok h.plan) → IsHeld w.desk h) v here a
  where
    here : PlanResult w.desk (planned w.desk h.who x) (Ok h.plan) → IsHeld w.desk h
    here a = record {
      plan = ap (planned w.desk h.who) c ∙ a.0;
      fits = a.1;
      parts = a.2;
      hands = order.hands;
      visited = rw o (omega arith);
      made = rw o m;
      told = rw o (tells_none h.plan.parts h.made.drained none);
      creds = k ∙ ap (creds_after h.who.creds) (sym c);
    }

-- the first connection has the id 1
pub starts_low : (creator size hashes : ℕ) (d : Desk) → d ≡ opening_desk creator size hashes → d.next_id ≤ 1
unfolding opening_desk
starts_low creator size hashes d e = rw e (omega arith)
