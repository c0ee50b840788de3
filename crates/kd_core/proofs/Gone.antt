-- A world that its holder has left.
use Rattle.std.specs.Prelude.{ℕ, ◌<◌, ◌+◌, ◌*◌, ◌-◌, ◌^◌, ◌++◌, List, Option, Some, None, IsTrue, length, option_map, set}
use Rattle.std.specs.List.{AllByRecursion}
use Rattle.std.proofs.Common.{◌≡◌, refl, sym, ap, ◌∙◌, subst, arith}
use Rattle.kd_wire.specs.declared.reply.Reply.{Reply}
use Rattle.kd_model.specs.declared.slice_no.TheConstants.{SLICES}
use Rattle.kd_acts.specs.State.{Hold}
use Rattle.kd_tables.specs.Drafts.{Fits}
use Rattle.kd_tables.specs.Outs.{ended_on}
use Rattle.kd_commands.specs.State.{Desk}
use Rattle.kd_commands.specs.Step.{Ended}
use Rattle.kd_core.specs.declared.event.Answer.TheVariants as answer
use Rattle.kd_holds.specs.declared.holder.Holder as holder
use Rattle.kd_core.specs.declared.world.World.TheInside.{Inside}
use Rattle.kd_holds.specs.Counts.{IsBelow}
use Rattle.kd_core.specs.Held.{IsHeld, IsWhole, holder_of, world_of}
use Rattle.kd_holds.specs.Placed.{HasKept, all_kept}
use Rattle.kd_core.specs.Turned.{becomes, turned}
use Rattle.kd_core.specs.Running.{Running, said, stepped}
use Rattle.kd_world.specs.State.{Caller, caller_at}
use Rattle.kd_world.specs.Holding.{command_end}
use Rattle.kd_world.specs.Legal.{leave, legal}
use Rattle.kd_world.specs.Callers.{left_caller}
use Rattle.kd_world.specs.Answers.{says}
use Rattle.kd_core.proofs.Left.{after_leaving, caller_left, ends_as, ids_by_one, leaves_held, says_left}
use Rattle.kd_core.proofs.Seen.{held_in, inner}
use Rattle.kd_core.proofs.Wholes.{more_below, with_steps}

-- its holder, before
pub record IsHolding (w : Inside) : Type 0 where
  pub holder : holder.Holder
  pub holds : w.holder ≡ Some holder
  pub held : IsHeld w.desk holder

pub holding_in : (w : Inside) (r : Running) (n : ℕ) → world_of w ≡ r → IsTrue (legal r.world (leave n)) → IsWhole w → IsHolding w
holding_in w r n v m i = go w.holder refl
  where
    go : (o : Option holder.Holder) → w.holder ≡ o → IsHolding w
    go None e = absurd (leaves_held (inner w) n (subst (λ (s : Running). IsTrue (legal s.world (leave n))) (sym v) m) (ap (option_map holder_of) e))
    go (Some h) e = record { holder = h; holds = e; held = held_in w h e i.holder }

pub fits_in : (w : Inside) (h : IsHolding w) (k : holder.Holder) → HasKept h.holder k → Fits w.desk k.plan.change
fits_in w h k has = subst (Fits w.desk) (sym has.plan.change) h.held.fits

-- the world then
pub left_so :
    (w : Inside) (r : Running) (n : ℕ) (h : IsHolding w) (k : holder.Holder) (d : Desk) (after : Option holder.Holder) (pools : List Hold) (old kept me : Caller)
    → world_of w ≡ r → HasKept h.holder k → after ≡ None → pools ≡ w.pools.items → old ≡ caller_at (inner w) n
    → kept ≡ record old { pendings = old.pendings ++ all_kept pools h.holder.plan.contents h.holder.plan.parts h.holder.outs.items }
    → d ≡ (ended_on w.desk k.plan k.outs.items).next
    → me ≡ turned d (record { creds = k.creds; member = becomes k.plan k.who.member k.outs.items }) kept
    → with_steps (w.steps + 1) (record { desk = d; holder = option_map holder_of after; pools = w.pools.items; callers = set w.callers.items (n - 1) me }) ≡ stepped r (leave n)
unfolding stepped
left_so w r n h k d after pools old kept me v has none same at pend desk turn =
    let pend = pend ∙ ap (λ (hs : List Hold). record old { pendings = old.pendings ++ all_kept hs h.holder.plan.contents h.holder.plan.parts h.holder.outs.items }) same in
    let me_is : me ≡ left_caller (inner w) (holder_of h.holder) (caller_at (inner w) n) =
    caller_left (inner w) h.holder k d old kept me h.held has pend desk turn ∙ ap (left_caller (inner w) (holder_of h.holder)) at in
    let desk_is : d ≡ (command_end (inner w) (holder_of h.holder)).next = desk ∙ ap (λ (e : Ended). e.next) (sym (ends_as w.desk h.holder k h.held has)) in
    ap (λ (o : Option holder.Holder). with_steps (w.steps + 1) (record { desk = d; holder = option_map holder_of o; pools = w.pools.items; callers = set w.callers.items (n - 1) me })) none
    ∙ ap (λ (x : Caller). with_steps (w.steps + 1) (record { desk = d; holder = None; pools = w.pools.items; callers = set w.callers.items (n - 1) x })) me_is
    ∙ ap (λ (x : Desk). with_steps (w.steps + 1) (record { desk = x; holder = None; pools = w.pools.items; callers = set w.callers.items (n - 1) (left_caller (inner w) (holder_of h.holder) (caller_at (inner w) n)) })) desk_is
    ∙ ap (with_steps (w.steps + 1)) (sym (after_leaving (inner w) n (holder_of h.holder) (ap (option_map holder_of) h.holds)))
    ∙ ap (λ (s : Running). stepped s (leave n)) v

pub left_said :
    (w : Inside) (r : Running) (n : ℕ) (h : IsHolding w) (k : holder.Holder) (reply : Reply) → world_of w ≡ r → HasKept h.holder k
    → reply ≡ (ended_on w.desk k.plan k.outs.items).reply → answer.Left reply ≡ said (leave n) (says r.world (leave n))
left_said w r n h k reply v has e =
    ap answer.Left (e ∙ ap (λ (x : Ended). x.reply) (sym (ends_as w.desk h.holder k h.held has)))
    ∙ ap (said (leave n)) (sym (says_left (inner w) n (holder_of h.holder) (ap (option_map holder_of) h.holds)))
    ∙ ap (λ (s : Running). said (leave n) (says s.world (leave n))) v

-- it is whole
pub whole_left :
    (v x : Inside) (k : holder.Holder) → x.desk ≡ (ended_on v.desk k.plan k.outs.items).next → x.holder ≡ None → x.pools.items ≡ v.pools.items → length x.callers.items ≡ length v.callers.items
    → x.steps ≡ v.steps + 1 → v.steps < 2 ^ 54 → IsWhole v → IsWhole x
whole_left v x k desk none pools callers steps low w =
    let one = ids_by_one v.desk k.plan k.outs.items in
    record {
      pools = ap length pools ∙ w.pools;
      callers = callers ∙ w.callers;
      below = rw steps (subst (AllByRecursion (IsBelow (SLICES * (v.steps + 1)))) (sym pools) (more_below v.steps v.pools.items w.below));
      ids = rw (desk, steps) (omega (arith, w.ids, one));
      steps = rw steps (omega (arith, low));
      holder = rw none tt;
    }
