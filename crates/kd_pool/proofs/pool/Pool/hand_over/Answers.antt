-- The slot of the number is handed over and stays where it is, and its entry goes.
use Rattle.std.specs.Prelude.{◌≡◌, map, refl, true, vec_capacity}
use Rattle.std.proofs.Common.{ap, ◌∙◌}
use Rattle.kd_acts.specs.Steps.{in_phase}
use Rattle.kd_acts.specs.declared.slot.Phase.TheVariants.{Handed}
use Rattle.kd_pool.proofs.Kept.{kept_change, phase_stays, same_view}
use Rattle.kd_pool.proofs.Queued.{queued_handed, waiting_has_entry}
use Rattle.kd_pool.proofs.Sharing.{shared_phase}
use Rattle.kd_pool.proofs.Views.{phases_shown, slots_shown}
use Rattle.kd_pool.specs.Table.{number_waits, slice_shown}
use Rattle.kd_pool.proofs.pool.Pool.hand_over.Goals as goal

pub take-requires : goal.take-requires
take-requires c =
    let ss = c.self.inside.slots.items in
    let waits : number_waits c.args.number ss ≡ true = rw (← c.self.view_is, slots_shown c.self.inside.memory.items c.self.inside.shares.items ss) at c.requires in
    record { waits = waiting_has_entry c.args.number ss c.self.inside.queue c.self.inside.next_arrival c.self.invariant.queued waits }

pub invariant_of-self : goal.invariant_of-self
invariant_of-self c = rw (c.set_phase.ensures.items, c.take.ensures.others) (record {
  kept = kept_change c.self.inside.memory.items _ c.self.inside.book c.self.inside.slots.items (in_phase Handed c.args.number) (vec_capacity c.self.inside.slots) _ (phase_stays Handed c.args.number) c.self.invariant.kept refl c.set_phase.ensures.room;
  queued = queued_handed c.args.number c.self.inside.slots.items c.self.inside.queue c.self.inside.next_arrival c.self.invariant.queued;
  shared = shared_phase Handed c.args.number c.self.inside.slots.items c.self.inside.shares.items (λ e. cc) c.self.invariant.shared;
})

pub returns : goal.returns
returns c =
    let m = c.self.inside.memory.items in
    let h = c.self.inside.shares.items in
    rw (← c.self.view_is) (same_view m _ _ _ _ c.self.inside.next_arrival c.self.inside.dropped c.self.inside.offered refl (ap (map (slice_shown m h)) c.set_phase.ensures.items ∙ phases_shown m h Handed c.args.number c.self.inside.slots.items))
