-- The slot of the number changes its phase and stays where it is.
use Rattle.std.specs.Prelude.{map, refl, vec_capacity}
use Rattle.std.proofs.Common.{ap, ◌∙◌}
use Rattle.kd_pool.proofs.Kept.{kept_apart, kept_change, phase_stays, same_view}
use Rattle.kd_pool.proofs.Sharing.{shared_phase}
use Rattle.kd_pool.proofs.Views.{phases_shown, slots_shown}
use Rattle.kd_pool.proofs.Queued.{queued_phase}
use Rattle.kd_acts.specs.Steps.{in_phase}
use Rattle.kd_pool.specs.Table.{slice_shown}
use Rattle.kd_pool.proofs.pool.Pool.set_phase.Goals as goal

pub invariant_of-self : goal.invariant_of-self
invariant_of-self c = rw c.set_phase.ensures.items (record {
  kept = kept_change c.self.inside.memory.items _ c.self.inside.book c.self.inside.slots.items (in_phase c.args.phase c.args.number) (vec_capacity c.self.inside.slots) _ (phase_stays c.args.phase c.args.number) c.self.invariant.kept refl c.set_phase.ensures.room;
  queued = queued_phase c.args.phase c.args.number c.self.inside.slots.items c.self.inside.queue c.self.inside.next_arrival (kept_apart c.self.inside.memory.items c.self.inside.book c.self.inside.slots.items (vec_capacity c.self.inside.slots) c.self.invariant.kept) (rw (← c.self.view_is, slots_shown c.self.inside.memory.items c.self.inside.shares.items c.self.inside.slots.items) at c.requires.waits) c.self.invariant.queued;
  shared = shared_phase c.args.phase c.args.number c.self.inside.slots.items c.self.inside.shares.items c.requires.taken c.self.invariant.shared;
})

pub returns : goal.returns
returns c =
    let m = c.self.inside.memory.items in
    let h = c.self.inside.shares.items in
    rw (← c.self.view_is) (same_view m _ _ _ _ c.self.inside.next_arrival c.self.inside.dropped c.self.inside.offered refl (ap (map (slice_shown m h)) c.set_phase.ensures.items ∙ phases_shown m h c.args.phase c.args.number c.self.inside.slots.items))
