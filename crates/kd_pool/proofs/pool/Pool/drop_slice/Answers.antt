-- Book and table lose just the slot of the number.
use Rattle.std.specs.Prelude.{◌≡◌, None, map, not, refl, set, true, vec_capacity}
use Rattle.std.proofs.Common.{ap, ◌∙◌}
use Rattle.kd_model.proofs.Lists.{map_of_filter}
use Rattle.kd_model.specs.Slices.{Book}
use Rattle.kd_pool.proofs.Kept.{in_book, kept_without, same_view}
use Rattle.kd_pool.proofs.Sharing.{seen_without, shared_without}
use Rattle.kd_pool.proofs.Views.{slots_shown}
use Rattle.kd_acts.specs.State.{Slice, slot_numbered}
use Rattle.kd_pool.proofs.Queued.{queued_without, waiting_among, waiting_has_entry}
use Rattle.kd_pool.specs.Table.{number_waits, slice_shown}
use Rattle.kd_acts.specs.declared.slot.Slot.{Slot}
use Rattle.kd_pool.proofs.pool.Pool.drop_slice.Goals as goal

pub give_back-requires : goal.give_back-requires
give_back-requires c =
    let m = c.self.inside.memory.items in
    let h = c.self.inside.shares.items in
    let ss = c.self.inside.slots.items in
    in_book m c.self.inside.book ss c.args.number (vec_capacity c.self.inside.slots) c.self.invariant.kept (waiting_among c.args.number ss (rw (← c.self.view_is, slots_shown m h ss) at c.requires))

pub take-requires : goal.take-requires
take-requires c =
    let ss = c.self.inside.slots.items in
    let waits : number_waits c.args.number ss ≡ true = rw (← c.self.view_is, slots_shown c.self.inside.memory.items c.self.inside.shares.items ss) at c.requires in
    record { waits = waiting_has_entry c.args.number ss c.self.inside.queue c.self.inside.next_arrival c.self.invariant.queued waits }

pub invariant_of-self : goal.invariant_of-self
invariant_of-self c = rw (c.take_out.ensures.items, c.take.ensures.others, c.put.ensures) (record {
  kept = kept_without c.self.inside.memory.items c.self.inside.book _ c.self.inside.slots.items c.args.number (vec_capacity c.self.inside.slots) _ c.self.invariant.kept c.give_back.ensures.gone c.give_back.ensures.sound c.take_out.ensures.room;
  queued = queued_without c.args.number c.self.inside.slots.items c.self.inside.queue c.self.inside.next_arrival c.self.invariant.queued;
  shared = shared_without c.args.number c.self.inside.slots.items c.self.inside.shares.items c.self.invariant.shared;
})

pub returns : goal.returns
returns c =
    let m = c.self.inside.memory.items in
    let h = c.self.inside.shares.items in
    rw (← c.self.view_is) (same_view m _ _ _ _ c.self.inside.next_arrival c.self.inside.dropped c.self.inside.offered (ap (λ (b : Book). b.size) c.give_back.ensures.gone) (ap (λ k. map (slice_shown m k) c.take_out.new.slots.items) c.put.ensures ∙ ap (map (slice_shown m (set h c.args.number None))) c.take_out.ensures.items ∙ seen_without m c.args.number c.self.inside.slots.items h ∙ map_of_filter (slice_shown m h) (λ (s : Slot). not (slot_numbered c.args.number s)) (λ (s : Slice). not (slot_numbered c.args.number s.slot)) (λ s. refl) c.self.inside.slots.items))
