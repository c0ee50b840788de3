-- Book and table lose just the freed slots.
use Rattle.std.specs.Prelude.{map, not, refl, vec_capacity}
use Rattle.std.proofs.Common.{ap, arith, ◌∙◌}
use Rattle.kd_model.proofs.Lists.{map_of_filter}
use Rattle.kd_model.specs.Slices.{Book}
use Rattle.kd_pool.proofs.Kept.{kept_apart, kept_these, same_view}
use Rattle.kd_acts.specs.State.{Slice, is_freed}
use Rattle.kd_pool.proofs.Queued.{queued_swept}
use Rattle.kd_pool.proofs.Sharing.{seen_less, shared_less}
use Rattle.kd_pool.specs.Sealed.{without_shares}
use Rattle.kd_pool.specs.Table.{slice_shown}
use Rattle.kd_acts.specs.declared.slot.Slot.{Slot}
use Rattle.kd_pool.proofs.pool.Pool.sweep.Goals as goal

pub invariant_of-self : goal.invariant_of-self
invariant_of-self c =
    let ended = rw c.deref.ensures.value at c.end_freed.ensures in
    rw (c.take_out_freed.ensures.items, ended) (record {
      kept = kept_these c.self.inside.memory.items c.self.inside.book _ c.self.inside.slots.items _ (vec_capacity c.self.inside.slots) _ c.self.invariant.kept (rw c.deref-2.ensures.value at c.give_back_freed.ensures.freed) c.give_back_freed.ensures.sound (omega (arith, c.take_out_freed.ensures.room));
      queued = queued_swept c.self.inside.slots.items c.self.inside.queue c.self.inside.next_arrival c.self.invariant.queued;
      shared = shared_less is_freed c.self.inside.slots.items c.self.inside.shares.items c.self.invariant.shared;
    })

pub returns : goal.returns
returns c =
    let m = c.self.inside.memory.items in
    let h = c.self.inside.shares.items in
    let ss = c.self.inside.slots.items in
    let ended = rw c.deref.ensures.value at c.end_freed.ensures in
    rw (← c.self.view_is) (same_view m _ _ _ _ c.self.inside.next_arrival c.self.inside.dropped c.self.inside.offered (ap (λ (b : Book). b.size) c.give_back_freed.ensures.freed) (ap (λ k. map (slice_shown m k) c.take_out_freed.new.slots.items) ended ∙ ap (map (slice_shown m (without_shares is_freed ss h))) c.take_out_freed.ensures.items ∙ seen_less m is_freed ss h (kept_apart m c.self.inside.book ss (vec_capacity c.self.inside.slots) c.self.invariant.kept) ∙ map_of_filter (slice_shown m h) (λ (s : Slot). not (is_freed s)) (λ (s : Slice). not (is_freed s.slot)) (λ s. refl) c.self.inside.slots.items))
