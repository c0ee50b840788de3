-- What waits is carried over and goes, unless a slice is reserved.
use Rattle.std.specs.Prelude.{◌≡◌, ℕ, None, Some, List, length, map, not, refl, vec_capacity}
use Rattle.std.proofs.Common.{ap, arith, sym, ◌∙◌}
use Rattle.kd_model.specs.Words.{least, those}
use Rattle.kd_types.specs.declared.refusal.Refusal.TheVariants.{Busy}
use Rattle.kd_acts.proofs.Apart.{each_found}
use Rattle.kd_pool.proofs.Drains.{drains, images_shown}
use Rattle.kd_pool.proofs.Kept.{all_carried, few_slots, kept_apart, kept_below, kept_these, same_view}
use Rattle.kd_pool.proofs.Views.{slots_shown}
use Rattle.kd_model.proofs.Lists.{map_of_filter}
use Rattle.kd_model.specs.Slices.{Book}
use Rattle.kd_pool.proofs.Queued.{queued_drained}
use Rattle.kd_pool.proofs.Sharing.{seen_less, shared_less}
use Rattle.kd_pool.specs.Sealed.{without_shares}
use Rattle.kd_acts.specs.State.{Answer, Batch, Pool, Slice, drained, is_reserved, is_waiting, queue_of, refused, slots, waiting_slots}
use Rattle.kd_acts.specs.Steps.{of_lower_number}
use Rattle.kd_pool.specs.Table.{carried, slice_shown}
use Rattle.kd_acts.specs.declared.slot.Slot.{Slot}
use Rattle.kd_pool.proofs.pool.Pool.drain.Goals as goal

abbrev first : Pool × Answer → Pool
first s = s.0

abbrev second : Pool × Answer → Answer
second s = s.1

pub take_over-requires : goal.take_over-requires
take_over-requires c =
    let m = c.self.inside.memory.items in
    let h = c.self.inside.shares.items in
    let b = c.self.inside.book in
    let ss = c.self.inside.slots.items in
    let room = vec_capacity c.self.inside.slots in
    record {
      size = ap length c.deref-2.ensures.value ∙ c.self.invariant.kept.whole ∙ ap (λ (p : Pool). p.size) c.self.view_is ∙ sym c.requires.size;
      empty = c.requires.empty;
      few = rw c.deref-3.ensures.value (few_slots m b ss room c.self.invariant.kept);
      each = rw (c.deref-2.ensures.value, c.deref-3.ensures.value) (all_carried m b ss room c.self.invariant.kept);
      apart = rw c.deref-3.ensures.value (kept_apart m b ss room c.self.invariant.kept);
      below = rw c.deref-3.ensures.value (kept_below m b ss room c.self.invariant.kept);
      found = rw c.deref-3.ensures.value (each_found ss (kept_apart m b ss room c.self.invariant.kept));
      queued = c.self.invariant.queued.order ∙ ap queue_of (sym c.deref-3.ensures.value);
    }

pub invariant_of-self : goal.invariant_of-self
invariant_of-self c =
    let left = rw c.deref-3.ensures.value at c.take_over.ensures.shares in
    rw (c.take_out_waiting.ensures.items, c.take_over.ensures.queue, left) (record {
      kept = kept_these c.self.inside.memory.items c.self.inside.book _ c.self.inside.slots.items _ (vec_capacity c.self.inside.slots) _ c.self.invariant.kept (rw c.deref-4.ensures.value at c.give_back_waiting.ensures.gone) c.give_back_waiting.ensures.sound (omega (arith, c.take_out_waiting.ensures.room));
      queued = queued_drained c.self.inside.slots.items c.self.inside.queue c.self.inside.next_arrival c.self.invariant.queued;
      shared = shared_less is_waiting c.self.inside.slots.items c.self.inside.shares.items c.self.invariant.shared;
    })

pub returns-in-Some-clause-state : goal.returns-in-Some-clause-state
returns-in-Some-clause-state c =
    let ss = c.self.inside.slots.items in
    let table : slots c.args.self.now ≡ ss = sym (ap slots c.self.view_is) ∙ slots_shown c.self.inside.memory.items c.self.inside.shares.items ss in
    let some : least of_lower_number (those is_reserved ss) ≡ Some c.in-Some.slot = rw (← c.deref.ensures.value) (sym c.lowest_reserved.ensures ∙ c.in-Some.is) in
    sym (ap first (drains c.args.self.now ss (Some c.in-Some.slot) table some))

pub returns-in-Some-clause-answer : goal.returns-in-Some-clause-answer
returns-in-Some-clause-answer c =
    let ss = c.self.inside.slots.items in
    let table : slots c.args.self.now ≡ ss = sym (ap slots c.self.view_is) ∙ slots_shown c.self.inside.memory.items c.self.inside.shares.items ss in
    let some : least of_lower_number (those is_reserved ss) ≡ Some c.in-Some.slot = rw (← c.deref.ensures.value) (sym c.lowest_reserved.ensures ∙ c.in-Some.is) in
    let number : c.from-slice.result ≡ c.in-Some.slot.number = c.from-slice.ensures ∙ ap (λ (s : Slot). s.number) c.slot.view_is in
    ap (λ n. refused (Busy n)) number ∙ sym (ap second (drains c.args.self.now ss (Some c.in-Some.slot) table some))

pub returns-clause-state : goal.returns-clause-state
returns-clause-state c =
    let ss = c.self.inside.slots.items in
    let table : slots c.args.self.now ≡ ss = sym (ap slots c.self.view_is) ∙ slots_shown c.self.inside.memory.items c.self.inside.shares.items ss in
    let none : least of_lower_number (those is_reserved ss) ≡ None = rw (← c.deref.ensures.value) (sym c.lowest_reserved.ensures ∙ c.in_default.is) in
    let m = c.self.inside.memory.items in
    let h = c.self.inside.shares.items in
    let left = rw c.deref-3.ensures.value at c.take_over.ensures.shares in
    rw (← c.self.view_is) (same_view m _ _ _ _ c.self.inside.next_arrival c.self.inside.dropped c.self.inside.offered (ap (λ (b : Book). b.size) c.give_back_waiting.ensures.gone)
    (ap (λ k. map (slice_shown m k) c.take_out_waiting.new.slots.items) left ∙ ap (map (slice_shown m (without_shares is_waiting ss h))) c.take_out_waiting.ensures.items ∙ seen_less m is_waiting ss h (kept_apart m c.self.inside.book ss (vec_capacity c.self.inside.slots) c.self.invariant.kept) ∙ map_of_filter (slice_shown m h) (λ (s : Slot). not (is_waiting s)) (λ (s : Slice). not (is_waiting s.slot)) (λ s. refl) ss))
    ∙ sym (ap first (drains c.args.self.now ss None table none))

pub returns-clause-answer : goal.returns-clause-answer
returns-clause-answer c =
    let m = c.self.inside.memory.items in
    let h = c.self.inside.shares.items in
    let ss = c.self.inside.slots.items in
    let table : slots c.args.self.now ≡ ss = sym (ap slots c.self.view_is) ∙ slots_shown m h ss in
    let none : least of_lower_number (those is_reserved ss) ≡ None = rw (← c.deref.ensures.value) (sym c.lowest_reserved.ensures ∙ c.in_default.is) in
    let P : List ℕ → List Slot → Answer = λ m ss. drained (map (carried m h) (waiting_slots ss)) in
    let same : c.args.self.now.slices ≡ map (slice_shown m h) ss = sym (ap (λ (p : Pool). p.slices) c.self.view_is) in
    ap (λ (b : Batch). drained b.images) c.take_over.ensures.images ∙ ap (λ x. P x c.deref-3.result.now) c.deref-2.ensures.value ∙ ap (P m) c.deref-3.ensures.value ∙ ap drained (images_shown m h ss c.args.self.now same) ∙ sym (ap second (drains c.args.self.now ss None table none))
