-- The slots that wait lie in the memory that was copied.
use Rattle.std.specs.Prelude.{◌≡◌, ℕ, List, map, length, vec_capacity}
use Rattle.std.proofs.Common.{ap, arith, ◌∙◌}
use Rattle.kd_pool.proofs.Drains.{few_arrive, few_carried, none_seen}
use Rattle.kd_acts.proofs.Arrivals.{all_of_waiting}
use Rattle.kd_model.proofs.Lists.{all_follow}
use Rattle.kd_acts.specs.State.{Batch, is_waiting, waiting_slots}
use Rattle.kd_pool.proofs.Sharing.{length_moved, moved_waiting, waiting_apart}
use Rattle.kd_pool.specs.Table.{AreCarried, IsCarried, carried}
use Rattle.kd_acts.specs.declared.slot.Slot.{Slot}
use Rattle.kd_pool.proofs.drained.Drained.take_over.Goals as goal

pub copy_from_slice-requires : goal.copy_from_slice-requires
copy_from_slice-requires c = let size = ap (λ (b : Batch). b.size) c.self.view_is in omega (arith, size, c.requires.size)

pub move_queued-requires : goal.move_queued-requires
move_queued-requires c = record {
  empty = none_seen c.self.inside.memory.items c.self.inside.shares.items c.self.inside.rows.items (rw (← c.self.view_is) at c.requires.empty);
  room = omega (arith, c.requires.few, c.self.invariant.enough);
  found = c.requires.found;
  apart = c.requires.apart;
  queued = c.requires.queued;
}

pub invariant_of-self : goal.invariant_of-self
invariant_of-self c =
    let made : AreCarried c.args.memory.now (waiting_slots c.args.slots.now) c.move_waiting.new.to.items (vec_capacity c.move_queued.new.rows) = record {
      each = all_of_waiting (IsCarried (length c.args.memory.now)) c.args.slots.now c.requires.each;
      apart = waiting_apart c.args.slots.now c.requires.apart;
      few = omega (arith, few_arrive c.args.slots.now, c.requires.few);
      enough = omega (arith, c.self.invariant.enough, c.move_queued.ensures.room);
      wide = ap length c.move_waiting.ensures.to ∙ length_moved is_waiting c.args.slots.now c.args.shares.now.items c.self.inside.shares.items ∙ c.self.invariant.wide;
    } in
    rw (c.copy_from_slice.ensures.items, c.move_queued.ensures.items) made

pub returns-clause-images : goal.returns-clause-images
returns-clause-images c =
    let ss = c.args.slots.now in
    let h = c.args.shares.now.items in
    let P : List ℕ → List Slot → Batch = λ m ss. record { size = length m; images = map (carried m c.move_waiting.new.to.items) ss } in
    let low = all_follow _ _ ss (λ (s : Slot) l. omega (arith, l, c.self.invariant.wide)) c.requires.below in
    let moved = ap (λ k. map (carried c.args.memory.now k) (waiting_slots ss)) c.move_waiting.ensures.to ∙ moved_waiting c.args.memory.now ss h c.self.inside.shares.items c.requires.apart low in
    ap (λ m. P m c.move_queued.new.rows.items) c.copy_from_slice.ensures.items ∙ ap (P c.args.memory.now) c.move_queued.ensures.items ∙ ap (λ is. record { size = length c.args.memory.now; images = is }) moved
    ∙ ap (λ n. record { size = n; images = map (carried c.args.memory.now h) (waiting_slots ss) }) c.requires.size

pub returns-clause-few : goal.returns-clause-few
returns-clause-few c =
    let rows : length c.move_queued.new.rows.items ≡ length (waiting_slots c.args.slots.now) = ap length c.move_queued.ensures.items in
    few_carried _ _ c.move_queued.new.rows.items _ (omega (arith, rows, few_arrive c.args.slots.now, c.requires.few))
