-- The slot of the oldest entry goes behind the other rows, and the entry out of the queue.
use Rattle.std.specs.Prelude.{◌≡◌, ◌≤◌, Some, length, option_map, vec_capacity}
use Rattle.std.proofs.Common.{arith, sym, ◌∙◌}
use Rattle.kd_model.proofs.Truth.{same_some}
use Rattle.kd_queue.specs.Order.{entry_number, oldest}
use Rattle.kd_pool.proofs.Moves.{moves_end, moves_on, moves_start}
use Rattle.kd_pool.proofs.table.move_queued.Goals as goal

pub waiting-init : goal.waiting-init
waiting-init c = (moves_start c.args.slots.now c.args.rows.now.items c.args.queue.now c.requires.found c.requires.apart c.requires.queued c.requires.empty, omega arith)

pub unreachable-requires : goal.unreachable-requires
unreachable-requires c =
    let named : option_map entry_number (oldest c.waiting.queue) ≡ Some c.in-Some.number = sym c.next.ensures.next ∙ c.in-Some.is in
    let s = moves_on c.args.slots.now c.waiting.rows.items c.waiting.queue c.in-Some.number c.waiting.invariant.0 named in
    c.in_default-find.not-Some s.slot (c.find.ensures ∙ s.found)

pub unwrap-requires : goal.unwrap-requires
unwrap-requires c =
    let named : option_map entry_number (oldest c.waiting.queue) ≡ Some c.in-Some.number = sym c.next.ensures.next ∙ c.in-Some.is in
    let s = moves_on c.args.slots.now c.waiting.rows.items c.waiting.queue c.in-Some.number c.waiting.invariant.0 named in
    let enough : length c.args.slots.now ≤ vec_capacity c.waiting.rows = omega (arith, c.requires.room, c.waiting.invariant.1) in
    c.push.ensures.succeeds (omega (arith, s.room))

pub waiting-smaller : goal.waiting-smaller
waiting-smaller c =
    let named : option_map entry_number (oldest c.waiting.queue) ≡ Some c.in-Some.number = sym c.next.ensures.next ∙ c.in-Some.is in
    let s = moves_on c.args.slots.now c.waiting.rows.items c.waiting.queue c.in-Some.number c.waiting.invariant.0 named in
    rw c.take.ensures.others s.fewer

pub waiting-preserved : goal.waiting-preserved
waiting-preserved c =
    let named : option_map entry_number (oldest c.waiting.queue) ≡ Some c.in-Some.number = sym c.next.ensures.next ∙ c.in-Some.is in
    let s = moves_on c.args.slots.now c.waiting.rows.items c.waiting.queue c.in-Some.number c.waiting.invariant.0 named in
    let same = same_some s.slot c.in-Some-find.slot (sym (c.find.ensures ∙ s.found) ∙ c.in-Some-find.is) in
    let grown = rw c.unwrap.ensures at c.push.ensures.items in
    (rw (grown, c.take.ensures.others, ← same) s.moved, omega (arith, c.waiting.invariant.1, c.push.ensures.capacity))

pub returns-clause-items : goal.returns-clause-items
returns-clause-items c = (moves_end c.args.slots.now c.waiting.rows.items c.waiting.queue c.waiting.invariant.0 (sym c.next.ensures.next ∙ c.in_default.is)).0

pub returns-clause-queue : goal.returns-clause-queue
returns-clause-queue c = (moves_end c.args.slots.now c.waiting.rows.items c.waiting.queue c.waiting.invariant.0 (sym c.next.ensures.next ∙ c.in_default.is)).1
