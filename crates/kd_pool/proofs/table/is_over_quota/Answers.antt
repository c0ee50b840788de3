-- Each slot of the user adds to its share.
use Rattle.std.specs.Prelude.{refl}
use Rattle.std.proofs.Common.{arith, sym, ◌∙◌}
use Rattle.kd_pool.proofs.Shares.{over_by_bytes, over_by_count, shares_in, shares_out}
use Rattle.kd_pool.proofs.table.is_over_quota.Goals.{then-is_pending_of, else-is_pending_of}
use Rattle.kd_pool.proofs.table.is_over_quota.Goals as goal

pub slots-init : goal.slots-init
slots-init c = record { sum = omega (arith, c.from-bytes.ensures); number = refl; most = omega (arith, c.from-bytes.ensures); few = omega arith }

pub overflow_add-bytes : goal.overflow_add-bytes
overflow_add-bytes c = omega (arith, c.slots.invariant.most, c.requires.few)

pub overflow_add-count : goal.overflow_add-count
overflow_add-count c = omega (arith, c.slots.invariant.few, c.requires.few)

pub slots-preserved : goal.slots-preserved
slots-preserved c =
    elim c.if-is_pending_of.branch [
      | then-is_pending_of w ↦ rw (w.bytes-is, w.count-is, w.from-bytes-then-is_pending_of.ensures) (shares_in c.args.slots.now c.slots.slot-index c.args.user c.args.len c.slots.bytes c.slots.count c.slot-item.result c.slots-test.true c.slot-item.is (omega arith) (sym c.is_pending_of.ensures ∙ w.if-is_pending_of.true) c.slots.invariant)
      | else-is_pending_of w ↦ rw (w.bytes-is, w.count-is) (shares_out c.args.slots.now c.slots.slot-index c.args.user c.args.len c.slots.bytes c.slots.count c.slot-item.result c.slots-test.true c.slot-item.is (sym c.is_pending_of.ensures ∙ w.if-is_pending_of.false) c.slots.invariant)
    ]

pub overflow_mul-bytes : goal.overflow_mul-bytes
overflow_mul-bytes c = omega (arith, c.slots.invariant.most, c.requires.few)

pub returns-then-size-bytes : goal.returns-then-size-bytes
returns-then-size-bytes c = over_by_bytes c.args.slots.now c.slots.slot-index c.args.size c.args.user c.args.len c.slots.bytes c.slots.count c.slots-test.false c.slots.invariant c.if-size-bytes.true

pub returns-else-size-bytes : goal.returns-else-size-bytes
returns-else-size-bytes c = over_by_count c.args.slots.now c.slots.slot-index c.args.size c.args.user c.args.len c.slots.bytes c.slots.count c.slots-test.false c.slots.invariant c.if-size-bytes.false
