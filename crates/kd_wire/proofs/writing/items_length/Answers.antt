use Rattle.std.proofs.Common.{arith, ◌∙◌, ap, ◌+◌}
use Rattle.kd_wire.proofs.Lengths.{spelled_so_far, spelled_more}
use Rattle.kd_wire.proofs.writing.items_length.Goals as goal

pub overflow_add-total : goal.overflow_add-total
overflow_add-total c = omega (arith, spelled_so_far c.args.items.now c.loop-item.item-index _ c.loop-item-test.true c.item-item.is)

pub loop-item-preserved : goal.loop-item-preserved
loop-item-preserved c = ap (λ n. c.loop-item.total + n) c.length-total.ensures ∙ spelled_more c.args.items.now c.loop-item.item-index c.loop-item.total _ c.loop-item-test.true c.item-item.is c.loop-item.invariant
