use Rattle.std.proofs.Common.{◌+◌, ◌≤◌, arith, ap, ◌∙◌}
use Rattle.kd_wire.proofs.Lengths.{spelled_more}
use Rattle.kd_wire.proofs.Formed.{exceeds}
use Rattle.kd_wire.proofs.forming.length_within.Goals as goal

pub returns-then-length-total : goal.returns-then-length-total
returns-then-length-total c = exceeds c.args.items.now c.items.item-index c.items.total c.length-length.result c.item-item.result c.items-test.true c.item-item.is c.items.invariant.0 c.length-length.ensures c.if-length-total.true

pub items-preserved : goal.items-preserved
items-preserved c =
    let low : c.items.total ≤ 131072 = c.items.invariant.1 in
    (ap (λ n. c.items.total + n) c.length-length.ensures ∙ spelled_more c.args.items.now c.items.item-index c.items.total _ c.items-test.true c.item-item.is c.items.invariant.0, omega (arith, low, c.if-length-total.false))
