-- A slice ends within the pool, and what it adds to the search is the gap before it.
use Rattle.std.proofs.Common.{arith}
use Rattle.kd_model.proofs.Lists.{rest_at}
use Rattle.kd_slices.proofs.Walks.{ends_within, searches_on}
use Rattle.kd_slices.proofs.gaps.smallest_gap.Goals as goal

pub overflow_add-start : goal.overflow_add-start
overflow_add-start c =
    let here = rest_at c.args.slices.now c.slices.slice-index c.slice-item.result c.slices-test.true c.slice-item.is in
    let order = rw here at c.slices.invariant.order in
    omega (arith, ends_within _ c.args.size _ order.2)

pub slices-preserved : goal.slices-preserved
slices-preserved c =
    let here = rest_at c.args.slices.now c.slices.slice-index c.slice-item.result c.slices-test.true c.slice-item.is in
    searches_on c.slices.start c.args.size c.args.len c.slices.best _ c.args.slices.now _ c.slice-item.result (rw here at c.slices.invariant) c.better-best.ensures
