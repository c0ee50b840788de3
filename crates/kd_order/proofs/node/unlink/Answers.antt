-- The nodes beside one are written.
use Rattle.std.specs.Prelude.{◌<◌, length, slice_index}
use Rattle.std.proofs.Common.{ap, arith, set, ◌∙◌}
use Rattle.kd_order.specs.Chains.{nexts, previouses}
use Rattle.kd_order.specs.declared.node.Node.{Node}
use Rattle.kd_order.proofs.Writes.{read_under}
use Rattle.kd_order.proofs.node.unlink.Goals as goal

pub set_next-requires : goal.set_next-requires
set_next-requires c =
    let ns = c.args.nodes.now.items in
    let previous = read_under (λ (m : Node). m.previous) ns c.args.number c.index.result.now (omega (arith, c.args.nodes.now.ok.0)) c.index.ensures in
    record { inside = omega (arith, previous, c.requires.previous) }

pub set_previous-requires : goal.set_previous-requires
set_previous-requires c =
    let ns = c.args.nodes.now.items in
    let next = read_under (λ (m : Node). m.next) ns c.args.number c.index.result.now (omega (arith, c.args.nodes.now.ok.0)) c.index.ensures in
    record { inside = omega (arith, next, c.set_next.ensures.len, c.requires.next) }

pub returns-clause-nexts : goal.returns-clause-nexts
returns-clause-nexts c =
    let ns = c.args.nodes.now.items in let n = c.args.number in let fs = nexts ns in
    let inside : c.args.number < length ns = omega (arith, c.args.nodes.now.ok.0) in
    let next = read_under (λ (m : Node). m.next) ns n c.index.result.now inside c.index.ensures in
    let previous = read_under (λ (m : Node). m.previous) ns n c.index.result.now inside c.index.ensures in
    c.set_previous.ensures.nexts ∙ c.set_next.ensures.nexts ∙ ap (set fs c.index.result.now.previous) next ∙ ap (λ k. set fs k (slice_index fs n)) previous

pub returns-clause-previous : goal.returns-clause-previous
returns-clause-previous c =
    let ns = c.args.nodes.now.items in let n = c.args.number in let gs = previouses ns in
    let inside : c.args.number < length ns = omega (arith, c.args.nodes.now.ok.0) in
    let next = read_under (λ (m : Node). m.next) ns n c.index.result.now inside c.index.ensures in
    let previous = read_under (λ (m : Node). m.previous) ns n c.index.result.now inside c.index.ensures in
    c.set_previous.ensures.previous ∙ ap (λ l. set l c.index.result.now.next c.index.result.now.previous) c.set_next.ensures.previous ∙ ap (set gs c.index.result.now.next) previous ∙ ap (λ k. set gs k (slice_index gs n)) next
