-- Two nodes and those beside them are written.
use Rattle.std.proofs.Common.{ap, arith, set, ◌∙◌}
use Rattle.kd_links.specs.Chains.{nexts, previouses}
use Rattle.kd_links.specs.declared.node.Node.{Node}
use Rattle.kd_links.proofs.Writes.{read_under}
use Rattle.kd_links.proofs.node.link.Goals as goal

pub set_previous-requires-2 : goal.set_previous-requires-2
set_previous-requires-2 c =
    let ns = c.args.nodes.now.items in
    let read = read_under (λ (m : Node). m.next) ns c.args.place c.index.result.now (omega (arith, c.args.nodes.now.ok.0)) c.index.ensures in
    record { inside = omega (arith, read, c.set_next.ensures.len, c.set_previous.ensures.len, c.set_next-2.ensures.len, c.requires.next) }

pub returns-clause-nexts : goal.returns-clause-nexts
returns-clause-nexts c =
    let ns = c.args.nodes.now.items in let p = c.args.place in let n = c.args.number in
    let read = read_under (λ (m : Node). m.next) ns p c.index.result.now (omega (arith, c.args.nodes.now.ok.0)) c.index.ensures in
    c.set_previous-2.ensures.nexts ∙ c.set_next-2.ensures.nexts ∙ ap (λ l. set l p n) (c.set_previous.ensures.nexts ∙ c.set_next.ensures.nexts) ∙ ap (λ q. set (set (nexts ns) n q) p n) read

pub returns-clause-previous : goal.returns-clause-previous
returns-clause-previous c =
    let ns = c.args.nodes.now.items in let p = c.args.place in let n = c.args.number in
    let read = read_under (λ (m : Node). m.next) ns p c.index.result.now (omega (arith, c.args.nodes.now.ok.0)) c.index.ensures in
    c.set_previous-2.ensures.previous ∙ ap (λ l. set l c.index.result.now.next n) (c.set_next-2.ensures.previous ∙ c.set_previous.ensures.previous ∙ ap (λ l. set l n p) c.set_next.ensures.previous) ∙ ap (λ q. set (set (previouses ns) n p) q n) read
