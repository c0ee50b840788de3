-- One field of one node changes.
use Rattle.std.proofs.Common.{arith, refl}
use Rattle.std.proofs.lemmas.List.{map-set}
use Rattle.kd_links.proofs.Writes.{same_under}
use Rattle.kd_links.specs.declared.node.Node.{Node}
use Rattle.kd_links.proofs.node.set_span.Goals as goal

pub returns-clause-nexts : goal.returns-clause-nexts
returns-clause-nexts c = same_under (λ (n : Node). n.next) c.args.nodes.now.items c.args.number c.index_mut.result.now _ (omega (arith, c.args.nodes.now.ok.0)) c.index_mut.ensures.value refl

pub returns-clause-previous : goal.returns-clause-previous
returns-clause-previous c = same_under (λ (n : Node). n.previous) c.args.nodes.now.items c.args.number c.index_mut.result.now _ (omega (arith, c.args.nodes.now.ok.0)) c.index_mut.ensures.value refl

pub returns-clause-spans : goal.returns-clause-spans
returns-clause-spans c = map-set (λ (n : Node). n.span) c.args.nodes.now.items c.args.number _
