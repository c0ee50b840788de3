-- One field of one node changes.
use Rattle.std.proofs.Common.{ap, arith, refl, set, w64, ◌∙◌}
use Rattle.std.proofs.lemmas.Int.{to_z-of_z}
use Rattle.kd_order.specs.Chains.{priorities}
use Rattle.std.proofs.lemmas.List.{map-set}
use Rattle.kd_order.proofs.Writes.{same_under}
use Rattle.kd_order.specs.declared.node.Node.{Node}
use Rattle.kd_order.proofs.node.set_priority.Goals as goal

pub returns-clause-nexts : goal.returns-clause-nexts
returns-clause-nexts c = same_under (λ (n : Node). n.next) c.args.nodes.now.items c.args.number c.index_mut.result.now _ (omega (arith, c.args.nodes.now.ok.0)) c.index_mut.ensures.value refl

pub returns-clause-previous : goal.returns-clause-previous
returns-clause-previous c = same_under (λ (n : Node). n.previous) c.args.nodes.now.items c.args.number c.index_mut.result.now _ (omega (arith, c.args.nodes.now.ok.0)) c.index_mut.ensures.value refl

pub returns-clause-priorities : goal.returns-clause-priorities
returns-clause-priorities c = map-set (λ (n : Node). n.priority) c.args.nodes.now.items c.args.number _ ∙ ap (set (priorities c.args.nodes.now.items) c.args.number) (to_z-of_z w64 c.args.priority c.ranges.priority)
