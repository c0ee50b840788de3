-- The start and the head come to name themselves.
use Rattle.std.proofs.Common.{ap, set, ◌∙◌}
use Rattle.kd_rings.specs.Rings.{order}
use Rattle.kd_order.specs.Chains.{nexts, previouses}
use Rattle.kd_rings.specs.declared.heads.TheConstants.{HEAD, START}
use Rattle.kd_order.proofs.Made.{cleared}
use Rattle.kd_order.proofs.chain.Chain.clear.Goals as goal

pub invariant_of-self : goal.invariant_of-self
invariant_of-self c =
    let ns = c.self.inside.nodes.items in
    let forward = c.set_next-2.ensures.nexts ∙ ap (λ l. set l HEAD HEAD) (c.set_previous.ensures.nexts ∙ c.set_next.ensures.nexts) in
    let back = c.set_previous-2.ensures.previous ∙ ap (λ l. set l HEAD HEAD) (c.set_next-2.ensures.previous ∙ c.set_previous.ensures.previous ∙ ap (λ l. set l START START) c.set_next.ensures.previous) in
    rw (c.set_previous-2.ensures.nexts ∙ forward, back) (cleared (nexts ns) (previouses ns) c.self.invariant.first.inside c.self.invariant.second.inside c.self.invariant.first.both).rings

pub returns-clause-arrivals : goal.returns-clause-arrivals
returns-clause-arrivals c =
    let ns = c.self.inside.nodes.items in
    let forward = c.set_next-2.ensures.nexts ∙ ap (λ l. set l HEAD HEAD) (c.set_previous.ensures.nexts ∙ c.set_next.ensures.nexts) in
    ap (order START) (c.set_previous-2.ensures.nexts ∙ forward) ∙ (cleared (nexts ns) (previouses ns) c.self.invariant.first.inside c.self.invariant.second.inside c.self.invariant.first.both).none

pub returns-clause-ranks : goal.returns-clause-ranks
returns-clause-ranks c =
    let ns = c.self.inside.nodes.items in
    let forward = c.set_next-2.ensures.nexts ∙ ap (λ l. set l HEAD HEAD) (c.set_previous.ensures.nexts ∙ c.set_next.ensures.nexts) in
    ap (order HEAD) (c.set_previous-2.ensures.nexts ∙ forward) ∙ (cleared (nexts ns) (previouses ns) c.self.invariant.first.inside c.self.invariant.second.inside c.self.invariant.first.both).empty
