-- The start and the head name themselves, and the other nodes the start.
use Rattle.std.specs.Prelude.{◌≡◌}
use Rattle.std.proofs.Common.{ap, set, ◌∙◌}
use Rattle.kd_links.specs.declared.node.Node.{Node}
use Rattle.kd_rings.specs.declared.heads.TheConstants.{HEAD, START}
use Rattle.kd_links.specs.declared.node.TheConstants.{NODES}
use Rattle.kd_rings.specs.Rings.{order}
use Rattle.kd_links.specs.Chains.{nexts, no_span, previouses, spans}
use Rattle.kd_links.proofs.Made.{blank, made, map_all}
use Rattle.kd_links.proofs.chain.Chain.make.Goals as goal

abbrev node : Node
node = record { previous = START; next = START; span = no_span }

pub invariant_of-result : goal.invariant_of-result
invariant_of-result c =
    let is = c.in_ok-nodes.ensures.items_if_clones_equal (λ y h. h) in
    let forward : nexts c.set_previous.new.nodes.items ≡ blank = c.set_previous.ensures.nexts ∙ c.set_next.ensures.nexts ∙ ap (λ l. set (nexts l) HEAD HEAD) is ∙ ap (λ l. set l HEAD HEAD) (map_all (λ (m : Node). m.next) NODES node) in
    let back : previouses c.set_previous.new.nodes.items ≡ blank = c.set_previous.ensures.previous ∙ ap (λ l. set l HEAD HEAD) (c.set_next.ensures.previous ∙ ap previouses is ∙ map_all (λ (m : Node). m.previous) NODES node) in
    rw (forward, back) made.rings

pub returns-clause-order : goal.returns-clause-order
returns-clause-order c =
    let is = c.in_ok-nodes.ensures.items_if_clones_equal (λ y h. h) in
    let forward : nexts c.set_previous.new.nodes.items ≡ blank = c.set_previous.ensures.nexts ∙ c.set_next.ensures.nexts ∙ ap (λ l. set (nexts l) HEAD HEAD) is ∙ ap (λ l. set l HEAD HEAD) (map_all (λ (m : Node). m.next) NODES node) in
    ap (order START) forward ∙ made.none

pub returns-clause-gaps : goal.returns-clause-gaps
returns-clause-gaps c =
    let is = c.in_ok-nodes.ensures.items_if_clones_equal (λ y h. h) in
    let forward : nexts c.set_previous.new.nodes.items ≡ blank = c.set_previous.ensures.nexts ∙ c.set_next.ensures.nexts ∙ ap (λ l. set (nexts l) HEAD HEAD) is ∙ ap (λ l. set l HEAD HEAD) (map_all (λ (m : Node). m.next) NODES node) in
    ap (order HEAD) forward ∙ made.empty

pub returns-clause-spans : goal.returns-clause-spans
returns-clause-spans c =
    let is = c.in_ok-nodes.ensures.items_if_clones_equal (λ y h. h) in
    c.set_previous.ensures.spans ∙ c.set_next.ensures.spans ∙ ap spans is ∙ map_all (λ (m : Node). m.span) NODES node
