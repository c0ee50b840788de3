-- The writes are those of a ring without one of its numbers.
use Rattle.std.specs.Prelude.{◌≡◌, true}
use Rattle.std.proofs.Common.{ap, arith, ◌∙◌}
use Rattle.kd_model.specs.Words.{contains}
use Rattle.kd_rings.specs.Rings.{order}
use Rattle.kd_links.specs.Chains.{nexts, previouses}
use Rattle.kd_rings.specs.declared.heads.TheConstants.{HEAD, START}
use Rattle.kd_rings.proofs.Pairs.{second_out}
use Rattle.kd_rings.proofs.Rings.{later_in}
use Rattle.kd_links.proofs.Writes.{next_node, node_inside, previous_node}
use Rattle.kd_links.proofs.chain.Chain.unfile.Goals as goal

pub unlink-requires-clause-number : goal.unlink-requires-clause-number
unlink-requires-clause-number c =
    let ns = c.self.inside.nodes.items in let n = c.args.number in
    let among : contains n (order HEAD (nexts ns)) ≡ true = rw (← c.self.view_is) at c.requires in
    omega (arith, c.self.inside.nodes.ok.0, node_inside HEAD ns n c.self.invariant.second (later_in n HEAD (order HEAD (nexts ns)) among))

pub unlink-requires-clause-next : goal.unlink-requires-clause-next
unlink-requires-clause-next c =
    let ns = c.self.inside.nodes.items in let n = c.args.number in
    let among : contains n (order HEAD (nexts ns)) ≡ true = rw (← c.self.view_is) at c.requires in
    omega (arith, c.self.inside.nodes.ok.0, next_node HEAD ns n c.self.invariant.second (later_in n HEAD (order HEAD (nexts ns)) among))

pub unlink-requires-clause-previous : goal.unlink-requires-clause-previous
unlink-requires-clause-previous c =
    let ns = c.self.inside.nodes.items in let n = c.args.number in
    let among : contains n (order HEAD (nexts ns)) ≡ true = rw (← c.self.view_is) at c.requires in
    omega (arith, c.self.inside.nodes.ok.0, previous_node HEAD ns n c.self.invariant.second among)

pub invariant_of-self : goal.invariant_of-self
invariant_of-self c =
    let ns = c.self.inside.nodes.items in let n = c.args.number in
    let among : contains n (order HEAD (nexts ns)) ≡ true = rw (← c.self.view_is) at c.requires in
    let then = second_out (nexts ns) (previouses ns) n c.self.invariant among in
    let forward = c.unlink.ensures.nexts in
    let back = c.unlink.ensures.previous in
    rw (forward, back) then.rings

pub returns-clause-order : goal.returns-clause-order
returns-clause-order c =
    let ns = c.self.inside.nodes.items in let n = c.args.number in
    let among : contains n (order HEAD (nexts ns)) ≡ true = rw (← c.self.view_is) at c.requires in
    let then = second_out (nexts ns) (previouses ns) n c.self.invariant among in
    let forward = c.unlink.ensures.nexts in
    rw (← c.self.view_is) (ap (order START) forward ∙ then.first_now)

pub returns-clause-gaps : goal.returns-clause-gaps
returns-clause-gaps c =
    let ns = c.self.inside.nodes.items in let n = c.args.number in
    let among : contains n (order HEAD (nexts ns)) ≡ true = rw (← c.self.view_is) at c.requires in
    let then = second_out (nexts ns) (previouses ns) n c.self.invariant among in
    let forward = c.unlink.ensures.nexts in
    rw (← c.self.view_is) (ap (order HEAD) forward ∙ then.second_now)
