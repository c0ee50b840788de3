-- The node names the number before its own, or the head.
use Rattle.std.specs.Prelude.{◌≡◌, ◌∷◌, true}
use Rattle.std.proofs.Common.{arith, ◌∙◌}
use Rattle.kd_model.specs.Words.{contains}
use Rattle.kd_rings.specs.Rings.{order}
use Rattle.kd_links.specs.Chains.{nexts, previouses}
use Rattle.kd_links.specs.declared.node.Node.{Node}
use Rattle.kd_rings.specs.declared.heads.TheConstants.{HEAD}
use Rattle.kd_rings.proofs.Rings.{ring_before_all}
use Rattle.kd_links.proofs.Writes.{node_inside, read_under}
use Rattle.kd_links.proofs.chain.Chain.smaller.Goals as goal

pub index-requires : goal.index-requires
index-requires c =
    let ns = c.self.inside.nodes.items in
    omega (arith, c.self.inside.nodes.ok.0, node_inside HEAD ns c.args.number c.self.invariant.second (rw (← c.self.view_is) at c.requires))

pub returns : goal.returns
returns c =
    let ns = c.self.inside.nodes.items in
    let among : contains c.args.number (HEAD ∷ order HEAD (nexts ns)) ≡ true = rw (← c.self.view_is) at c.requires in
    let inside = node_inside HEAD ns c.args.number c.self.invariant.second among in
    let read = read_under (λ (n : Node). n.previous) ns c.args.number c.index.result.now inside c.index.ensures in
    rw (← c.self.view_is) (read ∙ ring_before_all HEAD (nexts ns) (previouses ns) c.args.number c.self.invariant.second among)
