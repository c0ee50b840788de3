-- A gap has a node, which has its span.
use Rattle.std.proofs.Common.{ap, arith, sym, ◌∙◌}
use Rattle.std.proofs.lemmas.List.{get_or-map}
use Rattle.kd_rings.specs.declared.heads.TheConstants.{HEAD}
use Rattle.kd_links.specs.Chains.{no_span}
use Rattle.kd_links.specs.declared.node.Node.{Node}
use Rattle.kd_links.proofs.Writes.{node_inside}
use Rattle.kd_links.proofs.chain.Chain.gap_span.Goals as goal

pub index-requires : goal.index-requires
index-requires c =
    let ns = c.self.inside.nodes.items in
    omega (arith, c.self.inside.nodes.ok.0, node_inside HEAD ns c.args.number c.self.invariant.second (rw (← c.self.view_is) at c.requires))

pub returns : goal.returns
returns c =
    let ns = c.self.inside.nodes.items in
    let inside = node_inside HEAD ns c.args.number c.self.invariant.second (rw (← c.self.view_is) at c.requires) in
    rw (← c.self.view_is) (ap (λ (n : Node). n.span) c.index.ensures ∙ sym (get_or-map (λ (n : Node). n.span) ns c.args.number c.index.result.now no_span inside))
