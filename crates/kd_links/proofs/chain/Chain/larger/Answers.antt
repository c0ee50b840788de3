-- The node names the number behind its own, or the head.
use Rattle.std.specs.Prelude.{◌≡◌, ◌∷◌, true, false, nat_eq}
use Rattle.std.proofs.Common.{ap, arith, ◌∙◌}
use Rattle.std.proofs.lemmas.Bool.Decides.{nat_tests}
use Rattle.kd_model.specs.Words.{contains}
use Rattle.kd_rings.specs.Rings.{order}
use Rattle.kd_links.specs.Chains.{nexts, previouses}
use Rattle.kd_links.specs.declared.node.Node.{Node}
use Rattle.kd_rings.specs.declared.heads.TheConstants.{HEAD}
use Rattle.kd_rings.proofs.Rings.{ring_front, unless}
use Rattle.kd_links.proofs.Writes.{node_inside, read_under}
use Rattle.kd_links.proofs.chain.Chain.larger.Goals as goal

pub index-requires : goal.index-requires
index-requires c =
    let ns = c.self.inside.nodes.items in
    omega (arith, c.self.inside.nodes.ok.0, node_inside HEAD ns c.args.number c.self.invariant.second (rw (← c.self.view_is) at c.requires))

pub returns-then-next-eq-HEAD : goal.returns-then-next-eq-HEAD
returns-then-next-eq-HEAD c =
    let ns = c.self.inside.nodes.items in
    let among : contains c.args.number (HEAD ∷ order HEAD (nexts ns)) ≡ true = rw (← c.self.view_is) at c.requires in
    let inside = node_inside HEAD ns c.args.number c.self.invariant.second among in
    let read = read_under (λ (n : Node). n.next) ns c.args.number c.index.result.now inside c.index.ensures in
    let test : nat_eq c.index.result.now.next HEAD ≡ true = grind (arith, nat_tests) in
    let foremost = ap (unless HEAD) read ∙ ring_front HEAD (nexts ns) (previouses ns) c.args.number c.self.invariant.second among in
    rw (← c.self.view_is) (rw (unless, test) at foremost)

pub returns-else-next-eq-HEAD : goal.returns-else-next-eq-HEAD
returns-else-next-eq-HEAD c =
    let ns = c.self.inside.nodes.items in
    let among : contains c.args.number (HEAD ∷ order HEAD (nexts ns)) ≡ true = rw (← c.self.view_is) at c.requires in
    let inside = node_inside HEAD ns c.args.number c.self.invariant.second among in
    let read = read_under (λ (n : Node). n.next) ns c.args.number c.index.result.now inside c.index.ensures in
    let test : nat_eq c.index.result.now.next HEAD ≡ false = grind (arith, nat_tests) in
    let foremost = ap (unless HEAD) read ∙ ring_front HEAD (nexts ns) (previouses ns) c.args.number c.self.invariant.second among in
    rw (← c.self.view_is) (rw (unless, test) at foremost)
