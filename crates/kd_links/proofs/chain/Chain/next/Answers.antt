-- The node names the number behind its own, or the start.
use Rattle.std.specs.Prelude.{◌≡◌, ◌∷◌, true, false, nat_eq}
use Rattle.std.proofs.Common.{ap, arith, ◌∙◌}
use Rattle.std.proofs.lemmas.Bool.Decides.{nat_tests}
use Rattle.kd_model.specs.Words.{contains}
use Rattle.kd_rings.specs.Rings.{order}
use Rattle.kd_links.specs.Chains.{nexts, previouses}
use Rattle.kd_links.specs.declared.node.Node.{Node}
use Rattle.kd_rings.specs.declared.heads.TheConstants.{START}
use Rattle.kd_rings.proofs.Rings.{ring_front, unless}
use Rattle.kd_links.proofs.Writes.{node_inside, read_under}
use Rattle.kd_links.proofs.chain.Chain.next.Goals as goal

pub index-requires : goal.index-requires
index-requires c =
    let ns = c.self.inside.nodes.items in
    omega (arith, c.self.inside.nodes.ok.0, node_inside START ns c.args.number c.self.invariant.first (rw (← c.self.view_is) at c.requires))

pub returns-then-next-eq-START : goal.returns-then-next-eq-START
returns-then-next-eq-START c =
    let ns = c.self.inside.nodes.items in
    let among : contains c.args.number (START ∷ order START (nexts ns)) ≡ true = rw (← c.self.view_is) at c.requires in
    let inside = node_inside START ns c.args.number c.self.invariant.first among in
    let read = read_under (λ (n : Node). n.next) ns c.args.number c.index.result.now inside c.index.ensures in
    let test : nat_eq c.index.result.now.next START ≡ true = grind (arith, nat_tests) in
    let foremost = ap (unless START) read ∙ ring_front START (nexts ns) (previouses ns) c.args.number c.self.invariant.first among in
    rw (← c.self.view_is) (rw (unless, test) at foremost)

pub returns-else-next-eq-START : goal.returns-else-next-eq-START
returns-else-next-eq-START c =
    let ns = c.self.inside.nodes.items in
    let among : contains c.args.number (START ∷ order START (nexts ns)) ≡ true = rw (← c.self.view_is) at c.requires in
    let inside = node_inside START ns c.args.number c.self.invariant.first among in
    let read = read_under (λ (n : Node). n.next) ns c.args.number c.index.result.now inside c.index.ensures in
    let test : nat_eq c.index.result.now.next START ≡ false = grind (arith, nat_tests) in
    let foremost = ap (unless START) read ∙ ring_front START (nexts ns) (previouses ns) c.args.number c.self.invariant.first among in
    rw (← c.self.view_is) (rw (unless, test) at foremost)
