-- The writes are those of a ring with one number more, behind the last.
use Rattle.std.specs.Prelude.{◌<◌, length}
use Rattle.std.proofs.Common.{ap, arith, ◌∙◌}
use Rattle.std.proofs.lemmas.List.{length-map}
use Rattle.kd_rings.specs.Rings.{order}
use Rattle.kd_order.specs.declared.node.Node.{Node}
use Rattle.kd_rings.specs.declared.heads.TheConstants.{HEAD, START}
use Rattle.kd_order.proofs.Arrived.{arrived}
use Rattle.kd_order.proofs.Writes.{read_under}
use Rattle.kd_order.proofs.chain.Chain.arrive.Goals as goal

pub index-requires : goal.index-requires
index-requires c =
    let ns = c.self.inside.nodes.items in
    omega (arith, length-map ns (λ (m : Node). m.next), c.self.invariant.first.inside, c.self.inside.nodes.ok.0)

pub link-requires : goal.link-requires
link-requires c =
    let ns = c.self.inside.nodes.items in
    let start : START < length ns = omega (arith, length-map ns (λ (m : Node). m.next), c.self.invariant.first.inside) in
    let inside : c.args.number < length ns = omega (arith, length-map ns (λ (m : Node). m.priority), rw (← c.self.view_is) at c.requires.inside) in
    let w = arrived ns c.index.result.now.previous c.args.number c.self.invariant (read_under (λ (m : Node). m.previous) ns START c.index.result.now start c.index.ensures) (rw (← c.self.view_is) at c.requires.new) c.requires.low inside in
    record { place = omega (arith, w.inside, c.self.inside.nodes.ok.0); number = omega (arith, inside, c.self.inside.nodes.ok.0); next = omega (arith, w.next, c.self.inside.nodes.ok.0) }

pub invariant_of-self : goal.invariant_of-self
invariant_of-self c =
    let ns = c.self.inside.nodes.items in
    let start : START < length ns = omega (arith, length-map ns (λ (m : Node). m.next), c.self.invariant.first.inside) in
    let inside : c.args.number < length ns = omega (arith, length-map ns (λ (m : Node). m.priority), rw (← c.self.view_is) at c.requires.inside) in
    let w = arrived ns c.index.result.now.previous c.args.number c.self.invariant (read_under (λ (m : Node). m.previous) ns START c.index.result.now start c.index.ensures) (rw (← c.self.view_is) at c.requires.new) c.requires.low inside in
    rw (c.link.ensures.nexts, c.link.ensures.previous) w.then.rings

pub returns-clause-arrivals : goal.returns-clause-arrivals
returns-clause-arrivals c =
    let ns = c.self.inside.nodes.items in
    let start : START < length ns = omega (arith, length-map ns (λ (m : Node). m.next), c.self.invariant.first.inside) in
    let inside : c.args.number < length ns = omega (arith, length-map ns (λ (m : Node). m.priority), rw (← c.self.view_is) at c.requires.inside) in
    let w = arrived ns c.index.result.now.previous c.args.number c.self.invariant (read_under (λ (m : Node). m.previous) ns START c.index.result.now start c.index.ensures) (rw (← c.self.view_is) at c.requires.new) c.requires.low inside in
    rw (← c.self.view_is) (ap (order START) c.link.ensures.nexts ∙ w.then.first_now)

pub returns-clause-ranks : goal.returns-clause-ranks
returns-clause-ranks c =
    let ns = c.self.inside.nodes.items in
    let start : START < length ns = omega (arith, length-map ns (λ (m : Node). m.next), c.self.invariant.first.inside) in
    let inside : c.args.number < length ns = omega (arith, length-map ns (λ (m : Node). m.priority), rw (← c.self.view_is) at c.requires.inside) in
    let w = arrived ns c.index.result.now.previous c.args.number c.self.invariant (read_under (λ (m : Node). m.previous) ns START c.index.result.now start c.index.ensures) (rw (← c.self.view_is) at c.requires.new) c.requires.low inside in
    rw (← c.self.view_is) (ap (order HEAD) c.link.ensures.nexts ∙ w.then.second_now)
