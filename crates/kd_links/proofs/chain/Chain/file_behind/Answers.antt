-- The writes are those of a ring with one number more.
use Rattle.std.specs.Prelude.{◌≡◌, ◌<◌, ◌∷◌, true, false, length}
use Rattle.std.proofs.Common.{ap, arith, ◌∙◌}
use Rattle.std.proofs.lemmas.List.{length-map}
use Rattle.kd_model.specs.Words.{contains}
use Rattle.kd_rings.specs.Rings.{order}
use Rattle.kd_links.specs.Chains.{nexts, previouses}
use Rattle.kd_links.specs.declared.node.Node.{Node}
use Rattle.kd_rings.specs.declared.heads.TheConstants.{HEAD, START}
use Rattle.kd_rings.proofs.Pairs.{second_put}
use Rattle.kd_links.proofs.Writes.{next_node, node_inside}
use Rattle.kd_links.proofs.chain.Chain.file_behind.Goals as goal

pub link-requires-clause-place : goal.link-requires-clause-place
link-requires-clause-place c =
    let ns = c.self.inside.nodes.items in
    omega (arith, c.self.inside.nodes.ok.0, node_inside HEAD ns c.args.place c.self.invariant.second (rw (← c.self.view_is) at c.requires.place))

pub link-requires-clause-number : goal.link-requires-clause-number
link-requires-clause-number c =
    let ns = c.self.inside.nodes.items in
    let inside : c.args.number < length ns = omega (arith, length-map ns (λ (m : Node). m.span), rw (← c.self.view_is) at c.requires.inside) in
    omega (arith, c.self.inside.nodes.ok.0)

pub link-requires-clause-next : goal.link-requires-clause-next
link-requires-clause-next c =
    let ns = c.self.inside.nodes.items in
    omega (arith, c.self.inside.nodes.ok.0, next_node HEAD ns c.args.place c.self.invariant.second (rw (← c.self.view_is) at c.requires.place))

pub set_span-requires : goal.set_span-requires
set_span-requires c =
    let ns = c.self.inside.nodes.items in
    let inside : c.args.number < length ns = omega (arith, length-map ns (λ (m : Node). m.span), rw (← c.self.view_is) at c.requires.inside) in
    record { inside = omega (arith, c.link.ensures.len, c.self.inside.nodes.ok.0) }

pub invariant_of-self : goal.invariant_of-self
invariant_of-self c =
    let ns = c.self.inside.nodes.items in let p = c.args.place in let n = c.args.number in
    let among : contains p (HEAD ∷ order HEAD (nexts ns)) ≡ true = rw (← c.self.view_is) at c.requires.place in
    let new : contains n (HEAD ∷ order HEAD (nexts ns)) ≡ false = rw (← c.self.view_is) at c.requires.number in
    let inside : n < length ns = omega (arith, length-map ns (λ (m : Node). m.span), rw (← c.self.view_is) at c.requires.inside) in
    let then = second_put (nexts ns) (previouses ns) p n c.self.invariant among new c.requires.high (omega (arith, length-map ns (λ (m : Node). m.next))) in
    let forward = c.set_span.ensures.nexts ∙ c.link.ensures.nexts in
    let back = c.set_span.ensures.previous ∙ c.link.ensures.previous in
    rw (forward, back) then.rings

pub returns-clause-order : goal.returns-clause-order
returns-clause-order c =
    let ns = c.self.inside.nodes.items in let p = c.args.place in let n = c.args.number in
    let among : contains p (HEAD ∷ order HEAD (nexts ns)) ≡ true = rw (← c.self.view_is) at c.requires.place in
    let new : contains n (HEAD ∷ order HEAD (nexts ns)) ≡ false = rw (← c.self.view_is) at c.requires.number in
    let inside : n < length ns = omega (arith, length-map ns (λ (m : Node). m.span), rw (← c.self.view_is) at c.requires.inside) in
    let then = second_put (nexts ns) (previouses ns) p n c.self.invariant among new c.requires.high (omega (arith, length-map ns (λ (m : Node). m.next))) in
    let forward = c.set_span.ensures.nexts ∙ c.link.ensures.nexts in
    rw (← c.self.view_is) (ap (order START) forward ∙ then.first_now)

pub returns-clause-gaps : goal.returns-clause-gaps
returns-clause-gaps c =
    let ns = c.self.inside.nodes.items in let p = c.args.place in let n = c.args.number in
    let among : contains p (HEAD ∷ order HEAD (nexts ns)) ≡ true = rw (← c.self.view_is) at c.requires.place in
    let new : contains n (HEAD ∷ order HEAD (nexts ns)) ≡ false = rw (← c.self.view_is) at c.requires.number in
    let inside : n < length ns = omega (arith, length-map ns (λ (m : Node). m.span), rw (← c.self.view_is) at c.requires.inside) in
    let then = second_put (nexts ns) (previouses ns) p n c.self.invariant among new c.requires.high (omega (arith, length-map ns (λ (m : Node). m.next))) in
    let forward = c.set_span.ensures.nexts ∙ c.link.ensures.nexts in
    rw (← c.self.view_is) (ap (order HEAD) forward ∙ then.second_now)
