use Rattle.std.proofs.Common.{ℕ, map, sym, ap, subst, ◌∙◌, arith}
use Rattle.kd_hands.specs.Locks.{Fact}
use Rattle.kd_turn.specs.Told.{Ended}
use Rattle.kd_turn.proofs.Made.{full, ended}
use Rattle.kd_turn.proofs.gate.Gate.close.Goals as goal

pub gathered-seat-requires : goal.gathered-seat-requires
gathered-seat-requires g c =
    let same = ap (λ q. q.id) c.self.view_is in
    let most = ap (λ q. q.passes) c.self.view_is in
    let one = c.requires.all 0 (let a = c.self.invariant.3 in omega arith) in
    record { table = omega arith; passes = λ k d lt. (c.requires.gate k d lt ∙ sym same, c.requires.idle k d lt); some = let near = one.2 in omega arith }

pub emptied-requires-clause-values : goal.emptied-requires-clause-values
emptied-requires-clause-values g c = λ l y e.
    let most = ap (λ q. q.passes) c.self.view_is in
    let f = full _ _ _ _ c.args.passes.items _ _ _ c.gathered-seat.ensures.gathered
    (λ j lt. c.requires.all j (omega arith)) c.close_with-closed.ensures.values.2 l y e in
    (f.0, f.1)

pub returns-clause-ended : goal.returns-clause-ended
returns-clause-ended g c =
    let S = g.T.Standing in
    let most = ap (λ q. q.passes) c.self.view_is in
    subst (λ (k : ℕ). Ended S.stands (Fact S.tie S.lends S.out S.keeper) k (map (λ p. p.view) c.args.passes.items) c.emptied.result.items) most
    (ended _ _ _ _ c.args.passes.items _ _ _ c.gathered-seat.ensures.gathered
    (λ j lt. c.requires.all j (omega arith)) c.close_with-closed.ensures.values.2 c.emptied.result.items c.emptied.ensures.values)
