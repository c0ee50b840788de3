use Rattle.std.proofs.Common.{ap, ◌∙◌}
use Rattle.kd_turn.proofs.Tells.{holds_front, passed_is, seated_passed}
use Rattle.kd_turn.proofs.pass.Pass.put.Goals as goal

pub pass_on-requires-clause-held : goal.pass_on-requires-clause-held
pass_on-requires-clause-held g c =
    holds_front c.self.inside.turns _ c.args.lock c.requires.held.0 c.self.inside.seat.me c.self.invariant (ap (λ q. q.held) c.self.view_is ∙ c.requires.held.1)

pub invariant_of-self : goal.invariant_of-self
invariant_of-self g c =
    rw (c.pass_on.ensures.gate, c.pass_on.ensures.passed)
    (seated_passed c.self.inside.turns _ c.args.lock c.requires.held.0 c.self.inside.seat.me c.self.invariant
    (ap (λ q. q.held) c.self.view_is ∙ c.requires.held.1) g.T.Standing.hand_after g.T.Standing.empties c.args.entry)

pub returns-clause-passed : goal.returns-clause-passed
returns-clause-passed g c =
    rw (c.pass_on.ensures.passed, ← ap (λ q. q.view) c.self.view_is)
    (passed_is c.self.inside.turns _ c.args.lock c.requires.held.0 c.self.inside.seat.me c.self.invariant
    (ap (λ q. q.held) c.self.view_is ∙ c.requires.held.1) g.T.Standing.hand_after g.T.Standing.empties c.args.entry)
