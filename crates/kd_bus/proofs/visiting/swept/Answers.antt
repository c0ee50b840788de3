use Rattle.std.proofs.Common.{[], ◌∷◌, subst, sym}
use Rattle.kd_bus.specs.Visited.{HasSwept}
use Rattle.kd_bus.proofs.Holding.{did_sweep, no_sweep}
use Rattle.kd_bus.proofs.visiting.swept.Goals as goal

pub returns-then-not-sweeps-clause-swept : goal.returns-then-not-sweeps-clause-swept
returns-then-not-sweeps-clause-swept c =
    subst (λ b. HasSwept c.args.lock b (0 ∷ 0 ∷ 0 ∷ 0 ∷ []) c.args.pass.now.view c.args.pass.now.view) (sym c.if-not-sweeps.true) (no_sweep c.args.lock c.args.pass.now.view c.requires.bare)

pub returns-clause-swept : goal.returns-clause-swept
returns-clause-swept c =
    subst (λ b. HasSwept c.args.lock b c.sweep.result c.args.pass.now.view c.sweep.new.self.view) (sym c.if-not-sweeps.false)
    (did_sweep c.args.lock c.sweep.result c.args.pass.now.view c.sweep.new.self.view c.requires.bare c.sweep.ensures.swept)
