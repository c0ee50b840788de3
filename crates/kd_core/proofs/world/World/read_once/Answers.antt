use Rattle.std.proofs.Common.{◌<◌, ◌^◌, ◌+◌, ◌∙◌, sym, subst, ap}
use Rattle.kd_world.specs.Legal.{reads}
use Rattle.kd_core.specs.Running.{Running, stepped}
use Rattle.kd_core.proofs.Delivered.{reading_changes_nothing}
use Rattle.kd_core.proofs.Seen.{inner}
use Rattle.kd_core.proofs.Wholes.{whole_later, with_steps}
use Rattle.kd_core.proofs.world.World.read_once.Goals as goal

pub invariant_of-self : goal.invariant_of-self
invariant_of-self c = whole_later c.self.inside c.self.invariant (subst (λ (r : Running). r.steps < 2 ^ 54) (sym c.self.view_is) c.requires.steps)

pub returns-clause-ok : goal.returns-clause-ok
unfolding stepped
returns-clause-ok c =
    ap (with_steps (c.self.inside.steps + 1)) (sym (reading_changes_nothing (inner c.self.inside) c.args.caller c.args.number c.args.sealed))
    ∙ ap (λ (r : Running). stepped r (reads c.args.caller c.args.number c.args.sealed)) c.self.view_is
