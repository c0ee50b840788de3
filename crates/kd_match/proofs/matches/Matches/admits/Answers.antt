-- The connection's rules have masks of the size, as all have.
use Rattle.std.proofs.Common.{eqb}
use Rattle.kd_model.specs.Words.{all_of}
use Rattle.kd_match.specs.declared.rule.Rule.{Rule}
use Rattle.kd_match.specs.Rules.{mask_fits}
use Rattle.kd_match.proofs.Kept.{all_those}
use Rattle.kd_match.proofs.matches.Matches.admits.Goals as goal

pub any_admits-requires-clause-masks : goal.any_admits-requires-clause-masks
any_admits-requires-clause-masks c =
    rw (c.rules_of.ensures, c.deref.ensures.value)
    (all_those (λ (r : Rule). all_of (mask_fits c.self.inside.size) r.conditions) (λ (r : Rule). eqb r.id c.args.id) c.self.inside.rules.items c.self.invariant.0.sized)
