-- The bytes over the slot's range are what it carries.
use Rattle.std.proofs.Common.{FitsSigned, ap, rules, w64, ◌∙◌}
use Rattle.std.proofs.lemmas.Int.{to_z-of_z}
use Rattle.kd_acts.specs.Steps.{fill_step}
use Rattle.kd_pool.proofs.pool.Pool.settle_one.Goals as goal

pub returns-clause-state : goal.returns-clause-state
returns-clause-state c =
    let fits : FitsSigned w64 c.args.row.now.priority = search rules in
    let filled = simp (to_z-of_z w64 c.args.row.now.priority fits) at c.fill.ensures.state in
    filled ∙ ap (λ xs. (fill_step (record { image = xs; shared = c.args.share; priority = c.args.row.now.priority }) c.args.row.now.user c.args.row.now.source c.args.self.now).0) c.range-image.ensures
