-- One after the other leaves.
use Rattle.std.proofs.Common.{[], ◌∷◌, sym, ap, ◌∙◌}
use Rattle.kd_commands.specs.Leaving.{without_conns}
use Rattle.kd_tables.proofs.Gone.{without_none, without_one_more}
use Rattle.kd_tables.proofs.desk.Desk.leave_all.Goals as goal

pub leavers-init : goal.leavers-init
leavers-init c = sym (without_none c.args.self.now)

pub leavers-preserved : goal.leavers-preserved
leavers-preserved c =
    c.leave.ensures
    ∙ ap (λ y. without_conns y (c.id-item.result ∷ [])) c.leavers.invariant
    ∙ without_one_more c.args.self.now c.args.leavers.now c.leavers.id-index c.id-item.result c.leavers-test.true c.id-item.is
