use Rattle.std.proofs.Common.{◌≡◌, ap, ◌∙◌, [], ℕ}
use Rattle.kd_registry.specs.Claims.{owner_id}
use Rattle.kd_commands.specs.Names.{name_release}
use Rattle.kd_tables.specs.Drafts.{parts_with}
use Rattle.kd_desk.specs.Owners.{moved}
use Rattle.kd_commands.specs.Plans.{notices}
use Rattle.kd_desk.proofs.Refused.{refused_with}
use Rattle.kd_desk.proofs.NamePlans.{release_fits, release_planned, release_refused}
use Rattle.kd_desk.proofs.naming.plan_release.Goals as goal

pub returns-in_err-new : goal.returns-in_err-new
returns-in_err-new c = refused_with c.args.desk.now (name_release c.args.desk.now c.args.conn.now c.args.name) c.from_residual.result c.in_err-new.field-0.0 c.from_residual.ensures.1 (release_refused c.args.desk.now c.args.conn.now c.args.name c.in_err-new.field-0.0 c.in_err-new.ensures.judged)

pub returns : goal.returns
returns c =
    let d = c.args.desk.now in
    let told : parts_with [] c.in_ok-parts.parts.items ≡ notices d (moved (owner_id d.registry c.args.name) c.in_ok-new.new c.args.name) = c.in_ok-parts.ensures.posts ∙ ap (λ (old : ℕ). notices c.args.desk.now (moved old c.in_ok-new.new c.args.name)) c.owner_id-old.ensures in (
      rw c.new.ensures.items (release_planned d c.args.conn.now c.args.name c.in_ok-new.new c.in_ok-parts.parts.items c.in_ok-new.ensures.judged told),
      release_fits d c.args.conn.now.id c.args.name c.in_ok-new.new c.in_ok-new.ensures.answer,
      c.in_ok-parts.ensures.visitable,
      rw c.new.ensures.items c.in_ok-parts.ensures.contents,
    )
