use Rattle.std.proofs.Common.{◌≡◌, ◌<◌, ap, subst, ◌∙◌, [], ◌++◌, length, ℕ}
use Rattle.std.specs.List.{AllByRecursion}
use Rattle.kd_model.proofs.Lists.{all_of_found}
use Rattle.kd_registry.specs.Claims.{owner_id}
use Rattle.kd_commands.specs.State.{Desk, has_id}
use Rattle.kd_commands.specs.Names.{activator_in, handover, name_acquire}
use Rattle.kd_tables.specs.Drafts.{parts_with}
use Rattle.kd_desk.specs.Owners.{moved, owner_by}
use Rattle.kd_tables.specs.Room.{IsSeated}
use Rattle.kd_commands.specs.Plans.{notices}
use Rattle.kd_desk.proofs.Refused.{refused_with}
use Rattle.kd_desk.proofs.NamePlans.{acquire_fits, acquire_parts, acquire_planned, acquire_refused}
use Rattle.kd_desk.proofs.naming.plan_acquire.Goals as goal

pub returns-in_err-verdict : goal.returns-in_err-verdict
returns-in_err-verdict c = refused_with c.args.desk.now (name_acquire c.args.desk.now c.args.conn.now c.args.flags c.args.name) c.from_residual.result c.in_err-verdict.field-0.0 c.from_residual.ensures.1 (acquire_refused c.args.desk.now c.args.conn.now c.args.flags c.args.name c.in_err-verdict.field-0.0 c.in_err-verdict.ensures)

pub handed_over-requires-clause-seat : goal.handed_over-requires-clause-seat
handed_over-requires-clause-seat c =
    let d : Desk = c.args.desk.now in
    let seats : AllByRecursion IsSeated d.conns = subst (λ (y : Desk). AllByRecursion IsSeated y.conns) c.desk.view_is c.desk.invariant.seats in
    all_of_found IsSeated (has_id c.args.conn.now.id) d.conns c.args.conn.now seats c.requires.live

pub returns : goal.returns
returns c =
    let d = c.args.desk.now in
    let n = c.args.name in
    let v = c.in_ok-verdict.verdict in
    let told : parts_with [] c.in_ok-posts.posts.items ≡ notices d (moved (owner_id d.registry n) (owner_by v c.args.conn.now.id (owner_id d.registry n)) n) = c.in_ok-posts.ensures.posts ∙ ap (λ (new : ℕ). notices c.args.desk.now (moved c.owner_id-old.result new c.args.name)) c.owner_by-new.ensures ∙ ap (λ (old : ℕ). notices c.args.desk.now (moved old (owner_by c.in_ok-verdict.verdict c.args.conn.now.id old) c.args.name)) c.owner_id-old.ensures in
    let whole : parts_with [] c.in_ok-parts.parts.items ≡ acquire_parts d c.args.conn.now n v = c.in_ok-parts.ensures.parts ∙ ap (handover d c.args.conn.now (activator_in v) ++◌) told in
    let room : length d.registry < 4160 = subst (λ (e : Desk). length e.registry < 4160) c.desk.view_is (c.has_room.ensures.0 c.if-not-has_room.false) in (
      rw (c.new.ensures.items, c.is_queued.ensures) (acquire_planned d c.args.conn.now c.args.flags n v c.in_ok-parts.parts.items c.in_ok-verdict.ensures whole),
      acquire_fits d c.args.conn.now c.args.flags n v c.in_ok-verdict.ensures room,
      c.in_ok-parts.ensures.visitable,
      rw c.new.ensures.items c.in_ok-parts.ensures.contents,
    )
