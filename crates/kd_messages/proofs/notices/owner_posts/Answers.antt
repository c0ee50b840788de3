use Rattle.std.proofs.Common.{subst}
use Rattle.std.specs.List.{AllByRecursion}
use Rattle.kd_commands.specs.State.{Desk}
use Rattle.kd_tables.specs.Room.{IsSeated}
use Rattle.kd_commands.specs.Audience.{new_owner}
use Rattle.kd_tables.proofs.Visits.{contentless_posts, visitable_posts}
use Rattle.kd_messages.proofs.notices.owner_posts.Goals as goal

pub returns-clause-visitable : goal.returns-clause-visitable
returns-clause-visitable c =
    let seats = subst (λ (d : Desk). AllByRecursion IsSeated d.conns) c.desk.view_is c.desk.invariant.seats in
    visitable_posts c.args.desk.now (new_owner c.args.change.now) c.in_ok-parts.parts.items seats c.in_ok-parts.ensures

pub returns-clause-contents : goal.returns-clause-contents
returns-clause-contents c =
    let seats = subst (λ (d : Desk). AllByRecursion IsSeated d.conns) c.desk.view_is c.desk.invariant.seats in
    contentless_posts c.args.desk.now (new_owner c.args.change.now) c.in_ok-parts.parts.items seats c.in_ok-parts.ensures
