-- The parts are those of the plan that is asked for.
use Rattle.std.proofs.Common.{◌≡◌, ℕ, List, [], ◌++◌, map, Ok, ap, refl, subst, ◌∙◌}
use Rattle.std.specs.Prelude.{max}
use Rattle.std.specs.List.{AllByRecursion}
use Rattle.kd_replies.specs.Requests.{due}
use Rattle.kd_commands.specs.State.{Desk}
use Rattle.kd_commands.specs.Audience.{Subject}
use Rattle.kd_commands.specs.Plans.{Part, notices}
use Rattle.kd_tables.specs.Drafts.{Fits, parts_with}
use Rattle.kd_tables.specs.Room.{IsSeated}
use Rattle.kd_desk.proofs.Dues.{late, tick_planned}
use Rattle.kd_tables.proofs.Visits.{contentless_notices, visitable_notices}
use Rattle.kd_desk.proofs.ticking.plan_tick.Goals as goal

pub returns : goal.returns
unfolding Fits
returns c =
    let d : Desk = c.args.desk.now in
    let now : ℕ = c.later-now.result in
    let ss : List Subject = map late (due now d.requests) in
    let seats : AllByRecursion IsSeated d.conns = subst (λ (y : Desk). AllByRecursion IsSeated y.conns) c.desk.view_is c.desk.invariant.seats in
    let first : parts_with [] c.new-parts.result.items ≡ [] = rw c.new-parts.ensures.items refl in
    let told : parts_with [] c.tell_due.new.parts.items ≡ notices d ss = c.in_ok-tell_due.ensures {u = tt} ∙ ap (λ (ps : List Part). ps ++ notices d ss) first in
    let is : now ≡ max d.moment c.args.moment = c.later-now.ensures ∙ ap (λ (y : Desk). max y.moment c.args.moment) c.desk.view_is in (
      rw (c.new.ensures.items, c.itself.ensures) (ap Ok (tick_planned d c.args.conn.now c.args.moment now c.tell_due.new.parts.items is told)),
      tt,
      visitable_notices d ss c.tell_due.new.parts.items seats told,
      rw c.new.ensures.items (contentless_notices d ss c.tell_due.new.parts.items seats told),
    )
