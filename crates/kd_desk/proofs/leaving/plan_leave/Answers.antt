-- The parts are those of the plan that is asked for.
use Rattle.std.proofs.Common.{◌≡◌, ◌∙◌, ap, subst, refl, List, [], ◌∷◌, ◌++◌}
use Rattle.std.specs.Prelude.{Ok}
use Rattle.std.specs.List.{AllByRecursion}
use Rattle.kd_commands.specs.declared.conn.Conn.{Conn}
use Rattle.kd_commands.specs.State.{Desk}
use Rattle.kd_tables.specs.Drafts.{Fits, parts_with}
use Rattle.kd_commands.specs.Leaving.{closing, leaving_notices, without_conns}
use Rattle.kd_commands.specs.Plans.{notices, Part}
use Rattle.kd_tables.specs.Room.{IsSeated}
use Rattle.kd_desk.proofs.Leaves.{left_contents, left_plan, left_visits}
use Rattle.kd_desk.proofs.leaving.plan_leave.Goals as goal

pub returns : goal.returns
unfolding Fits
returns c =
    let d : Desk = c.args.desk.now in
    let x : Conn = c.args.conn.now in
    let told : List Part = notices (without_conns d (x.id ∷ [])) (leaving_notices d (x ∷ [])) in
    let seats : AllByRecursion IsSeated d.conns = subst (λ (y : Desk). AllByRecursion IsSeated y.conns) c.desk.view_is c.desk.invariant.seats in
    let first : parts_with [] c.push.new.self.items ≡ closing c.args.force x ∷ [] = rw (c.in_ok-push.ensures.items, c.in_ok-parts.ensures.items) refl in
    let parts : parts_with [] c.tell_leave.new.parts.items ≡ closing c.args.force x ∷ told = c.in_ok-tell_leave.ensures {u = tt} ∙ ap (λ (ps : List Part). ps ++ told) first in
    (ap Ok (left_plan d c.args.reply c.args.force x c.tell_leave.new.parts.items c.new.result.items c.new.ensures.items parts), tt, left_visits d c.args.force x c.tell_leave.new.parts.items seats c.requires.live parts, left_contents d c.args.force x c.tell_leave.new.parts.items c.new.result.items c.new.ensures.items seats c.requires.live parts)
