use Rattle.std.proofs.Common.{◌≡◌, ◌<◌, None, length, ap, sym, subst, ◌∙◌}
use Rattle.kd_wire.specs.declared.reply.Reply.TheVariants as reply
use Rattle.kd_policy.specs.Policy.{place_of, put_refusal}
use Rattle.kd_commands.specs.State.{Desk}
use Rattle.kd_commands.specs.Items.{entries_in}
use Rattle.kd_commands.specs.Policy.{policy_set}
use Rattle.kd_tables.specs.declared.change.Change.TheVariants as change
use Rattle.kd_tables.specs.Drafts.{Fits, applied}
use Rattle.kd_desk.proofs.Entries.{has_room_for, set_planned, set_refused}
use Rattle.kd_desk.proofs.Quiet.{quietly_planned}
use Rattle.kd_desk.proofs.Refused.{refused_with}
use Rattle.kd_desk.proofs.granting.plan_policy_set.Goals as goal

pub returns-in_err-may_put : goal.returns-in_err-may_put
returns-in_err-may_put c =
    let d : Desk = c.args.desk.now in
    let why = c.in_err-may_put.field-0.0 in
    refused_with d (policy_set d c.args.after c.args.owner.now c.args.items.now) c.from_residual-in_err-may_put.result why c.from_residual-in_err-may_put.ensures.1
    (set_refused d c.args.after c.args.owner.now c.args.items.now c.deref.result.now why (c.deref.ensures.value ∙ c.in_ok-entries.ensures) c.in_err-may_put.ensures)

pub returns : goal.returns
unfolding Fits applied
returns c =
    let d : Desk = c.args.desk.now in
    let o = c.args.owner.now in
    let es = c.in_ok-entries.entries in
    let asked : es.items ≡ entries_in c.args.items.now = c.in_ok-entries.ensures in
    let fine : put_refusal o es.items ≡ None = ap (put_refusal o) (sym c.deref.ensures.value) ∙ c.in_ok-may_put.ensures in
    rw c.quiet.ensures
    (quietly_planned d c.args.after reply.PolicySet (change.SetsPolicy o es) (policy_set d c.args.after o c.args.items.now)
    (fine, subst (λ (y : Desk). place_of y.policy o ≡ None → length y.policy < 72) c.desk.view_is (has_room_for c.desk.inside.policy o c.has_room.result c.has_room.ensures c.if-not-has_room.false))
    (set_planned d c.args.after o c.args.items.now es.items asked fine))
