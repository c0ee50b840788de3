use Rattle.std.proofs.Common.{◌≡◌, ◌<◌, ℕ, List, None, Ok, length, ap, sym, subst, ◌∙◌}
use Rattle.kd_wire.specs.declared.reply.Reply.TheVariants as reply
use Rattle.kd_policy.specs.declared.entry.Entry.{Entry}
use Rattle.kd_policy.specs.declared.owner.Owner.TheVariants as owner
use Rattle.kd_policy.specs.Policy.{place_of}
use Rattle.kd_commands.specs.State.{Desk}
use Rattle.kd_commands.specs.declared.who.WhoKind.TheVariants as who
use Rattle.kd_commands.specs.Endpoints.{endpoint_make}
use Rattle.kd_tables.specs.declared.change.Change.TheVariants as change
use Rattle.kd_tables.specs.Drafts.{Fits, applied}
use Rattle.kd_desk.specs.Keeping.{endpoint_judged}
use Rattle.kd_desk.proofs.Entries.{has_room_for}
use Rattle.kd_desk.proofs.Keeping.{make_fits, make_planned, make_refused}
use Rattle.kd_desk.proofs.Quiet.{quietly_planned}
use Rattle.kd_desk.proofs.Refused.{refused_with}
use Rattle.kd_desk.proofs.endpoints.plan_endpoint_make.Goals as goal

pub returns-in_err-number : goal.returns-in_err-number
returns-in_err-number c =
    let d : Desk = c.args.desk.now in
    let why = c.in_err-number.field-0.0 in
    refused_with d (endpoint_make d c.args.creds.now c.args.items.now) c.from_residual-in_err-number.result why c.from_residual-in_err-number.ensures.1
    (make_refused d c.args.creds.now c.args.items.now c.label_in-label.result.now c.deref.result.now why c.label_in-label.ensures (c.deref.ensures.value ∙ c.in_ok-entries.ensures) c.in_err-number.ensures)

pub returns : goal.returns
unfolding Fits applied
returns c =
    let d : Desk = c.args.desk.now in
    let creds = c.args.creds.now in
    let es = c.in_ok-entries.entries in
    let n : ℕ = c.in_ok-number.number in
    let label : List ℕ = c.in_ok-of.field-0 in
    let judged : Ok n ≡ endpoint_judged d creds label es.items =
    c.in_ok-number.ensures
    ∙ ap (λ (l : List Entry). endpoint_judged d creds c.label_in-label.result.now l) c.deref.ensures.value
    ∙ ap (λ (l : List ℕ). endpoint_judged d creds l es.items) (sym c.in_ok-of.ensures.copied) in
    let fits = make_fits d creds label es.items n judged in
    rw c.quiet.ensures
    (quietly_planned d (who.Keeper n) reply.EndpointMake (change.AddsEndpoint label n es) (endpoint_make d creds c.args.items.now)
    (fits.0, (fits.1, subst (λ (y : Desk). place_of y.policy (owner.Endpoint n) ≡ None → length y.policy < 72) c.desk.view_is (has_room_for c.desk.inside.policy (owner.Endpoint n) c.has_room.result c.has_room.ensures c.if-not-has_room.false)))
    (make_planned d creds c.args.items.now label es.items n (c.in_ok-of.ensures.copied ∙ c.label_in-label.ensures) c.in_ok-entries.ensures judged))
