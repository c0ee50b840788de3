use Rattle.std.proofs.Common.{◌≡◌, ◌∷◌, ℕ, List, Option, map, true, false, Some, ap, sym, ◌∙◌}
use Rattle.kd_image.specs.declared.message.Message.{Message}
use Rattle.kd_commands.specs.declared.conn.Conn.{Conn}
use Rattle.kd_commands.specs.State.{monitors}
use Rattle.kd_commands.specs.Messages.{message_of}
use Rattle.kd_commands.specs.Send.{receiver, send}
use Rattle.kd_messages.specs.Sending.{change_of, letter_offer}
use Rattle.kd_messages.proofs.Planned.{bytes_refuse, form_refuses, refused, refuses_on, planned}
use Rattle.kd_messages.proofs.sending.plan_unicast.Goals as goal

pub returns-in_err-judge_form : goal.returns-in_err-judge_form
returns-in_err-judge_form c =
    let d = c.args.desk.now in
    let s = c.args.sender.now in
    let m = c.args.sent in
    let e = c.in_err-judge_form.field-0.0 in
    refuses_on d (send d s m) e c.from_residual.result c.from_residual.ensures (λ memory. form_refuses d s m e (c.in_err-judge_form.ensures memory))

pub returns-in_err-parcel : goal.returns-in_err-parcel
returns-in_err-parcel c =
    let d = c.args.desk.now in
    let s = c.args.sender.now in
    let m = c.args.sent in
    let e = c.in_err-parcel.field-0.0 in
    refuses_on d (send d s m) e c.from_residual-in_err-parcel.result c.from_residual-in_err-parcel.ensures
    (λ memory. bytes_refuse d s m e c.in_ok-judge_form.ensures (c.in_err-parcel.ensures.judged memory))

pub returns-in_err-route : goal.returns-in_err-route
returns-in_err-route c =
    let d = c.args.desk.now in
    let s = c.args.sender.now in
    let m = c.args.sent in
    let e = c.in_err-route.field-0.0 in
    refuses_on d (send d s m) e c.from_residual-in_err-route.result c.from_residual-in_err-route.ensures
    (λ memory. refused d s m e c.in_ok-judge_form.ensures c.in_ok-parcel.ensures.judged c.requires (c.in_err-route.ensures.judged memory))

pub returns : goal.returns
returns c =
    let d = c.args.desk.now in
    let s = c.args.sender.now in
    let m = c.args.sent in
    let r = c.in_ok-route.field-0.now in
    let reached : receiver d m ≡ Some r = c.in_ok-route.ensures.reached in
    planned d s m r c.is_reply-is_reply.result c.into_plan.result c.in_ok-route.ensures.room c.requires c.in_ok-judge_form.ensures c.in_ok-parcel.ensures.judged
    c.in_ok-route.ensures.judged
    reached
    (sym c.is_reply-is_reply.ensures)
    (
    c.into_plan.ensures.parts
    ∙ c.in_ok-offers.ensures.ok
    ∙ ap (λ (g : Message). letter_offer d s g c.in_ok-parcel.parcel.share r.id true r ∷ map (letter_offer d s g c.in_ok-parcel.parcel.share r.id false) (monitors d)) c.in_ok-parcel.ensures.message
    ∙ ap (λ (x : Option (List ℕ)). letter_offer d s (message_of m) x r.id true r ∷ map (letter_offer d s (message_of m) x r.id false) (monitors d)) c.in_ok-parcel.ensures.share
    )
    c.into_plan.ensures.visitable
    c.into_plan.ensures.contents
    c.into_plan.ensures.reply
    (c.into_plan.ensures.change ∙ c.change_of-change.ensures ∙ ap (λ (o : Option Conn). change_of d s m o c.is_reply-is_reply.result) (c.receiver-found.ensures.conn ∙ reached))
    c.into_plan.ensures.after
