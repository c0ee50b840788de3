use Rattle.std.proofs.Common.{◌≡◌, ℕ, List, Option, Some, map, false, ap, sym, ◌∙◌}
use Rattle.kd_image.specs.Images.{any}
use Rattle.kd_image.specs.declared.message.Message.{Message}
use Rattle.kd_commands.specs.Audience.{audience, broadcast}
use Rattle.kd_commands.specs.Items.{Filter, filter_among}
use Rattle.kd_commands.specs.Messages.{message_of}
use Rattle.kd_commands.specs.Send.{send}
use Rattle.kd_messages.specs.Sending.{letter_offer}
use Rattle.kd_messages.proofs.Planned.{bytes_refuse, form_refuses, refuses_on, broadcast_planned}
use Rattle.kd_messages.proofs.sending.plan_broadcast.Goals as goal

pub returns-in_err-judge_form : goal.returns-in_err-judge_form
returns-in_err-judge_form c =
    let d = c.args.desk.now in
    let s = c.args.sender.now in
    let m = c.args.sent in
    let e = c.in_err-judge_form.field-0.0 in
    refuses_on d (send d s m) e c.from_residual.result c.from_residual.ensures (λ memory. form_refuses d s m e (c.in_err-judge_form.ensures memory))

pub returns-in_err-parcel : goal.returns-in_err-parcel
returns-in_err-parcel c =
    let d = c.args.desk.now in
    let s = c.args.sender.now in
    let m = c.args.sent in
    let e = c.in_err-parcel.field-0.0 in
    refuses_on d (send d s m) e c.from_residual-in_err-parcel.result c.from_residual-in_err-parcel.ensures
    (λ memory. bytes_refuse d s m e c.in_ok-judge_form.ensures (c.in_err-parcel.ensures.judged memory))

pub returns : goal.returns
returns c =
    let d = c.args.desk.now in
    let s = c.args.sender.now in
    let m = c.args.sent in
    let f : Filter = record { generation = c.in-Some.generation; bits = c.in-Some.bits.now } in
    let some : filter_among m.items ≡ Some f = ap filter_among (sym c.items.ensures) ∙ sym c.in-Some.ensures in
    let g = c.in_ok-parcel.parcel.message in
    let x = c.in_ok-parcel.parcel.share in
    broadcast_planned d s m f c.into_plan.result c.requires c.in_ok-judge_form.ensures c.in_ok-parcel.ensures.judged some
    (
    c.into_plan.ensures.parts
    ∙ c.in_ok-offers.ensures.ok
    ∙ ap (λ (bits : List ℕ). map (letter_offer d s g x any false) (audience d (broadcast s (record { generation = c.in-Some.generation; bits = bits })))) (c.in_ok-filter.ensures ∙ c.bytes.ensures)
    ∙ ap (λ (y : Message). map (letter_offer d s y x any false) (audience d (broadcast s f))) c.in_ok-parcel.ensures.message
    ∙ ap (λ (y : Option (List ℕ)). map (letter_offer d s (message_of m) y any false) (audience d (broadcast s f))) c.in_ok-parcel.ensures.share
    )
    c.into_plan.ensures.visitable
    c.into_plan.ensures.contents
    c.into_plan.ensures.reply
    c.into_plan.ensures.change
    c.into_plan.ensures.after
