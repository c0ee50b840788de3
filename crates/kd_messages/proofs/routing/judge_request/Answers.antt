use Rattle.std.proofs.Common.{◌≡◌, false, length, Ok, sym, ap, ◌∙◌}
use Rattle.std.specs.Prelude.{nat_le}
use Rattle.kd_replies.specs.Requests.{expect_answer}
use Rattle.kd_commands.specs.State.{Desk}
use Rattle.kd_messages.proofs.Routed.{has_room}
use Rattle.kd_messages.proofs.routing.judge_request.Goals as goal

pub returns-clause-room : goal.returns-clause-room
returns-clause-room c = λ asks.
    let d : Desk = c.args.desk.now in
    let s = c.args.sender.now in
    let m = c.args.sent.now in
    let may : Ok tt ≡ expect_answer s.id m.cookie d.requests = c.in_ok-may_expect.ensures.answer ∙ ap (λ (y : Desk). expect_answer s.id m.cookie y.requests) c.desk.view_is in
    let few : nat_le 8192 (length d.requests) ≡ false = sym (ap (λ (y : Desk). nat_le 8192 (length y.requests)) c.desk.view_is) ∙ sym c.is_full.ensures ∙ c.if-is_full.false in
    (sym may, has_room (length d.requests) few)
