use Rattle.std.proofs.Common.{◌≡◌, Option, Some, sym, ap, ◌∙◌}
use Rattle.std.specs.Prelude.{option_map}
use Rattle.std.specs.Borrow.{Bor}
use Rattle.kd_commands.specs.declared.conn.Conn.{Conn}
use Rattle.kd_commands.specs.Send.{receiver}
use Rattle.kd_messages.proofs.Planned.{judged_on}
use Rattle.kd_messages.proofs.Routed.{request_refuses, talk_refuses}
use Rattle.kd_messages.proofs.routing.route.Goals as goal

pub returns-in_err-judge_target-clause-judged : goal.returns-in_err-judge_target-clause-judged
returns-in_err-judge_target-clause-judged c =
    judged_on c.args.desk.now c.args.sender.now c.args.sent.now c.in_err-judge_target.field-0.0 c.from_residual.result c.from_residual.ensures c.in_err-judge_target.ensures

pub returns-in_err-judge_talk-clause-judged : goal.returns-in_err-judge_talk-clause-judged
returns-in_err-judge_talk-clause-judged c =
    let d = c.args.desk.now in
    let m = c.args.sent.now in
    let x : Conn = c.in-Some.receiver.now in
    let reached : receiver d m ≡ Some x = sym c.requires.found ∙ ap (λ (o : Option (Bor Conn)). option_map (λ (y : Bor Conn). y.now) o) c.in-Some.is in
    talk_refuses d c.args.sender.now m x c.args.expected c.in_err-judge_talk.field-0.0 c.from_residual-in_err-judge_talk.result reached c.requires.expected c.in_ok-judge_target.ensures
    c.from_residual-in_err-judge_talk.ensures c.in_err-judge_talk.ensures

pub returns-in_err-judge_request-clause-judged : goal.returns-in_err-judge_request-clause-judged
returns-in_err-judge_request-clause-judged c =
    let d = c.args.desk.now in
    let m = c.args.sent.now in
    let x : Conn = c.in-Some.receiver.now in
    let reached : receiver d m ≡ Some x = sym c.requires.found ∙ ap (λ (o : Option (Bor Conn)). option_map (λ (y : Bor Conn). y.now) o) c.in-Some.is in
    request_refuses d c.args.sender.now m x c.args.expected c.in_err-judge_request.field-0.0 c.from_residual-in_err-judge_request.result reached c.requires.expected c.in_ok-judge_target.ensures
    c.in_ok-judge_talk.ensures c.from_residual-in_err-judge_request.ensures c.in_err-judge_request.ensures.judged
