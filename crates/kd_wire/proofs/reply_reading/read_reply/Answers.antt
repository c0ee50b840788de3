use Rattle.std.proofs.Common.{arith, sym, ap, ◌∙◌}
use Rattle.kd_wire.specs.Frames.{command_word}
use Rattle.kd_wire.specs.Replies.{reply_frame}
use Rattle.kd_wire.proofs.ReplyLaws.{reply_whole, reply_read}
use Rattle.kd_wire.proofs.reply_reading.read_reply.Goals as goal

pub returns-clause-spelled : goal.returns-clause-spelled
returns-clause-spelled c =
    let whole = reply_whole c.args.bytes.now c.in_ok-read_behind_head.field-0 c.in_default.ensures c.in_ok-read_behind_head.ensures.ok in
    let read = reply_read c.args.bytes.now c.in_ok-read_behind_head.field-0 (λ i. omega (arith, c.type_inv.bytes i)) whole in
    read.spelled ∙ ap (λ n. reply_frame (command_word c.args.bytes.now) n c.in_ok-read_behind_head.field-0) (sym c.head.ensures.caller)

pub returns-clause-answers : goal.returns-clause-answers
returns-clause-answers c =
    let whole = reply_whole c.args.bytes.now c.in_ok-read_behind_head.field-0 c.in_default.ensures c.in_ok-read_behind_head.ensures.ok in
    let read = reply_read c.args.bytes.now c.in_ok-read_behind_head.field-0 (λ i. omega (arith, c.type_inv.bytes i)) whole in
    read.answers

pub returns-clause-size : goal.returns-clause-size
returns-clause-size c =
    let whole = reply_whole c.args.bytes.now c.in_ok-read_behind_head.field-0 c.in_default.ensures c.in_ok-read_behind_head.ensures.ok in
    let read = reply_read c.args.bytes.now c.in_ok-read_behind_head.field-0 (λ i. omega (arith, c.type_inv.bytes i)) whole in
    read.size
