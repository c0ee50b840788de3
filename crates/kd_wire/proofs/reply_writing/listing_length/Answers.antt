use Rattle.std.proofs.Common.{arith, ◌∙◌, ap, ◌+◌, length}
use Rattle.kd_item.specs.Spelling.{item_length}
use Rattle.kd_wire.proofs.Lengths.{listed_so_far, listed_more}
use Rattle.kd_wire.proofs.reply_writing.listing_length.Goals as goal

pub overflow_add-total : goal.overflow_add-total
overflow_add-total c =
    let e = ap (λ t. item_length (16 + length t)) c.bytes.ensures in
    omega (arith, e, listed_so_far c.args.lines.now c.loop-line.line-index c.line-item.result c.loop-line-test.true c.line-item.is)

pub loop-line-preserved : goal.loop-line-preserved
loop-line-preserved c =
    ap (λ n. c.loop-line.total + n) (c.entry_length-total.ensures ∙ ap (λ t. item_length (16 + length t)) c.bytes.ensures)
    ∙ listed_more c.args.lines.now c.loop-line.line-index c.loop-line.total c.line-item.result c.loop-line-test.true c.line-item.is c.loop-line.invariant
