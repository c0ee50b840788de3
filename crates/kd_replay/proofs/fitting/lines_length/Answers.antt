use Rattle.std.proofs.Common.{length, ap, arith}
use Rattle.kd_replay.proofs.Lines.{one_line}
use Rattle.kd_replay.proofs.fitting.lines_length.Goals as goal

pub lines-preserved : goal.lines-preserved
lines-preserved c =
    let e = c.saturating_add-total.ensures in
    one_line c.args.lines.now c.lines.line-index c.lines.total c.saturating_add-total.result (length c.bytes.result.now) c.line-item.result c.lines-test.true c.line-item.is (ap length c.bytes.ensures) c.lines.invariant (omega (arith, e))
