use Rattle.std.proofs.Common.{refl}
use Rattle.kd_trace.proofs.Alike.{one_more_alike}
use Rattle.kd_trace.proofs.comparing.same_lines.Goals as goal

pub lines-preserved : goal.lines-preserved
lines-preserved c =
    let i = c.lines.invariant in
    one_more_alike c.args.one.now c.args.other.now c.lines.rest.now c.in-Some.more.now c.lines.line-index c.line-item.result c.in-Some.first.now c.lines-test.true c.line-item.is i.0 i.1 c.in-Some.ensures.cases.0 i.2 (c.if-not-same_line.ensures.0 refl)
