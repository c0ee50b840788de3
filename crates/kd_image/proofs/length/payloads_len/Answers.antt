use Rattle.std.proofs.Common.{arith}
use Rattle.kd_image.proofs.Lengths.{laid_more}
use Rattle.kd_image.proofs.length.payloads_len.Goals as goal

pub payloads-preserved : goal.payloads-preserved
payloads-preserved c =
    let more = laid_more c.args.payloads.now c.payloads.payload-index c.payload-item.result c.bytes.result.now c.payloads-test.true c.payload-item.is c.bytes.ensures in
    omega (arith, more, c.payloads.invariant, c.padded_len.ensures, c.min-total.ensures)
