use Rattle.std.proofs.Common.{arith}
use Rattle.kd_image.proofs.Lengths.{names_more}
use Rattle.kd_image.proofs.length.names_len.Goals as goal

pub names-preserved : goal.names-preserved
names-preserved c =
    let more = names_more c.args.names.now c.names.name-index c.name-item.result c.bytes.result.now c.names-test.true c.name-item.is c.bytes.ensures in
    omega (arith, more, c.names.invariant, c.item_len.ensures, c.min-total.ensures)
