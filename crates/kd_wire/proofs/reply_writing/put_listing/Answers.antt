use Rattle.std.proofs.Common.{arith}
use Rattle.kd_wire.proofs.Lengths.{listed_so_far}
use Rattle.kd_wire.proofs.reply_writing.put_listing.Goals as goal

pub put_line-requires : goal.put_line-requires
put_line-requires c = omega (arith, listed_so_far c.args.lines.now c.loop-line.line-index _ c.loop-line-test.true c.line-item.is)
