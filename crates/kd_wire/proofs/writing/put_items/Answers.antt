use Rattle.std.proofs.Common.{arith}
use Rattle.kd_wire.proofs.Lengths.{spelled_so_far}
use Rattle.kd_wire.proofs.writing.put_items.Goals as goal

pub put_item-requires : goal.put_item-requires
put_item-requires c = omega (arith, spelled_so_far c.args.items.now c.loop-item.item-index _ c.loop-item-test.true c.item-item.is)
