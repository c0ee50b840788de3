use Rattle.std.proofs.Common.{length}
use Rattle.kd_wire.proofs.ItemsRead.{Stands}
use Rattle.kd_wire.proofs.reading_items.read_items.Given as goal

abbrev pub invariant-items : goal.invariant-items
invariant-items l = Stands l.kinds l.start l.bytes l.items.items l.rest l.at

abbrev pub decreases-items : goal.decreases-items
decreases-items l = length l.rest
