use Rattle.std.proofs.Common.{◌≡◌, length, take}
use Rattle.kd_wire.specs.Items.{spelled}
use Rattle.kd_wire.proofs.writing.items_length.Given as goal

abbrev pub invariant-loop-item : goal.invariant-loop-item
invariant-loop-item l = l.total ≡ length (spelled (take l.item-index l.items))
