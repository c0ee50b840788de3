use Rattle.std.proofs.Common.{◌≡◌, ◌≤◌, length, take}
use Rattle.kd_wire.specs.Items.{spelled}
use Rattle.kd_wire.proofs.forming.length_within.Given as goal

abbrev pub invariant-items : goal.invariant-items
invariant-items l = (l.total ≡ length (spelled (take l.item-index l.items))) × (l.total ≤ 131072)
