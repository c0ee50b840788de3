use Rattle.std.proofs.Common.{◌≡◌, ◌+◌, ◌≤◌, ◌++◌, length, take}
use Rattle.std.specs.Prelude.{vec_len, vec_capacity}
use Rattle.kd_wire.specs.Items.{spelled}
use Rattle.kd_wire.proofs.writing.put_items.Given as goal

abbrev pub invariant-loop-item : goal.invariant-loop-item
invariant-loop-item l = (l.out.items ≡ l.initial.out.items ++ spelled (take l.item-index l.items)) × (vec_len l.out ≡ vec_len l.initial.out + length (spelled (take l.item-index l.items))) × (vec_capacity l.initial.out ≤ vec_capacity l.out)
