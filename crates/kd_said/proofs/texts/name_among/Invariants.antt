use Rattle.std.proofs.Common.{◌≡◌, None, take}
use Rattle.kd_said.specs.Said.{name_among}
use Rattle.kd_said.proofs.texts.name_among.Given as goal

abbrev pub invariant-items : goal.invariant-items
invariant-items l = name_among (take l.item-index l.items) ≡ None
