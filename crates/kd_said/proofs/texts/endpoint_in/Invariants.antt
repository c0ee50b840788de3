use Rattle.std.proofs.Common.{◌≡◌, None, take}
use Rattle.kd_commands.specs.Items.{endpoint_in}
use Rattle.kd_said.proofs.texts.endpoint_in.Given as goal

abbrev pub invariant-items : goal.invariant-items
invariant-items l = endpoint_in (take l.item-index l.items) ≡ None
