use Rattle.std.proofs.Common.{◌≡◌, None, take}
use Rattle.kd_commands.specs.Items.{destination_name}
use Rattle.kd_said.proofs.texts.destination.Given as goal

abbrev pub invariant-items : goal.invariant-items
invariant-items l = destination_name (take l.item-index l.items) ≡ None
