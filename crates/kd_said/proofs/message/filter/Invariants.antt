use Rattle.std.proofs.Common.{◌≡◌, None, take}
use Rattle.kd_commands.specs.Items.{filter_among}
use Rattle.kd_said.proofs.message.filter.Given as goal

abbrev pub invariant-items : goal.invariant-items
invariant-items l = filter_among (take l.item-index l.items) ≡ None
