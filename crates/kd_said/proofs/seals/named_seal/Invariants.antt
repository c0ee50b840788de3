use Rattle.std.proofs.Common.{◌≡◌, None, length, take}
use Rattle.kd_commands.specs.Items.{payloads, sealed_among}
use Rattle.kd_said.proofs.seals.named_seal.Given as goal

abbrev pub invariant-items : goal.invariant-items
invariant-items l = (sealed_among (take l.item-index l.items) ≡ None) × (l.place ≡ length (payloads (take l.item-index l.items)))
