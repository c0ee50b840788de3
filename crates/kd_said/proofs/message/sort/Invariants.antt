use Rattle.std.proofs.Common.{◌≡◌}
use Rattle.kd_commands.specs.Items.{destination_name, payloads}
use Rattle.kd_said.proofs.message.sort.Given as goal

abbrev pub invariant-items : goal.invariant-items
invariant-items l = (destination_name l.yielded ≡ l.destination) × (payloads l.yielded ≡ l.pieces.items)
