use Rattle.std.proofs.Common.{◌≡◌}
use Rattle.kd_commands.specs.Items.{conditions_in}
use Rattle.kd_said.proofs.conditions.conditions_in.Given as goal

abbrev pub invariant-items : goal.invariant-items
invariant-items l = l.conditions.items ≡ conditions_in l.param.size l.yielded
