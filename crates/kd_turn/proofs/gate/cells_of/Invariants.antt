use Rattle.std.proofs.Common.{◌≡◌, map}
use Rattle.kd_turn.specs.Rule.{cell_of}
use Rattle.kd_turn.proofs.gate.cells_of.Given as goal

abbrev pub invariant-filling : goal.invariant-filling
invariant-filling g l = l.cells.items ≡ map cell_of l.yielded
