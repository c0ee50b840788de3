use Rattle.std.proofs.Common.{◌≡◌, ◌≤◌}
use Rattle.std.specs.Prelude.{vec_capacity}
use Rattle.kd_bus.specs.Values.{opening_values}
use Rattle.kd_bus.proofs.bus.values.Given as goal

abbrev pub invariant-seats : goal.invariant-seats
invariant-seats l = (l.values.items ≡ opening_values l.seat) × (65 ≤ vec_capacity l.values)
