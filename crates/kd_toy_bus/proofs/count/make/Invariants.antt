use Rattle.std.proofs.Common.{◌≡◌, ◌≤◌, length, vec_capacity}
use Rattle.std.specs.Prelude.{All}
use Rattle.kd_toy_bus.proofs.count.make.Given as goal

abbrev pub invariant-filling : goal.invariant-filling
invariant-filling l = record {
  count : length l.values.items ≡ l.lock;
  room : l.locks ≤ vec_capacity l.values;
  zero : All (λ c. c.turns ≡ 0) l.values.items;
}
