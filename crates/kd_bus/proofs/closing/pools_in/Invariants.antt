use Rattle.std.proofs.Common.{◌≤◌, ◌+◌, length}
use Rattle.std.specs.Prelude.{vec_capacity}
use Rattle.kd_bus.proofs.Closings.{Emptying}
use Rattle.kd_bus.proofs.closing.pools_in.Given as goal

abbrev pub invariant-pools : goal.invariant-pools
invariant-pools l =
    Emptying l.fn.values.items l.value-iterator.rest.items l.pools.items
    × (length l.pools.items + length l.value-iterator.rest.items ≤ vec_capacity l.pools)
