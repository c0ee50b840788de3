use Rattle.std.proofs.Common.{◌≡◌, replicate}
use Rattle.kd_world.specs.State.{closed_pool}
use Rattle.kd_core.proofs.world.closed_pools.Given as goal

abbrev pub invariant-seats : goal.invariant-seats
invariant-seats l = l.pools.items ≡ replicate l.counter closed_pool
