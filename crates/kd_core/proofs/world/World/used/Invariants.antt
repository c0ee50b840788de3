use Rattle.std.proofs.Common.{◌≡◌, ◌≤◌, ◌*◌, ◌^◌, sum_by, take}
use Rattle.std.specs.List.{AllByRecursion}
use Rattle.kd_world.specs.Agreed.{IsSoundHold, used_in}
use Rattle.kd_core.proofs.world.World.used.Given as goal

abbrev pub invariant-pools : goal.invariant-pools
invariant-pools l =
    (l.sum ≡ sum_by used_in (take l.pool-index l.pool-items))
    × AllByRecursion IsSoundHold (take l.pool-index l.pool-items)
    × (l.sum ≤ l.pool-index * 2 ^ 32)
