use Rattle.std.proofs.Common.{◌≡◌, replicate}
use Rattle.kd_world.specs.State.{stranger}
use Rattle.kd_core.proofs.world.strangers.Given as goal

abbrev pub invariant-numbers : goal.invariant-numbers
invariant-numbers l = l.callers.items ≡ replicate l.counter stranger
