use Rattle.std.proofs.Common.{◌≡◌, All, map}
use Rattle.kd_bus.specs.Sight.{Rests, unaimed}
use Rattle.kd_bus.proofs.bus.unaimed.Given as goal

abbrev pub invariant-passes : goal.invariant-passes
invariant-passes l = (l.all.items ≡ map unaimed l.yielded) × All Rests l.pass-iterator.rest.items
