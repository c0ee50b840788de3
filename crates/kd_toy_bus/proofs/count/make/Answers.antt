use Rattle.std.proofs.Common.{◌≡◌}
use Rattle.kd_toy_bus.specs.declared.count.Count.{Count}
use Rattle.kd_toy_bus.proofs.Backs.{each_at}
use Rattle.kd_toy_bus.proofs.count.make.Goals as goal

pub make-requires-clause-stands : goal.make-requires-clause-stands
make-requires-clause-stands c = each_at (λ (x : Count). x.turns ≡ 0) c.filling.values.items c.filling.invariant.zero
