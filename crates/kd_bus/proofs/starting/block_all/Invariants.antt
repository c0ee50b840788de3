use Rattle.std.proofs.Common.{◌≡◌, ◌≤◌}
use Rattle.kd_bus.proofs.Begun.{waiting_below}
use Rattle.kd_bus.proofs.starting.block_all.Given as goal

abbrev pub invariant-seats : goal.invariant-seats
invariant-seats l = (l.next ≡ record l.initial.next { blocked = waiting_below l.seat l.desk }) × (l.seat ≤ 64)
