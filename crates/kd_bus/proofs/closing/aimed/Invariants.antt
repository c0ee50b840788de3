use Rattle.std.proofs.Common.{◌≤◌, ◌+◌, length}
use Rattle.std.specs.Prelude.{vec_capacity}
use Rattle.kd_bus.proofs.Closings.{Joining}
use Rattle.kd_bus.proofs.closing.aimed.Given as goal

abbrev pub invariant-passes : goal.invariant-passes
invariant-passes l =
    Joining l.fn.passes.items l.pass-iterator.rest.items l.aims l.all.items l.place
    × (length l.all.items + length l.pass-iterator.rest.items ≤ vec_capacity l.all)
