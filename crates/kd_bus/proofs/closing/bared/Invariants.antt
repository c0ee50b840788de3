use Rattle.std.proofs.Common.{◌≤◌, ◌+◌, length}
use Rattle.std.specs.Prelude.{vec_capacity}
use Rattle.kd_bus.proofs.Closings.{Parting}
use Rattle.kd_bus.proofs.closing.bared.Given as goal

abbrev pub invariant-passes : goal.invariant-passes
invariant-passes l =
    Parting l.fn.passes.items l.pass-iterator.rest.items l.bares.items l.aims.items
    × (length l.bares.items + length l.pass-iterator.rest.items ≤ vec_capacity l.bares)
    × (length l.aims.items + length l.pass-iterator.rest.items ≤ vec_capacity l.aims)
