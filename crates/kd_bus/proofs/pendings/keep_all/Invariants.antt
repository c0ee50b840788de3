-- There is room for all that is left.
use Rattle.std.proofs.Common.{◌≤◌, ◌+◌, length, vec_capacity, vec_len}
use Rattle.kd_bus.proofs.Placing.{IsKeeping}
use Rattle.kd_bus.proofs.pendings.keep_all.Given as goal

abbrev pub invariant-outs : goal.invariant-outs
invariant-outs l =
    (vec_len l.pendings + length l.outs ≤ vec_capacity l.pendings + l.index)
    × IsKeeping l.initial.plan l.plan l.outs l.generations l.initial.pendings.items l.pendings.items l.index
