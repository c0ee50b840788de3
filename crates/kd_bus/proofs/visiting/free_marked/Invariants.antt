use Rattle.std.proofs.Common.{◌≡◌}
use Rattle.kd_histories.specs.Pools.{hold_freed, marked_below}
use Rattle.kd_bus.specs.Slips.{words_in}
use Rattle.kd_bus.proofs.visiting.free_marked.Given as goal

abbrev pub invariant-freeing : goal.invariant-freeing
invariant-freeing l = l.hold ≡ hold_freed (marked_below l.number (words_in l.marks)) l.initial.hold
