use Rattle.std.proofs.Common.{◌≡◌, ◌++◌, length, map}
use Rattle.kd_core.specs.Running.{event_of}
use Rattle.kd_core.specs.Along.{said_along}
use Rattle.kd_core.proofs.Stopping.{HaveRun}
use Rattle.kd_core.proofs.events.run_all.Given as goal

abbrev pub invariant-events : goal.invariant-events
invariant-events l =
    (l.index ≡ length l.yielded)
    × (l.answers.items ≡ said_along l.initial.world.world (map event_of l.yielded))
    × HaveRun l.initial.world l.world (map event_of l.yielded)
    × (l.yielded ++ l.event-iterator.rest.items ≡ l.fn.events.items)
