use Rattle.std.proofs.Common.{List}
use Rattle.kd_world.specs.Legal.{Event}
use Rattle.kd_world.specs.Whole.{pending_count}
use Rattle.kd_replay.specs.Hearing.{Hears, heard_along}
use Rattle.kd_replay.proofs.Publishes.{Publishing}
use Rattle.kd_replay.proofs.running.publish.Given as goal

abbrev pub invariant-pendings : goal.invariant-pendings
invariant-pendings g l =
    (es : List Event) × Publishing l.initial.world.world l.world.world l.caller es
    × Hears (g.W.Witness.has_heard l.initial.witness) (g.W.Witness.has_heard l.witness) (heard_along l.initial.world.world es)

abbrev pub decreases-pendings : goal.decreases-pendings
decreases-pendings g l = pending_count l.world.world l.caller
