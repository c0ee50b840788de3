use Rattle.std.proofs.Common.{List}
use Rattle.kd_world.specs.Legal.{Event}
use Rattle.kd_replay.specs.Hearing.{Hears, heard_along}
use Rattle.kd_replay.proofs.Visits.{Visiting, remaining}
use Rattle.kd_replay.proofs.running.visit.Given as goal

abbrev pub invariant-parts : goal.invariant-parts
invariant-parts g l =
    (es : List Event) × Visiting l.initial.world.world l.world.world l.caller es
    × Hears (g.W.Witness.has_heard l.initial.witness) (g.W.Witness.has_heard l.witness) (heard_along l.initial.world.world es)

abbrev pub decreases-parts : goal.decreases-parts
decreases-parts g l = remaining l.world.world
