use Rattle.std.proofs.Common.{◌≡◌, length}
use Rattle.kd_lines.specs.Making.{IsOneLine, IsMade}
use Rattle.kd_lines.proofs.Written.{Stands}
use Rattle.kd_lines.proofs.making.make.Given as goal

abbrev pub invariant-lines : goal.invariant-lines
invariant-lines g l =
    Stands IsOneLine IsMade l.bytes l.rest l.at (g.K.Sink.held l.initial.sink) (g.K.Sink.held l.sink)
    × (g.K.Sink.faults l.sink ≡ g.K.Sink.faults l.initial.sink)

abbrev pub decreases-lines : goal.decreases-lines
decreases-lines g l = length l.rest
