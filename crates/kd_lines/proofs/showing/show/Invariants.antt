use Rattle.std.proofs.Common.{◌≡◌, length}
use Rattle.kd_lines.specs.Pieces.{IsPiece}
use Rattle.kd_lines.specs.Lines.{IsLine}
use Rattle.kd_lines.proofs.Written.{Stands}
use Rattle.kd_lines.proofs.showing.show.Given as goal

abbrev pub invariant-pieces : goal.invariant-pieces
invariant-pieces g l =
    Stands (IsPiece l.kind) (IsLine l.kind) l.bytes l.rest l.at (g.K.Sink.held l.initial.sink) (g.K.Sink.held l.sink)
    × (g.K.Sink.faults l.sink ≡ g.K.Sink.faults l.initial.sink)

abbrev pub decreases-pieces : goal.decreases-pieces
decreases-pieces g l = length l.rest
