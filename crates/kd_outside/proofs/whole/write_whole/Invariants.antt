use Rattle.std.proofs.Common.{◌≡◌, ℕ, take, drop, length}
use Rattle.std.specs.Io.KnownBytes.{Appends}
use Rattle.kd_outside.proofs.whole.write_whole.Given as goal

abbrev pub invariant-writing : goal.invariant-writing
invariant-writing g l = (n : ℕ) × (l.rest ≡ drop n l.piece) × Appends (g.K.Sink.held l.initial.sink) (g.K.Sink.held l.sink) (take n l.piece) × (g.K.Sink.faults l.sink ≡ g.K.Sink.faults l.initial.sink)
    × (g.K.Sink.beside l.sink ≡ g.K.Sink.beside l.initial.sink)

abbrev pub decreases-writing : goal.decreases-writing
decreases-writing g l = length l.rest
