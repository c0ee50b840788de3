use Rattle.std.proofs.Common.{◌≡◌, ◌≤◌, ◌+◌, ◌-◌, vec_len}
use Rattle.std.specs.Io.KnownBytes.{Consumes}
use Rattle.kd_outside.proofs.whole.read_to_end.Given as goal

abbrev pub invariant-reading : goal.invariant-reading
invariant-reading g l = (vec_len l.bytes ≤ l.limit + 1) × Consumes (g.S.Source.left l.initial.source) (g.S.Source.left l.source) l.bytes.items × (g.S.Source.faults l.source ≡ g.S.Source.faults l.initial.source)
    × (g.S.Source.beside l.source ≡ g.S.Source.beside l.initial.source)

abbrev pub decreases-reading : goal.decreases-reading
decreases-reading g l = l.limit + 1 - vec_len l.bytes
