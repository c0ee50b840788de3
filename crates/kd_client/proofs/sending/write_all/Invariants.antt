use Rattle.std.proofs.Common.{◌≡◌, ℕ, take, drop, length}
use Rattle.std.specs.Io.KnownBytes.{Appends}
use Rattle.kd_client.proofs.sending.write_all.Given as goal

abbrev pub invariant-writing : goal.invariant-writing
invariant-writing g l = (n : ℕ) × (l.rest ≡ drop n l.piece) × Appends (g.L.Link.told l.initial.link).writing.bytes (g.L.Link.told l.link).writing.bytes (take n l.piece)
    × ((g.L.Link.told l.link).writing.faults ≡ (g.L.Link.told l.initial.link).writing.faults)
    × ((g.L.Link.told l.link).reading ≡ (g.L.Link.told l.initial.link).reading)

abbrev pub decreases-writing : goal.decreases-writing
decreases-writing g l = length l.rest
