use Rattle.std.proofs.Common.{◌≡◌, ◌≤◌, ◌-◌, vec_len, vec_capacity}
use Rattle.kd_client.specs.Causes.{Came}
use Rattle.kd_client.proofs.reading.read_until.Given as goal

abbrev pub invariant-reading : goal.invariant-reading
invariant-reading g l = (vec_len l.bytes ≤ l.total) × (l.total ≤ vec_capacity l.bytes)
    × Came (g.L.Link.told l.initial.link).reading.bytes (g.L.Link.told l.link).reading.bytes l.initial.bytes.items l.bytes.items
    × ((g.L.Link.told l.link).reading.faults ≡ (g.L.Link.told l.initial.link).reading.faults)
    × ((g.L.Link.told l.link).writing ≡ (g.L.Link.told l.initial.link).writing)

abbrev pub decreases-reading : goal.decreases-reading
decreases-reading g l = l.total - vec_len l.bytes
