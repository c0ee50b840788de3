use Rattle.std.proofs.Common.{◌≡◌, ◌≤◌, ◌+◌, min, take, filter, nat_lt}
use Rattle.kd_outside.specs.Memory.{least_of}
use Rattle.kd_outside.proofs.tape.cut_above.Given as goal

abbrev pub invariant-cuts : goal.invariant-cuts
invariant-cuts l = (l.best ≡ least_of (filter (λ cut. nat_lt l.place cut) (take l.cut-index l.cuts)) l.end) × (l.best ≤ l.end) × (min (l.place + 1) l.end ≤ l.best)
