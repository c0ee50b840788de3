use Rattle.std.proofs.Common.{◌≡◌, length}
use Rattle.kd_wire.specs.Refusals.{has_bare_name}
use Rattle.kd_wire.proofs.judging.has_bare_name.Given as goal

abbrev pub invariant-names : goal.invariant-names
invariant-names l = has_bare_name l.rest ≡ has_bare_name l.items

abbrev pub decreases-names : goal.decreases-names
decreases-names l = length l.rest
