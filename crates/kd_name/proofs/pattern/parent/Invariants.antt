use Rattle.std.proofs.Common.{◌≡◌, true, List, ℕ, ◌++◌, length}
use Rattle.kd_name.proofs.Pieces.{lacks_dot}
use Rattle.kd_name.proofs.pattern.parent.Given as goal

abbrev pub invariant-back : goal.invariant-back
invariant-back l = (rest : List ℕ) × (l.name ≡ l.front ++ rest) × (lacks_dot rest ≡ true)

abbrev pub decreases-back : goal.decreases-back
decreases-back l = length l.front
