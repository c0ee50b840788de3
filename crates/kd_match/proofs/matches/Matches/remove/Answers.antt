-- What holds of all rules holds of those that stay.
use Rattle.std.proofs.Common.{arith}
use Rattle.kd_match.proofs.Kept.{table_those}
use Rattle.kd_match.proofs.matches.Matches.remove.Goals as goal

pub invariant_of-self : goal.invariant_of-self
invariant_of-self c = (rw c.remove_named.ensures.items (table_those _ _ _ c.self.invariant.0), c.self.invariant.1, let more = c.remove_named.ensures.room in let room = c.self.invariant.2 in omega arith)
