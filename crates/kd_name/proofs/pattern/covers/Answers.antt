use Rattle.std.proofs.Common.{rules}
use Rattle.kd_name.proofs.Covering.{wildcard_means}
use Rattle.kd_name.proofs.pattern.covers.Goals as goal

pub returns-else-eq-clause-meaning : goal.returns-else-eq-clause-meaning
returns-else-eq-clause-meaning c = wildcard_means c.args.pattern.now c.args.name.now _ (search rules) c.is_wildcard_of.ensures
