-- A copy of no share is none.
use Rattle.std.proofs.Common.{rules}
use Rattle.kd_pool.proofs.sealed.none.Goals as goal

pub returns : goal.returns
returns c = c.in_ok-vec.ensures.items_if_clones_equal (search rules)
