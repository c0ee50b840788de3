-- A copy of what was told of no number is the same.
use Rattle.std.proofs.Common.{rules}
use Rattle.kd_holds.proofs.hand.Hand.make.Goals as goal

pub returns : goal.returns
returns c = c.in_ok-vec.ensures.items_if_clones_equal (search rules)
