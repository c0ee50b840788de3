-- The best gap so far and the best of what is left are the best of all.
use Rattle.std.specs.Prelude.{drop}
use Rattle.kd_slices.proofs.Walks.{Searches}
use Rattle.kd_slices.proofs.gaps.smallest_gap.Given as goal

abbrev pub invariant-slices : goal.invariant-slices
invariant-slices l = Searches l.start l.size l.len l.best l.slices (drop l.slice-index l.slices)
