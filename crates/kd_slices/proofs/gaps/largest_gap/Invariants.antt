-- The greatest length so far and those of what is left make the greatest of all.
use Rattle.std.specs.Prelude.{drop}
use Rattle.kd_slices.proofs.Walks.{Measures}
use Rattle.kd_slices.proofs.gaps.largest_gap.Given as goal

abbrev pub invariant-slices : goal.invariant-slices
invariant-slices l = Measures l.start l.size l.most l.slices (drop l.slice-index l.slices)
