-- The lowest unused number is the lowest among those that are left.
use Rattle.std.specs.Prelude.{◌≡◌}
use Rattle.kd_model.specs.Slices.{lowest_unused}
use Rattle.kd_links.specs.Kept.{slices_of}
use Rattle.kd_slices.proofs.Walks.{unused_from}
use Rattle.kd_links.proofs.links.lowest_unused.Given as goal

abbrev pub invariant-numbers : goal.invariant-numbers
invariant-numbers l = lowest_unused (slices_of l.chain) ≡ unused_from (slices_of l.chain) l.number
