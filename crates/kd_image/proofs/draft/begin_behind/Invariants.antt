use Rattle.std.proofs.Common.{◌≡◌, take}
use Rattle.kd_image.specs.Items.{begins}
use Rattle.kd_image.proofs.draft.begin_behind.Given as goal

abbrev pub invariant-lengths : goal.invariant-lengths
invariant-lengths l = l.at ≡ begins l.size (take l.length-index l.lengths)
