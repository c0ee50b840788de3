use Rattle.std.proofs.Common.{◌≡◌, ◌+◌, length}
use Rattle.kd_image.specs.Reading.{contents_in}
use Rattle.kd_image.proofs.Read.{from_here}
use Rattle.kd_image.proofs.contents.read_contents.Given as goal

abbrev pub invariant-items : goal.invariant-items
invariant-items l = (l.at + length l.rest ≡ l.size) × (from_here l.size l.draft l.at l.rest ≡ contents_in l.size l.area)

abbrev pub decreases-items : goal.decreases-items
decreases-items l = length l.rest
