-- By its header, and by what is behind it.
use Rattle.kd_places.proofs.Whole as whole
use Rattle.kd_places.proofs.laws.image_places_are_true.Goals as goal

pub returns : goal.returns
returns c = whole.image_places_are_true
