-- The longest beginning is one.
use Rattle.kd_places.proofs.Whole as whole
use Rattle.kd_places.proofs.laws.image_places_are_one.Goals as goal

pub returns : goal.returns
returns c = whole.image_places_are_one
