-- The longest beginning is one.
use Rattle.kd_places.proofs.Places as places
use Rattle.kd_places.proofs.laws.reply_places_are_one.Goals as goal

pub returns : goal.returns
returns c = places.reply_places_are_one
