-- By what stands before it, and by what is read behind it.
use Rattle.kd_places.proofs.Places as places
use Rattle.kd_places.proofs.laws.reply_places_are_true.Goals as goal

pub returns : goal.returns
returns c = places.reply_places_are_true
