-- By their words.
use Rattle.kd_places.proofs.Units as units
use Rattle.kd_places.proofs.laws.units_make_replies.Goals as goal

pub returns : goal.returns
returns c = units.units_make_replies
