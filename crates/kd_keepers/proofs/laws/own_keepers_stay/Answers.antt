-- Entry by entry.
use Rattle.kd_keepers.proofs.Own as own
use Rattle.kd_keepers.proofs.laws.own_keepers_stay.Goals as goal

pub returns : goal.returns
returns c = own.own_keepers_stay
