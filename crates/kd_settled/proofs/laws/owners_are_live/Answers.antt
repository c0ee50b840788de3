-- By whom its claim belongs to.
use Rattle.kd_settled.proofs.Rooms as rooms
use Rattle.kd_settled.proofs.laws.owners_are_live.Goals as goal

pub returns : goal.returns
returns c = rooms.owners_are_live
