-- By how many there are of each.
use Rattle.kd_settled.proofs.Rooms as rooms
use Rattle.kd_settled.proofs.laws.many_are_few.Goals as goal

pub returns : goal.returns
returns c = rooms.many_are_few
