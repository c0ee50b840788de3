-- By how many there are of each.
use Rattle.kd_settled.proofs.Rooms as rooms
use Rattle.kd_settled.proofs.laws.senders_have_room.Goals as goal

pub returns : goal.returns
returns c = rooms.senders_have_room
