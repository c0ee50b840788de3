-- By how many there are of each.
use Rattle.kd_settled.proofs.Rooms as rooms
use Rattle.kd_settled.proofs.laws.free_seats_have_room.Goals as goal

pub returns : goal.returns
returns c = rooms.free_seats_have_room
