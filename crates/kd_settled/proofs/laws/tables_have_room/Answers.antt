-- By how many there are of each.
use Rattle.kd_settled.proofs.Rooms as rooms
use Rattle.kd_settled.proofs.laws.tables_have_room.Goals as goal

pub returns : goal.returns
returns c = rooms.tables_have_room
