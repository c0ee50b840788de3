use Rattle.std.proofs.Common.{take}
use Rattle.kd_tables.specs.Room.{seats_on}
use Rattle.kd_tables.proofs.Marks.{AreMarked}
use Rattle.kd_tables.proofs.finishing.mark_seats.Given as goal

abbrev pub invariant-conns : goal.invariant-conns
invariant-conns l = AreMarked l.marks l.initial.marks (seats_on (take l.conn-index l.conns) l.endpoint)
