-- The lowest free seat is the lowest among those that are left.
use Rattle.std.specs.Prelude.{◌≡◌}
use Rattle.kd_commands.specs.Hello.{free_seat}
use Rattle.kd_commands.proofs.Seats.{free_from}
use Rattle.kd_desk.proofs.hello.free_seat.Given as goal

abbrev pub invariant-seats : goal.invariant-seats
invariant-seats l = free_seat l.desk ≡ free_from l.desk l.number
