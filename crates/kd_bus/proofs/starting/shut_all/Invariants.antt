use Rattle.kd_bus.proofs.Begun.{Shutting}
use Rattle.kd_bus.proofs.starting.shut_all.Given as goal

abbrev pub invariant-seats : goal.invariant-seats
invariant-seats g l = Shutting l.gate l.desk l.initial.pass l.pass l.made l.seat
