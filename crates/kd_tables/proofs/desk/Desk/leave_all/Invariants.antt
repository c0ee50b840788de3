use Rattle.std.proofs.Common.{◌≡◌, take}
use Rattle.kd_commands.specs.Leaving.{without_conns}
use Rattle.kd_tables.proofs.desk.Desk.leave_all.Given as goal

abbrev pub invariant-leavers : goal.invariant-leavers
invariant-leavers l = l.self ≡ without_conns l.initial.self (take l.id-index l.leavers)
