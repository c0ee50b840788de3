use Rattle.std.proofs.Common.{◌≡◌}
use Rattle.kd_run_tests.proofs.desk.blocked_desk.Given as goal

abbrev pub invariant-loop-seat : goal.invariant-loop-seat
invariant-loop-seat l = l.desk.next_id ≡ 1
