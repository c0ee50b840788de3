use Rattle.std.proofs.Common.{length, ◌≡◌}
use Rattle.kd_part_tests.proofs.requests.due_by_deadline_and_dead_by_asker.Given as goal

abbrev pub invariant-asking : goal.invariant-asking
invariant-asking g l = length l.replies ≡ l.one-index
