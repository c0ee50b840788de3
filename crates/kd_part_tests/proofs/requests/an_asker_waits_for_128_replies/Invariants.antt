use Rattle.std.proofs.Common.{length, ◌≡◌}
use Rattle.kd_part_tests.proofs.requests.an_asker_waits_for_128_replies.Given as goal

abbrev pub invariant-asking : goal.invariant-asking
invariant-asking g l = length l.replies ≡ l.i
