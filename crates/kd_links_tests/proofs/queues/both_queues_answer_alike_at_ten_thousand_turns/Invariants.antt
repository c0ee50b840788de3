-- Both queues have the same entries.
use Rattle.std.proofs.Common.{◌≡◌}
use Rattle.kd_links_tests.proofs.queues.both_queues_answer_alike_at_ten_thousand_turns.Given as goal

abbrev pub invariant-turns : goal.invariant-turns
invariant-turns g l = l.linked ≡ l.plain
