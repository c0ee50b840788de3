-- The best so far is the least of the entries so far that are within the limit.
use Rattle.std.proofs.Common.{◌≡◌, take}
use Rattle.kd_queue.specs.Order.{most_urgent, those_within}
use Rattle.kd_queue.proofs.queue.least_within.Given as goal

abbrev pub invariant-entries : goal.invariant-entries
invariant-entries l = l.best ≡ most_urgent (those_within l.limit (take l.entry-index l.entries))
