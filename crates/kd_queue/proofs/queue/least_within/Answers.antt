-- One more entry is compared with the best before it.
use Rattle.kd_queue.proofs.Least.{best_more}
use Rattle.kd_queue.proofs.queue.least_within.Goals as goal

pub entries-preserved : goal.entries-preserved
entries-preserved c = best_more _ _ _ _ _ _ c.entries-test.true c.entry-item.is c.entries.invariant c.better-best.ensures
