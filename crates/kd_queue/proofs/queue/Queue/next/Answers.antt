-- What is received next waits.
use Rattle.std.proofs.Common.{Some, ◌∙◌}
use Rattle.kd_queue.proofs.Waits.{next_waits}
use Rattle.kd_queue.proofs.queue.Queue.next.Goals as goal

pub returns-in-Some-clause-waits : goal.returns-in-Some-clause-waits
returns-in-Some-clause-waits c = next_waits _ _ (Some _) _ (c.deref-in-Some.ensures.value ∙ c.self.view_is) c.least_within.ensures
