-- Fewer numbers stay apart, and the vector keeps its room.
use Rattle.std.proofs.Common.{arith}
use Rattle.kd_queue.proofs.Numbers.{fewer}
use Rattle.kd_queue.proofs.queue.Queue.take.Goals as goal

pub invariant_of-self : goal.invariant_of-self
invariant_of-self c = record { slices = rw c.remove.ensures.others (fewer _ _ c.self.invariant.slices); room = omega arith }
