-- No entries, and the room that was asked for.
use Rattle.std.proofs.Common.{arith}
use Rattle.kd_queue.proofs.Numbers.{none}
use Rattle.kd_queue.proofs.queue.Queue.make.Goals as goal

pub invariant_of-result : goal.invariant_of-result
invariant_of-result c = record { slices = rw c.in_ok-with_capacity.ensures.items none; room = omega (arith, c.in_ok-with_capacity.ensures.exact) }
