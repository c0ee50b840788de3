-- No entries, and the room that was there.
use Rattle.std.proofs.Common.{arith}
use Rattle.kd_queue.proofs.Numbers.{none}
use Rattle.kd_queue.proofs.queue.Queue.clear.Goals as goal

pub invariant_of-self : goal.invariant_of-self
invariant_of-self c = record { slices = rw c.clear.ensures.items none; room = omega (arith, c.self.invariant.room, c.clear.ensures.capacity) }
