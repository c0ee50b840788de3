-- The queue is empty exactly where none waits.
use Rattle.std.specs.Prelude.{not}
use Rattle.std.proofs.Common.{ap, ◌∙◌}
use Rattle.kd_pool.proofs.Queued.{waits_by_queue}
use Rattle.kd_pool.proofs.Views.{slots_shown}
use Rattle.kd_pool.proofs.pool.Pool.some_waiting.Goals as goal

pub returns : goal.returns
returns c = rw (← c.self.view_is, slots_shown c.self.inside.memory.items c.self.inside.shares.items c.self.inside.slots.items) (ap not c.is_empty.ensures ∙ waits_by_queue c.self.inside.slots.items c.self.inside.queue c.self.inside.next_arrival c.self.invariant.queued)
