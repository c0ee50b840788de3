-- The answer goes by the table.
use Rattle.kd_pool.proofs.Views.{slots_shown}
use Rattle.kd_pool.proofs.pool.Pool.is_handed.Goals as goal

pub returns : goal.returns
returns c = rw (← c.self.view_is, slots_shown c.self.inside.memory.items c.self.inside.shares.items c.self.inside.slots.items, ← c.deref.ensures.value) c.is_handed.ensures
