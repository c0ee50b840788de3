-- What a pool keeps makes it sound.
use Rattle.std.specs.Prelude.{vec_capacity}
use Rattle.kd_pool.proofs.Kept.{pool_is_sound}
use Rattle.kd_pool.proofs.pool.Pool.used.Goals as goal

pub returns-clause-sound : goal.returns-clause-sound
returns-clause-sound c = rw (← c.self.view_is) (pool_is_sound c.self.inside.memory.items c.self.inside.shares.items c.self.inside.book c.self.inside.slots.items (vec_capacity c.self.inside.slots) c.self.inside.next_arrival c.self.inside.dropped c.self.inside.offered c.self.invariant.kept)
