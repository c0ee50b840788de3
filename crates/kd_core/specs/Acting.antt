-- An act at the pool of a seat, among all pools; beyond the last seat every pool is closed.
use Rattle.std.specs.Prelude.{List, Option, Some, None, get_or, set}
use Rattle.kd_acts.specs.State.{Answer, Hold, done}
use Rattle.kd_acts.specs.Steps.{pool_step}
use Rattle.kd_world.specs.State.{closed_pool}
use Rattle.kd_world.specs.Pools.{Aimed}

-- the pools after it, where there is one
abbrev pub acted : Option Aimed → List Hold → List Hold
acted None pools = pools
acted (Some p) pools = set pools p.seat (pool_step (get_or pools p.seat closed_pool) p.act).0

-- its pool's answer
abbrev pub aimed_answer : Option Aimed → List Hold → Answer
aimed_answer None pools = done
aimed_answer (Some p) pools = (pool_step (get_or pools p.seat closed_pool) p.act).1
