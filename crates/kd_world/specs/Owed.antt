-- What was placed is published: a message has its slice until then, while its pool has the same
-- generation.
use Rattle.std.specs.Prelude.{◌≡◌, ℕ, ◌==◌, ◌&&◌, Bool, true, false, Some, IsTrue}
use Rattle.kd_acts.specs.State.{gone, placed}
use Rattle.kd_acts.specs.Lasting.{is_open}
use Rattle.kd_world.specs.State.{Pending, World, pool_at}
use Rattle.kd_world.specs.Own.{pending_of}
use Rattle.kd_world.specs.Legal.{is_caller, publishes}
use Rattle.kd_world.specs.Pools.{pool_answer}
use Rattle.kd_world.specs.Runs.{IsReached}

-- its pool is open and was neither closed nor raised since
abbrev pub is_still_there : World → Pending → Bool
is_still_there w p = is_open (pool_at w p.seat) && (pool_at w p.seat).generation == p.generation

-- a publishing is placed exactly where its pool is still there, and else it's gone
abbrev pub PublishesArrive : World → Type 0
PublishesArrive w =
    (n seat number : ℕ) (p : Pending) → IsTrue (is_caller n) → pending_of w n seat number ≡ Some p
    → pool_answer w (publishes n seat number)
    ≡ elim (is_still_there w p) [ true ↦ placed | false ↦ gone ]

abbrev pub PublishesAlwaysArrive : Type 0
PublishesAlwaysArrive = (w : World) → IsReached w → PublishesArrive w
