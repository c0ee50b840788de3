-- What events do to pools has the lengths that keep them sound, so all open pools are.
use Rattle.std.specs.Prelude.{◌≡◌, ℕ, Some}
use Rattle.kd_sound.specs.Lengths.{HasLengths}
use Rattle.kd_sound.specs.Staying.{IsSoundHold}
use Rattle.kd_world.specs.Legal.{Event}
use Rattle.kd_world.specs.Pools.{Aimed, act_of}
use Rattle.kd_world.specs.Runs.{IsReached}
use Rattle.kd_world.specs.State.{World, pool_at}

-- what any event does to a pool, in every world that legal events lead to
abbrev pub ActsHaveLengths : Type 0
ActsHaveLengths =
    (w : World) (e : Event) (a : Aimed) → IsReached w → act_of w e ≡ Some a → HasLengths a.act

-- and each open pool there
abbrev pub PoolsAreAlwaysSound : Type 0
PoolsAreAlwaysSound = (w : World) (s : ℕ) → IsReached w → IsSoundHold (pool_at w s)
