-- What visits and publishings meet in every world that legal events lead to.
use Rattle.std.specs.Prelude.{◌≡◌, ◌<◌, ◌≤◌, ℕ, true, Some, length}
use Rattle.kd_acts.specs.Lasting.{is_open}
use Rattle.kd_acts.specs.State.{Pool}
use Rattle.kd_acts.specs.Steps.{is_reserved_for}
use Rattle.kd_commands.specs.Plans.{Part}
use Rattle.kd_settled.specs.Parts.{needs_pool}
use Rattle.kd_world.specs.Holding.{next_visit, parts_held}
use Rattle.kd_world.specs.Legal.{legal, publishes}
use Rattle.kd_world.specs.Owed.{is_still_there}
use Rattle.kd_world.specs.Own.{pending_of}
use Rattle.kd_world.specs.Runs.{IsReached}
use Rattle.kd_world.specs.State.{Holder, Pending, World, pool_at}

-- what is visited next is a pool of the 64, and an offer, a post, a drain, a settle or a close
-- meets an open one: nothing that the desk addresses is lost at a closed pool
abbrev pub VisitsMeetPools : Type 0
VisitsMeetPools =
    (w : World) (h : Holder) (q : Part) → IsReached w → w.holder ≡ Some h
    → next_visit w h ≡ Some q
    → (q.seat < 64) × (needs_pool q.act ≡ true → is_open (pool_at w q.seat) ≡ true)

-- a holder visits at most 2 to the 20 parts
abbrev pub HoldersVisitFew : Type 0
HoldersVisitFew =
    (w : World) (h : Holder) → IsReached w → w.holder ≡ Some h
    → (length h.outs ≤ length (parts_held w h)) × (length (parts_held w h) ≤ 1048576)

-- a slice of the pool is reserved for what is published
pub record FindsSlice (w : World) (p : Pending) : Type 0 where
  pub pool : Pool
  pub there : (pool_at w p.seat).pool ≡ Some pool
  pub reserved : is_reserved_for p.number p.content pool ≡ true

-- a legal publishing is of something that its caller has to publish; while the pool is there, its
-- slice is reserved for just that
abbrev pub PublishesAreReserved : Type 0
PublishesAreReserved =
    (w : World) (n seat number : ℕ) → IsReached w → legal w (publishes n seat number) ≡ true
    → (p : Pending) × (pending_of w n seat number ≡ Some p)
    × (is_still_there w p ≡ true → FindsSlice w p)
