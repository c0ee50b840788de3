-- What holds of every world that legal events lead to.
use Rattle.std.specs.Prelude.{◌≡◌, ◌≢◌, ℕ, Some, IsNone, IsTrue}
use Rattle.kd_acts.specs.Lasting.{is_open}
use Rattle.kd_commands.specs.Seating.{is_live, open_along}
use Rattle.kd_counts.specs.Sizes.{size_of}
use Rattle.kd_settled.specs.Callers.{IsApart}
use Rattle.kd_settled.specs.Room.{IsAtHome}
use Rattle.kd_settled.specs.Settled.{IsSettled}
use Rattle.kd_settled.specs.Sizes.{size_along, size_at}
use Rattle.kd_world.specs.Holding.{parts_held}
use Rattle.kd_world.specs.Legal.{is_caller}
use Rattle.kd_world.specs.Runs.{IsReached}
use Rattle.kd_world.specs.State.{Holder, World, caller_at, pool_at}

-- the desk is settled
abbrev pub DesksAreSettled : Type 0
DesksAreSettled = (w : World) → IsReached w → IsSettled w.desk

-- the desk knows each caller, and a keeper's endpoint is there
abbrev pub CallersAreHome : Type 0
CallersAreHome =
    (w : World) (n : ℕ) → IsReached w
    → IsAtHome w.desk (caller_at w n).kind (caller_at w n).who.member

-- no two callers have one seat, or keep one endpoint
abbrev pub CallersAreApart : Type 0
CallersAreApart =
    (w : World) (n m : ℕ) → IsReached w → IsTrue (is_caller n) → IsTrue (is_caller m) → n ≢ m
    → IsApart (caller_at w n).who.member (caller_at w m).who.member

-- ---- pools

-- while the desk is free, the open pools are those of live connections
abbrev pub OpenPoolsAreLive : Type 0
OpenPoolsAreLive =
    (w : World) (s : ℕ) → IsReached w → IsNone w.holder
    → is_open (pool_at w s) ≡ is_live w.desk s

-- and each has the size that its connection asked for
abbrev pub OpenPoolsAreSized : Type 0
OpenPoolsAreSized =
    (w : World) (s : ℕ) → IsReached w → IsNone w.holder → size_of (pool_at w s) ≡ size_at w.desk s

-- while it is held, they are what the holder's visits have made of these
abbrev pub OpenPoolsSoFar : Type 0
OpenPoolsSoFar =
    (w : World) (s : ℕ) (h : Holder) → IsReached w → w.holder ≡ Some h
    → (is_open (pool_at w s) ≡ open_along s (parts_held w h) h.outs (is_live w.desk s))
    × (size_of (pool_at w s) ≡ size_along s (parts_held w h) h.outs (size_at w.desk s))
