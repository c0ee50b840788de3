-- What ties the lists of all locks.
use Rattle.std.specs.Prelude.{◌≡◌, ℕ, suc, [], ◌++◌, None}
use Rattle.kd_hands.specs.Locks.{Histories}
use Rattle.kd_world.specs.State.{closed_pool}
use Rattle.kd_histories.specs.Turns.{Turn}
use Rattle.kd_histories.specs.Slots.{AreTold, unborn}
use Rattle.kd_histories.specs.Visits.{addressed, visits_made, visits_opened}
use Rattle.kd_histories.specs.Seats.{AreFair}
use Rattle.kd_histories.specs.Pools.{AreDone}
use Rattle.kd_histories.specs.Pairs.{ArePaired}

-- Each pool was made just what the desk's list addresses to it, in order, each once, but for what
-- the holder of the desk has made since it took it
abbrev pub IsAddressed : Histories Turn → ℕ → Type 0
IsAddressed h c =
    visits_made (h.lists (suc c))
    ≡ addressed c unborn (h.lists 0) ++ visits_opened (suc c) h.opened

-- and each entry is true where it stands: a command comes from the pass that has its caller's seat,
-- replies and answers are those of the desk and of the pool, and publishings are paired
pub record Tie (h : Histories Turn) : Type 0 where
  pub addressed : (c : ℕ) → IsAddressed h c
  pub fair : (c : ℕ) → AreFair c None (h.lists 0)
  pub told : AreTold unborn (h.lists 0)
  pub done : (c : ℕ) → AreDone closed_pool (h.lists (suc c))
  pub paired : (c n : ℕ) → ArePaired n None (h.lists (suc c))

-- before any entry
abbrev pub no_entry : Histories Turn
no_entry = record { lists = λ _. []; opened = [] }
