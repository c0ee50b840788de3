-- What the values behind the locks stand for.
use Rattle.std.specs.Prelude.{◌≡◌, ◌*◌, ℕ, zero, suc, List, ◌∷◌, length, replicate}
use Rattle.kd_holds.specs.Counts.{IsBelow}
use Rattle.kd_histories.specs.Turns.{Turn}
use Rattle.kd_histories.specs.Slots.{slot_of, unborn}
use Rattle.kd_histories.specs.Pools.{hold_of}
use Rattle.kd_world.specs.State.{closed_pool}
use Rattle.kd_bus.specs.declared.locked.Locked.{Locked}
use Rattle.kd_bus.specs.declared.locked.Locked.TheVariants as locked

-- the state along the whole list: behind lock 0 the desk, behind the others the pools; an entry
-- raises each count of its pool by at most 257, one for its act and one for each of 256 slices
abbrev pub stands : ℕ → List (ℕ × Turn) → Locked → Type 0
stands zero list x = x ≡ locked.Desk (slot_of list)
stands (suc c) list x =
    (x ≡ locked.Pool (hold_of list)) × IsBelow (257 * length list) (hold_of list)

-- the values of a slot that never had a bus, with so many pools
abbrev pub opening_values : ℕ → List Locked
opening_values n = locked.Desk unborn ∷ replicate n (locked.Pool closed_pool)
