-- How many bytes a read of a slice is answered: no more than its pool has.
use Rattle.std.specs.Prelude.{◌≡◌, ◌≤◌, ℕ, false, List, Some, length}
use Rattle.kd_acts.specs.State.{bytes_of, read}
use Rattle.kd_acts.specs.Steps.{answer}
use Rattle.kd_counts.specs.Sizes.{size_of}
use Rattle.kd_world.specs.Runs.{IsReached}
use Rattle.kd_world.specs.State.{World, pool_at}

-- of the slice itself; how long its share can be isn't said
abbrev pub ReadsFitTheirPool : Type 0
ReadsFitTheirPool =
    (w : World) (seat n size : ℕ) (bytes : List ℕ) → IsReached w
    → size_of (pool_at w seat) ≡ Some size
    → answer (pool_at w seat) (read n false) ≡ bytes_of bytes → length bytes ≤ size
