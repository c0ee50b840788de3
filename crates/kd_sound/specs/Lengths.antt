-- The lengths of what acts bring along.
use Rattle.std.specs.Prelude.{◌≡◌, ◌<◌, ◌%◌, ℕ, List, length}
use Rattle.std.specs.List.{AllByRecursion}
use Rattle.kd_acts.specs.State.{Act, Image, by_desk, offer, post, raise, settle}

-- the length of a slice: some bytes, a multiple of 8
abbrev pub IsLength : ℕ → Type 0
IsLength n = (0 < n) × (n % 8 ≡ 0)

-- messages that slices can hold
abbrev pub HaveLengths : List Image → Type 0
HaveLengths images = AllByRecursion (λ (i : Image). IsLength (length i.content.image)) images

-- what is to be placed has the length of a slice, and the size of a pool is a multiple of 8; what
-- is published asks for nothing, since it goes into a slice that was reserved for as many bytes
abbrev pub HasLengths : Act → Type 0
HasLengths (by_desk (raise size)) = size % 8 ≡ 0
HasLengths (by_desk (offer user len source must content)) = IsLength len
HasLengths (by_desk (post image)) = IsLength (length image)
HasLengths (by_desk (settle images)) = HaveLengths images
HasLengths _ = Unit {0}
