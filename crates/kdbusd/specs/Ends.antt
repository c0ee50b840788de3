-- How a run ends, and what was read and written then, where the source and the sink tell it.
use Rattle.std.specs.Prelude.{◌⊎◌, ℕ, List, Option}
use Rattle.std.specs.Io.KnownBytes.{Keeps}
use Rattle.kd_types.specs.declared.status.Status.{Status}
use Rattle.kd_types.specs.declared.status.Status.TheVariants.{BadWords, ReadFault, TooMuchInput, OutOfMemory}
use Rattle.kd_replay.specs.Transcript.{ReplayResult}
use Rattle.kd_replay.specs.Ends.{HasReadTooMuch, WasReadToItsEnd}

-- the greatest number of bytes that a run takes
abbrev pub most_input : ℕ
most_input = 16777216

-- what a run read and wrote, by its end: nothing is written before the words were looked at and the
-- input was read to its end
abbrev pub IsEnd :
    Option (List ℕ) → Option (List ℕ) → Option (List ℕ) → Option (List ℕ) → Status → Type 0
IsEnd left_before left_after held_before held_after BadWords =
    Keeps left_before left_after × Keeps held_before held_after
IsEnd left_before left_after held_before held_after ReadFault = Keeps held_before held_after
IsEnd left_before left_after held_before held_after TooMuchInput =
    HasReadTooMuch most_input left_before left_after × Keeps held_before held_after
IsEnd left_before left_after held_before held_after OutOfMemory =
    Keeps held_before held_after
    ⊎ ((bytes : List ℕ) × WasReadToItsEnd left_before left_after bytes
    × ReplayResult bytes held_before held_after OutOfMemory)
IsEnd left_before left_after held_before held_after status =
    (bytes : List ℕ) × WasReadToItsEnd left_before left_after bytes
    × ReplayResult bytes held_before held_after status
