-- Sound pools stay sound, after each act and along lists of acts.
use Rattle.std.specs.Prelude.{◌≡◌, IfSome, Bool, true, false, List}
use Rattle.std.specs.List.{AllByRecursion}
use Rattle.kd_acts.specs.Sound.{IsSoundPool}
use Rattle.kd_acts.specs.State.{Act, Answer, Hold, Image, by_desk, drain, drained, offer, post, raise, slice}
use Rattle.kd_acts.specs.Steps.{after, answer}
use Rattle.kd_numbers.specs.Lists.{acted}
use Rattle.kd_sound.specs.Lengths.{HasLengths, HaveLengths}

-- an open pool is sound
abbrev pub IsSoundHold : Hold → Type 0
IsSoundHold h = IfSome h.pool IsSoundPool

-- it is after each act
abbrev pub ActsKeepPoolsSound : Type 0
ActsKeepPoolsSound =
    (h : Hold) (a : Act) → HasLengths a → IsSoundHold h → IsSoundHold (after h a)

-- and along every list of acts
abbrev pub PoolsAreSound : Type 0
PoolsAreSound =
    (h : Hold) (acts : List Act) → AllByRecursion HasLengths acts → IsSoundHold h
    → IsSoundHold (acted h acts)

-- what a drain takes out can settle
abbrev pub DrainedHaveLengths : Type 0
DrainedHaveLengths =
    (h : Hold) (images : List Image) → IsSoundHold h
    → answer h (by_desk drain) ≡ drained images → HaveLengths images

-- ---- no other lengths

-- the act raised a pool, or placed what it brought
abbrev pub is_put : Act → Answer → Bool
is_put (by_desk (raise size)) a = true
is_put (by_desk (offer user len source must content)) (slice n) = true
is_put (by_desk (post image)) (slice n) = true
is_put _ a = false

-- where the pool is sound after that, it had these lengths
abbrev pub OnlyLengthsKeepPoolsSound : Type 0
OnlyLengthsKeepPoolsSound =
    (h : Hold) (a : Act) → is_put a (answer h a) ≡ true → IsSoundHold (after h a)
    → HasLengths a
