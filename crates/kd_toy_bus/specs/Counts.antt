-- The hands of the passes of a counter, and the turns of a round.
use Rattle.std.specs.Prelude.{ℕ, ◌==◌, cond, List, ◌∷◌, Option, Some, None}

-- the hand after a turn that lent this number, or none
abbrev pub counted_hand : Option ℕ → List ℕ → List ℕ
counted_hand None hand = hand
counted_hand (Some n) hand = n ∷ hand

-- a round takes a turn on lock 0, and one on the other lock if it is another
abbrev pub turns_of_round : ℕ → ℕ
turns_of_round lock = cond (lock == 0) 1 2
