-- What each act on a pool raises of each of its counts.
use Rattle.std.specs.Prelude.{◌≡◌, ◌≤◌, ◌+◌, ℕ, Bool, true, false, List, length, Some, option_map, Option}
use Rattle.kd_acts.specs.State.{Act, Answer, Hold, Pool, by_desk, close, offer, post, publish, raise, settle}
use Rattle.kd_acts.specs.Steps.{after, answer}

-- how many messages an act may place, each of which is queued, reserved or missed
abbrev pub messages_in : Act → ℕ
messages_in (by_desk (offer user len source must content)) = 1
messages_in (by_desk (post image)) = 1
messages_in (by_desk (settle images)) = length images
messages_in (publish generation number content) = 1
messages_in _ = 0

-- how many offers it is
abbrev pub offers_in : Act → ℕ
offers_in (by_desk (offer user len source must content)) = 1
offers_in _ = 0

-- what was offered is counted exactly; arrivals and misses go on by no more than there are
-- messages; and the size stays
pub record GoesOnBy (a : Act) (p q : Pool) : Type 0 where
  pub size : q.size ≡ p.size
  pub offered : q.offered ≡ p.offered + offers_in a
  pub arrivals : p.next_arrival ≤ q.next_arrival
  pub few_arrivals : q.next_arrival ≤ p.next_arrival + messages_in a
  pub few_dropped : q.dropped ≤ p.dropped + messages_in a

abbrev pub is_raise : Act → Bool
is_raise (by_desk (raise size)) = true
is_raise _ = false

-- of a pool that is open before and after an act that doesn't raise it anew
abbrev pub CountsGoOn : Type 0
CountsGoOn =
    (h : Hold) (a : Act) (p q : Pool) → h.pool ≡ Some p → (after h a).pool ≡ Some q
    → is_raise a ≡ false → GoesOnBy a p q

-- generations go on by one at most
abbrev pub GenerationsGoOn : Type 0
GenerationsGoOn =
    (h : Hold) (a : Act)
    → (h.generation ≤ (after h a).generation) × ((after h a).generation ≤ h.generation + 1)
