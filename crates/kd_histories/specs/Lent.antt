-- The numbers that the pools' lists lend, and whose hands they come to.
use Rattle.std.specs.Prelude.{◌≡◌, ℕ, zero, suc, true, cond, List, ◌∷◌, Option, Some, None}
use Rattle.kd_acts.specs.declared.receive.RecvMode.{RecvMode}
use Rattle.kd_acts.specs.State.{Act, Answer, Hold, got, receive}
use Rattle.kd_acts.specs.Lasting.{hands_over, is_handed_in, is_open}
use Rattle.kd_histories.specs.Turns.{Turn, left, started, removed, did, idle}
use Rattle.kd_histories.specs.Seats.{Move, arrives, departs, stays, move_of}
use Rattle.kd_histories.specs.Pools.{hold_of}

-- a closed pool lends every number, an open one those that are received and not freed
abbrev pub IsLent : Hold → ℕ → Type 0
IsLent h n = is_open h ≡ true → is_handed_in n h ≡ true

-- the desk lends none
unfoldable pub lends : ℕ → List (ℕ × Turn) → ℕ → Type 0
lends zero list n = ⊥
lends (suc c) list n = IsLent (hold_of list) n

-- and a closed pool has none of them out
unfoldable pub out : ℕ → List (ℕ × Turn) → ℕ → Type 0
out zero list n = ⊥
out (suc c) list n = is_handed_in n (hold_of list) ≡ true

-- a receive that doesn't only look, and drops nothing, brings its number into the hand
abbrev pub hand_received : RecvMode → Answer → List ℕ → List ℕ
hand_received mode (got n offset len dropped) hand = cond (hands_over mode) (n ∷ hand) hand
hand_received mode _ hand = hand

-- no other act changes a hand
abbrev pub hand_by_act : Act → Answer → List ℕ → List ℕ
hand_by_act (receive mode) a hand = hand_received mode a hand
hand_by_act _ a hand = hand

-- the hand of a lock after an entry on it
unfoldable pub hand_by : Turn → List ℕ → List ℕ
hand_by (did d) hand = hand_by_act d.act d.answer hand
hand_by (left l) hand = hand
hand_by (started b) hand = hand
hand_by (removed generation) hand = hand
hand_by idle hand = hand

-- whichever lock it is
abbrev pub hand_after : ℕ → Turn → List ℕ → List ℕ
hand_after l e hand = hand_by e hand

-- who leaves a seat empties the hand of its pool
abbrev pub emptied_by : Move → Option ℕ
emptied_by (departs s) = Some (suc s)
emptied_by (arrives generation id s) = None
emptied_by stays = None

-- of an entry of the desk, the lock whose hand it empties
abbrev pub empties : Turn → Option ℕ
empties e = emptied_by (move_of e)
