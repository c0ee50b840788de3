-- What each thread of a load sends: thread i sends as the connection of the id i.
use Rattle.std.specs.Prelude.{ℕ, zero, suc, ◌+◌, ◌*◌, ◌/◌, ◌%◌, ◌^◌, ◌==◌, true, false, List, [], ◌∷◌, flat_map}
use Rattle.std.specs.List.{range_with_len}
use Rattle.kd_load.specs.declared.message.Message.{Message}
use Rattle.kd_load.specs.declared.message.Target.{Target}
use Rattle.kd_load.specs.declared.message.Target.TheVariants.{All, One}

-- ---- the draws

-- the state before a thread's first draw, of 64 bits
abbrev pub first_state : ℕ → ℕ → ℕ
first_state seed i = (seed + i) % 2 ^ 64

-- the state behind a draw
abbrev pub next_state : ℕ → ℕ
next_state x = (x * 6364136223846793005 + 1442695040888963407) % 2 ^ 64

-- and the number that was drawn
abbrev pub number_drawn : ℕ → ℕ
number_drawn x = x / 2 ^ 33

-- ---- the messages

-- by two numbers that were drawn: every fourth goes to all whose rule has a digit, the others to
-- one of so many ids
abbrev pub target : ℕ → ℕ → ℕ → Target
target threads a b = elim (a % 4 == 0) [ true ↦ All (b % 8) | false ↦ One (1 + b % threads) ]

-- a message takes two draws
abbrev pub state_behind : ℕ → ℕ
state_behind x = next_state (next_state x)

-- the message of this number, by the state before its draws
abbrev pub message_at : (threads sender state number : ℕ) → Message
message_at threads sender x n = record {
  sender = sender;
  number = n;
  target =
      target threads (number_drawn (next_state x)) (number_drawn (next_state (next_state x)));
}

-- so many messages, from a state and a number on
unfoldable pub messages : (threads sender count state number : ℕ) → List Message
messages threads sender zero x n = []
messages threads sender (suc count) x n =
    message_at threads sender x n ∷ messages threads sender count (state_behind x) (n + 1)

-- those of thread i, numbered from 1 on
abbrev pub messages_of : (seed threads sends i : ℕ) → List Message
messages_of seed threads sends i = messages threads i sends (first_state seed i) 1

-- those of all threads, which are numbered from 1 on
unfoldable pub load : (seed threads sends : ℕ) → List Message
load seed threads sends = flat_map (messages_of seed threads sends) (range_with_len 1 threads)
