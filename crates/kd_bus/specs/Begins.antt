-- What is told where a bus comes or goes.
use Rattle.std.specs.Prelude.{◌≡◌, ◌||◌, ℕ, zero, suc, Bool, true, false, List, [], ◌∷◌, ◌++◌}
use Rattle.kd_model.specs.Words.{contains}
use Rattle.kd_acts.specs.State.{close}
use Rattle.kd_commands.specs.State.{Desk}
use Rattle.kd_commands.specs.Plans.{Part}
use Rattle.kd_commands.specs.Seating.{is_live}
use Rattle.kd_hands.specs.declared.views.View.{View}
use Rattle.kd_hands.specs.Views.{part}
use Rattle.kd_histories.specs.Turns.{Did, Turn, started}
use Rattle.kd_histories.specs.Slots.{Slot, next_odd, slot_of}
use Rattle.kd_bus.specs.Leaving.{LeavesDesk, TakesDesk}
use Rattle.kd_bus.specs.Visited.{AreVisits, MadeVisits}

-- the pool of a seat is closed, whatever waits in it
abbrev pub shutting : ℕ → Part
shutting s = record { seat = s; act = close true }

-- those of the live connections on the seats below a limit, by rising seat
abbrev pub shut_below : ℕ → Desk → List Part
shut_below zero d = []
shut_below (suc n) d = shut_below n d ++ elim (is_live d n) [ true ↦ shutting n ∷ [] | false ↦ [] ]

-- a live connection has the seat, or it waits for its caller
abbrev pub is_taken : Desk → ℕ → Bool
is_taken d s = contains s d.blocked || is_live d s

-- the pass, which held the desk of the slot s, closed the pools of all its connections, and left it
-- with the entry of a new bus
pub record Begins (s : Slot) (generation creator size hashes : ℕ) (v v' : View Turn) : Type 0 where
  pub entries : List Did
  pub then : View Turn
  pub is : generation ≡ next_odd s.generation
  pub each : AreVisits (shut_below 64 s.desk) entries v then
  pub made : MadeVisits (shut_below 64 s.desk) entries v then
  pub left :
      LeavesDesk
      (started (record {
        generation = generation;
        creator = creator;
        size = size;
        hashes = hashes;
      })) then v'

-- a bus began in the slot, where the desk stood when the pass took it
pub record Starts (generation creator size hashes : ℕ) (v v' : View Turn) : Type 0 where
  pub taken : View Turn
  pub takes : TakesDesk v taken
  pub begins : Begins (slot_of (part taken 0).seen) generation creator size hashes taken v'
