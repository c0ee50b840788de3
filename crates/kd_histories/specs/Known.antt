-- What the desk's list says of seats, once its entries are true and come from the passes that have
-- their seats.
use Rattle.std.specs.Prelude.{◌≡◌, ◌≢◌, ◌<◌, ◌≤◌, ℕ, suc, Bool, true, false, List, [], ◌∷◌, Option, Some, None, ◌+◌, length}
use Rattle.kd_types.specs.declared.creds.Kind.{Kind}
use Rattle.kd_model.specs.Words.{contains}
use Rattle.kd_acts.specs.State.{Answer, Visit, by_desk}
use Rattle.kd_acts.specs.Lasting.{is_open, open_after}
use Rattle.kd_commands.specs.Seating.{AreSeated, IsPlaced, is_live}
use Rattle.kd_hands.specs.Locks.{Histories}
use Rattle.kd_histories.specs.Turns.{Turn}
use Rattle.kd_histories.specs.Slots.{AreTold, Slot, slot_of, unborn, has_bus}
use Rattle.kd_histories.specs.Visits.{addressed, visits_made}
use Rattle.kd_histories.specs.Seats.{AreFair, Sitter, sitter}
use Rattle.kd_histories.specs.Pools.{hold_of}
use Rattle.kd_histories.specs.Tie.{Tie}

-- whether a pool is open after visits that were answered so
unfoldable pub open_by : List (Visit × Answer) → Bool → Bool
open_by [] was = was
open_by (x ∷ xs) was = open_by xs (open_after (by_desk x.0) x.1 was)

-- a sitter of the slot's bus is its connection at the seat, live, or gone while the seat waits for
-- it; the seat waits for a sitter of a bus that is no more
pub record IsSeated (s : Slot) (c : ℕ) (t : Sitter) : Type 0 where
  pub low : c < 64
  pub past : t.generation ≤ s.generation
  pub now : t.generation ≡ s.generation → (kind : Kind) × IsPlaced s.desk t.id c kind
  pub before : t.generation ≢ s.generation → contains c s.desk.blocked ≡ true

-- the desk is seated, each sitter has its seat there, and the pools that the entries leave open are
-- those of the live connections
pub record Knows (s : Slot) (k : ℕ → Option Sitter) (up : ℕ → Bool) : Type 0 where
  pub seated : AreSeated s.desk
  pub placed : (c : ℕ) (t : Sitter) → k c ≡ Some t → IsSeated s c t
  pub live : (c : ℕ) → up c ≡ is_live s.desk c

-- so it is along every such list
abbrev pub ListsKnow : Type 0
ListsKnow =
    (list : List (ℕ × Turn)) → AreTold unborn list → ((c : ℕ) → AreFair c None list)
    → Knows (slot_of list) (λ c. sitter c list) (λ c. open_by (addressed c unborn list) false)

-- the next id is at most one more than the list has entries
abbrev pub IdsAreFew : Type 0
IdsAreFew =
    (list : List (ℕ × Turn)) → AreTold unborn list → ((c : ℕ) → AreFair c None list)
    → (slot_of list).desk.next_id ≤ length list + 1

-- and without a bus nobody is a connection
abbrev pub NobodyWithoutBus : Type 0
NobodyWithoutBus =
    (list : List (ℕ × Turn)) → AreTold unborn list → ((c : ℕ) → AreFair c None list)
    → has_bus (slot_of list).generation ≡ false → (slot_of list).desk.conns ≡ []

-- ---- whenever nobody holds the desk

-- each pool was made exactly what the desk's list addresses to it, in order, each once
abbrev pub ExactlyAddressed : Type 0
ExactlyAddressed =
    (h : Histories Turn) (c : ℕ) → Tie h → h.opened ≡ []
    → visits_made (h.lists (suc c)) ≡ addressed c unborn (h.lists 0)

-- and the open pools are those of the live connections
abbrev pub OpenAreLive : Type 0
OpenAreLive =
    (h : Histories Turn) (c : ℕ) → Tie h → h.opened ≡ []
    → is_open (hold_of (h.lists (suc c))) ≡ is_live (slot_of (h.lists 0)).desk c
