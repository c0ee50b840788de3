-- What the desk's list addresses to the pool of a seat, and what a pool's list has of it: visits,
-- each with its answer.
use Rattle.std.specs.Prelude.{◌≡◌, ℕ, ◌==◌, true, false, cond, List, [], ◌∷◌, ◌++◌, map}
use Rattle.kd_acts.specs.State.{Act, Answer, Visit, by_desk, done}
use Rattle.kd_commands.specs.declared.conn.Conn.{Conn}
use Rattle.kd_commands.specs.State.{Desk}
use Rattle.kd_commands.specs.Leaving.{closing}
use Rattle.kd_commands.specs.Plans.{Part}
use Rattle.kd_commands.specs.Visits.{parts_visited}
use Rattle.kd_world.specs.Addressed.{desk_entry, visited_by}
use Rattle.kd_histories.specs.Turns.{Left, Turn, left, started, removed, did, idle}
use Rattle.kd_histories.specs.Slots.{Slot, parts_left, planned, slot_after}

-- a part with its answer, where it is the seat's
abbrev pub visit_at : ℕ → Part → Answer → List (Visit × Answer)
visit_at c p o = elim (p.seat == c) [ true ↦ (p.act, o) ∷ [] | false ↦ [] ]

-- the seat's, of as many parts as have answers
unfoldable pub visits_at : ℕ → List Part → List Answer → List (Visit × Answer)
visits_at c [] outs = []
visits_at c (p ∷ ps) [] = []
visits_at c (p ∷ ps) (o ∷ outs) = visit_at c p o ++ visits_at c ps outs

-- ---- what the desk's list addresses

-- by rising seat the pool of each connection is closed, whatever waits in it
abbrev pub closings : Desk → List Part
closings d = map (closing true) d.conns

-- which no pool refuses
abbrev pub all_done : Desk → List Answer
all_done d = map (λ (c : Conn). done) d.conns

-- one entry to the seat: a settle has the messages that were drained; where a bus goes, it is
-- closed as its maker's CLOSE does it
unfoldable pub addressed_by : ℕ → Slot → Turn → List (Visit × Answer)
addressed_by c s (left l) = visits_at c (parts_visited [] (parts_left s l) l.outs) l.outs
addressed_by c s (started b) = visits_at c (closings s.desk) (all_done s.desk)
addressed_by c s (removed generation) = visits_at c (closings s.desk) (all_done s.desk)
addressed_by c s (did d) = []
addressed_by c s idle = []

-- and a list, from a slot on
unfoldable pub addressed : ℕ → Slot → List (ℕ × Turn) → List (Visit × Answer)
addressed c s [] = []
addressed c s (x ∷ xs) = addressed_by c s x.1 ++ addressed c (slot_after x.1 s) xs

-- of a command the visits alone are those that its planner gives a desk's history
abbrev pub AddressedAsPlanned : Type 0
AddressedAsPlanned =
    (c : ℕ) (s : Slot) (pass : ℕ) (l : Left)
    → map (λ (x : Visit × Answer). x.0) (addressed_by c s (left l))
    ≡ visited_by (planned s.generation l.aim) s.desk c (desk_entry pass l.who l.command l.outs)

-- ---- what a pool's list has of it

-- an act is a visit, or none
unfoldable pub visit_made : Act → Answer → List (Visit × Answer)
visit_made (by_desk v) a = (v, a) ∷ []
visit_made _ a = []

-- so is an entry
unfoldable pub made_by_turn : Turn → List (Visit × Answer)
made_by_turn (did d) = visit_made d.act d.answer
made_by_turn _ = []

-- the visits of a list
unfoldable pub visits_made : List (ℕ × Turn) → List (Visit × Answer)
visits_made [] = []
visits_made (x ∷ xs) = made_by_turn x.1 ++ visits_made xs

-- of the entries that the holder of the desk has made since it took it, those on the lock l
unfoldable pub visits_opened : ℕ → List (ℕ × ℕ × Turn) → List (Visit × Answer)
visits_opened l [] = []
visits_opened l (x ∷ xs) = cond (x.0 == l) (made_by_turn x.2) [] ++ visits_opened l xs
