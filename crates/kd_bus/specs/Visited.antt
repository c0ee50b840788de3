-- What the holder of the desk tells of its visits.
use Rattle.std.specs.Prelude.{◌≡◌, ◌≢◌, ◌+◌, ◌<◌, ℕ, suc, ◌==◌, Bool, true, false, List, [], ◌∷◌, ◌++◌, length, map, Some, None}
use mathlib.Core.List.{IsPrefix}
use Rattle.kd_model.specs.Words.{contains}
use Rattle.kd_acts.specs.State.{Act, Answer, Content, Visit, by_desk, offer, raise, slice}
use Rattle.kd_tables.specs.declared.part.Part as code
use Rattle.kd_tables.specs.Drafts.{seat_in}
use Rattle.kd_commands.specs.Plans.{Part}
use Rattle.kd_commands.specs.Visits.{next_part, parts_visited}
use Rattle.kd_world.specs.State.{Pending}
use Rattle.kd_hands.specs.declared.views.View.{View}
use Rattle.kd_hands.specs.Lists.{is_word_of, was_swept}
use Rattle.kd_hands.specs.Views.{part, hand}
use Rattle.kd_turn.specs.Sight.{GateSight, Sight}
use Rattle.kd_bus.specs.Slips.{words_in}
use Rattle.kd_histories.specs.Turns.{Did, Turn, did}
use Rattle.kd_histories.specs.Visits.{visit_at, visits_at, visits_opened}
use Rattle.kd_histories.specs.Seats.{sitter}
use Rattle.kd_histories.specs.Pairs.{owed}
use Rattle.kd_histories.specs.Pools.{IsDone, hold_of, marked_numbers}

-- ---- the marks that a visit sweeps

-- the pass swept the lock that it holds before a visit, or didn't where the visit sweeps nothing
pub record HasSwept (l : ℕ) (sweeps : Bool) (marks : List ℕ) (v v' : View Turn) : Type 0 where
  pub seen : (part v' l).seen ≡ (part v l).seen
  pub own : (part v' l).own ≡ (part v l).own
  pub holds : (part v' l).holds ≡ (part v l).holds
  pub frees : (n : ℕ) → contains n (marked_numbers (words_in marks)) ≡ was_swept n (part v' l).swept
  pub all : sweeps ≡ true → (n : ℕ) → n < 256 → is_word_of n (part v' l).swept ≡ true
  pub none : sweeps ≡ false → marked_numbers (words_in marks) ≡ []
  pub others : (k : ℕ) → k ≢ l → part v' k ≡ part v k
  pub hands : v'.hands ≡ v.hands
  pub turns : v'.turns ≡ v.turns
  pub steps : v'.steps ≡ v.steps
  pub name : v'.name ≡ v.name
  pub opened : v'.opened ≡ v.opened

-- ---- visits while the desk is held

-- a pass that holds the desk alone
pub record HasDesk (gate : GateSight) (p : Sight Turn) : Type 0 where
  pub same : p.gate ≡ gate.id
  pub locks : gate.locks ≡ 65
  pub held : p.held ≡ 0 ∷ []
  pub desk : (part p.view 0).holds ≡ true
  pub others : (k : ℕ) → k ≢ 0 → (part p.view k).holds ≡ false

-- it took one turn on the pool of the seat s, and its entry tells this
pub record OneVisit (s : ℕ) (vis : Visit) (d : Did) (v v' : View Turn) : Type 0 where
  pub low : s < 64
  pub list : List (ℕ × Turn)
  pub act : d.act ≡ by_desk vis
  pub is : IsDone (hold_of list) d
  pub begins : IsPrefix (part v (suc s)).seen list
  pub seen : (part v' (suc s)).seen ≡ list ++ (v.name, did d) ∷ []
  pub own : (part v' (suc s)).own ≡ (part v (suc s)).own ++ (v.name, did d) ∷ []
  pub others : (k : ℕ) → k ≢ suc s → part v' k ≡ part v k
  -- what the pass had yet to publish there it still has
  pub owes :
      (g n : ℕ) (c : Content) → owed g n (part v (suc s)).own ≡ Some c
      → owed g n (part v' (suc s)).own ≡ Some c
  pub opened :
      (c : ℕ)
      → visits_opened (suc c) v'.opened
      ≡ visits_opened (suc c) v.opened ++ visit_at c (record { seat = s; act = vis }) d.answer
  pub hands : (k : ℕ) → hand v' k ≡ hand v k
  pub name : v'.name ≡ v.name
  pub turns : v'.turns ≡ v.turns + 1
  pub steps : v'.steps ≡ v.steps

-- and the pool answered this, at this generation
pub record HasVisit (s : ℕ) (vis : Visit) (o : Answer) (generation : ℕ) (v v' : View Turn)
    : Type 0 where
  pub entry : Did
  pub visit : OneVisit s vis entry v v'
  pub answer_is : entry.answer ≡ o
  pub generation_is : entry.generation ≡ generation

-- a part's seat is one of 64
abbrev pub HasSeat : code.Part → Type 0
HasSeat p = seat_in p < 64

-- where the next part opens a pool, nobody sits there
abbrev pub RaisesFree : List Part → List (ℕ × Turn) → Type 0
RaisesFree ps list =
    (outs : List Answer) (q : Part) (size : ℕ) → next_part [] ps outs ≡ Some q → q.act ≡ raise size
    → sitter q.seat list ≡ None

-- visits one after the other, each with its entry
abbrev pub AreVisits : List Part → List Did → View Turn → View Turn → Type 0
AreVisits [] [] v v' = v' ≡ v
AreVisits (q ∷ qs) [] v v' = ⊥
AreVisits [] (d ∷ ds) v v' = ⊥
AreVisits (q ∷ qs) (d ∷ ds) v v' =
    (w : View Turn) × OneVisit q.seat q.act d v w × AreVisits qs ds w v'

-- the answers and generations of entries
abbrev pub answers_in : List Did → List Answer
answers_in ds = map (λ (d : Did). d.answer) ds

abbrev pub generations_in : List Did → List ℕ
generations_in ds = map (λ (d : Did). d.generation) ds

-- as many parts of a plan were visited as have answers, each with what was drained before it
pub record VisitedAll (ps : List Part) (os : List Answer) (generations : List ℕ) (v v' : View Turn)
    : Type 0 where
  pub entries : List Did
  pub each : AreVisits (parts_visited [] ps os) entries v v'
  pub answers : answers_in entries ≡ os
  pub generations_are : generations_in entries ≡ generations

-- ---- what follows of visits

-- the entries of visits at the seat c, which the pass j made
abbrev pub entry_at : ℕ → ℕ → Part → Did → List (ℕ × Turn)
entry_at j c p d = elim (p.seat == c) [ true ↦ (j, did d) ∷ [] | false ↦ [] ]

abbrev pub entries_at : ℕ → ℕ → List Part → List Did → List (ℕ × Turn)
entries_at j c [] ds = []
entries_at j c (p ∷ ps) [] = []
entries_at j c (p ∷ ps) (d ∷ ds) = entry_at j c p d ++ entries_at j c ps ds

-- an offer that was placed is pending, at the generation that its pool had
abbrev pub pending_by : ℕ → Act → Answer → ℕ → List Pending
pending_by seat (by_desk (offer user len source must c)) (slice n) generation =
    record { seat = seat; generation = generation; number = n; content = c } ∷ []
pending_by seat a o generation = []

abbrev pub pendings_by : List Part → List Did → List Pending
pendings_by [] ds = []
pendings_by (p ∷ ps) [] = []
pendings_by (p ∷ ps) (d ∷ ds) =
    pending_by p.seat (by_desk p.act) d.answer d.generation ++ pendings_by ps ds

-- their entries are the pass's own, seat by seat, and nothing else changed; what they placed the
-- pass has yet to publish
pub record MadeVisits (qs : List Part) (ds : List Did) (v v' : View Turn) : Type 0 where
  pub own : (c : ℕ) → (part v' (suc c)).own ≡ (part v (suc c)).own ++ entries_at v.name c qs ds
  pub desk : part v' 0 ≡ part v 0
  pub opened :
      (c : ℕ)
      → visits_opened (suc c) v'.opened
      ≡ visits_opened (suc c) v.opened ++ visits_at c qs (answers_in ds)
  pub hands : (k : ℕ) → hand v' k ≡ hand v k
  pub name : v'.name ≡ v.name
  pub turns : v'.turns ≡ v.turns + length ds
  pub steps : v'.steps ≡ v.steps
