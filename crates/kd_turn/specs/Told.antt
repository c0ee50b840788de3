-- What each step and each call tells, and what is known once a gate is closed.
use Rattle.std.specs.Prelude.{◌≡◌, ◌≢◌, ℕ, ◌+◌, ◌*◌, ◌/◌, ◌%◌, ◌^◌, ◌<◌, ◌≤◌, true, false, List, [], ◌∷◌, ◌++◌, map, length, slice_index, Some}
use mathlib.Core.Option.{some}
use mathlib.Core.List.{IsPrefix}
use lib.ListN.{get_elem?}
use Rattle.atomic_table.specs.Table.{Me, Step}
use Rattle.atomic_table.specs.Seated.{TableId}
use Rattle.kd_turn.specs.declared.views.Cell.{Cell}
use Rattle.kd_hands.specs.declared.views.View.{View}
use Rattle.kd_hands.specs.Lists.{made_by, hand_without}
use Rattle.kd_hands.specs.Views.{blank, part, hand, drawn, holding, part_passed, passed_on, marked, cleared}
use Rattle.kd_turn.specs.Sight.{Sight}
use Rattle.kd_hands.specs.Fits.{Stood}
use Rattle.kd_hands.specs.Locks.{Locks, opened_after}

module _ {X E : Type 0} where
  -- the pass has the ticket that it found
  abbrev pub drew : Step (Cell X E) → Me (Cell X E) (View E) → ℕ → Me (Cell X E) (View E) → Type 0
  drew st m r m' = m' ≡ (drawn st.word r m.0, m.1)

  -- what a pass of the view v finds when it gains the lock l: the value x stands for the lock's
  -- whole list
  pub record Gains (stands : ℕ → List (ℕ × E) → X → Type 0) (fact : Locks E → Type 0) (l : ℕ)
      (v : View E) (list : List (ℕ × E)) (x : X) : Type 0 where
    pub value : stands l list x
    pub begins : IsPrefix (part v l).seen list
    pub mine : made_by v.name list ≡ (part v l).own
    pub short : length list < 2 ^ 53
    pub unswept : (part v l).swept ≡ []
    pub shut : (part v 0).holds ≡ false → v.opened ≡ []
    pub stood : Stood fact (holding l list v)

  -- the pass of the seat m gained the lock, and carries a slot of it
  abbrev pub Gained :
      (ℕ → List (ℕ × E) → X → Type 0) → (Locks E → Type 0) → ℕ → X → Cell X E
      → Me (Cell X E) (View E) → Me (Cell X E) (View E) → Type 0
  Gained stands fact l x y m m' =
      (list : List (ℕ × E)) × (m' ≡ (holding l list m.0, (l, y) ∷ m.1))
      × Gains stands fact l m.0 list x

  -- where its ticket is served the pass gains the lock, and else nothing changes
  abbrev pub looked :
      (ℕ → List (ℕ × E) → X → Type 0) → (Locks E → Type 0) → Step (Cell X E)
      → Me (Cell X E) (View E) → ℕ → Me (Cell X E) (View E) → Type 0
  looked stands fact st m r m' = (l : ℕ) → st.word ≡ st.slots + l
      → ((part m.0 l).ticket ≡ Some r
      → (x : X) × (y : Cell X E) × (y.value ≡ Some x) × Gained stands fact l x y m m')
      × ((part m.0 l).ticket ≢ Some r → m' ≡ m)

  -- the entry lies in the slot, which goes home
  abbrev pub passed :
      (ℕ → E → (ℕ → List ℕ) → ℕ → List ℕ) → Step (Cell X E) → Me (Cell X E) (View E) → ℕ
      → Me (Cell X E) (View E) → Type 0
  passed after st m r m' =
      (l : ℕ) (y : Cell X E) (e : E) (c : List (ℕ × Cell X E)) → st.word ≡ st.slots + l
      → m.1 ≡ (l, y) ∷ c → y.entry ≡ Some e
      → m' ≡ (passed_on after l e m.0, c)

  -- the number is marked, and leaves the hand
  abbrev pub sets_mark :
      Step (Cell X E) → Me (Cell X E) (View E) → ℕ → Me (Cell X E) (View E) → Type 0
  sets_mark st m r m' =
      (l n : ℕ) → n < 256 → st.word ≡ 2 * st.slots + (4 * l + n / 64) → st.first ≡ 2 ^ (n % 64)
      → m' ≡ (marked l n m.0, m.1)

  -- the marks belong to this turn
  abbrev pub swept_up :
      Step (Cell X E) → Me (Cell X E) (View E) → ℕ → Me (Cell X E) (View E) → Type 0
  swept_up st m r m' =
      (l q : ℕ) → q < 4 → st.word ≡ 2 * st.slots + (4 * l + q) → m' ≡ (cleared l (q, r) m.0, m.1)

module _ {X E : Type 0} where
  -- A pass took the lock l, and has its value x
  pub record Took (stands : ℕ → List (ℕ × E) → X → Type 0) (fact : Locks E → Type 0) (l : ℕ)
      (v v' : View E) (x : X) : Type 0 where
    pub value : stands l (part v' l).seen x
    pub begins : IsPrefix (part v l).seen (part v' l).seen
    pub mine : made_by v.name (part v' l).seen ≡ (part v l).own
    pub own : (part v' l).own ≡ (part v l).own
    pub holds : (part v' l).holds ≡ true
    pub swept : (part v' l).swept ≡ []
    pub others : (k : ℕ) → k ≢ l → part v' k ≡ part v k
    pub short : length (part v' l).seen < 2 ^ 53
    pub turns : v'.turns ≡ v.turns + 1
    pub steps : v'.steps ≡ v.steps
    pub name : v'.name ≡ v.name
    pub hands : v'.hands ≡ v.hands
    pub opened : v'.opened ≡ v.opened
    pub shut : (part v 0).holds ≡ false → v'.opened ≡ []
    -- what stood in the lists of all locks when the pass got its turn
    pub stood : Stood fact v'

-- A pass passed the lock l on, with the entry e
pub record Passed {E : Type 0} (after : ℕ → E → (ℕ → List ℕ) → ℕ → List ℕ) (l : ℕ) (e : E)
    (v v' : View E) : Type 0 where
  pub here : part v' l ≡ part_passed l e v
  pub others : (k : ℕ) → k ≢ l → part v' k ≡ part v k
  pub turns : v'.turns ≡ v.turns
  pub steps : v'.steps ≡ v.steps
  pub name : v'.name ≡ v.name
  pub hands : (k : ℕ) → hand v' k ≡ after l e (hand v) k
  pub opened : v'.opened ≡ opened_after l (v.name, e) (part v 0).holds v.opened

-- a pass that has seen nothing
pub record IsFresh {E : Type 0} (name : ℕ) (v : View E) : Type 0 where
  pub name_is : v.name ≡ name
  pub parts : (l : ℕ) → part v l ≡ blank
  pub hands : (l : ℕ) → hand v l ≡ []
  pub opened : v.opened ≡ []
  pub turns : v.turns ≡ 0
  pub steps : v.steps ≡ 0

-- passes that have seen nothing, in the order of their numbers
abbrev pub AreFresh : {E : Type 0} → TableId → List (Sight E) → Type 0
AreFresh {E} id all =
    (k : ℕ) (s : Sight E) → get_elem? all k ≡ some s
    → (s.gate ≡ id) × (s.held ≡ []) × IsFresh k s.view

-- A pass marked the number n of the lock l, which left its hand
pub record Marked {E : Type 0} (l n : ℕ) (v v' : View E) : Type 0 where
  pub hand_is : hand v' l ≡ hand_without n (hand v l)
  pub other_hands : (k : ℕ) → k ≢ l → hand v' k ≡ hand v k
  pub steps : v'.steps ≡ v.steps + 1
  pub parts : v'.parts ≡ v.parts
  pub turns : v'.turns ≡ v.turns
  pub name : v'.name ≡ v.name
  pub opened : v'.opened ≡ v.opened

-- A pass swept the four mark words of the lock l, and found these
pub record DidSweep {E : Type 0} (l : ℕ) (found : List ℕ) (v v' : View E) : Type 0 where
  pub here :
      part v' l
      ≡ record (part v l) {
        swept =
            (part v l).swept ++ (0, slice_index found 0) ∷ (1, slice_index found 1)
            ∷ (2, slice_index found 2) ∷ (3, slice_index found 3) ∷ [];
      }
  pub others : (k : ℕ) → k ≢ l → part v' k ≡ part v k
  pub hands : v'.hands ≡ v.hands
  pub turns : v'.turns ≡ v.turns
  pub steps : v'.steps ≡ v.steps
  pub name : v'.name ≡ v.name
  pub opened : v'.opened ≡ v.opened

-- a pass of this gate that holds no lock
abbrev pub IsIdle : {E : Type 0} → TableId → Sight E → Type 0
IsIdle id p = (p.gate ≡ id) × (p.held ≡ [])

-- The view u is that of the last of these passes, which has taken in the others
pub record Gathered {E : Type 0} (all : List (Sight E)) (u : View E) : Type 0 where
  pub rest : List (Sight E)
  pub last : Sight E
  pub are : all ≡ rest ++ last ∷ []
  pub now :
      u ≡ record last.view { back = map (λ p. (p.view.name, p.view.parts)) rest ++ last.view.back }
  pub live : last.view.live ≡ true
  pub idle : (l : ℕ) → (part last.view l).holds ≡ false

-- What is known of the lists once all passes are taken in: `known` is what each of them knew
pub record Ended {X E : Type 0} (stands : ℕ → List (ℕ × E) → X → Type 0) (fact : Locks E → Type 0)
    (passes : ℕ)
    (known : List (View E)) (values : List X) : Type 0 where
  pub world : Locks E
  -- each value stands for the whole list of its lock
  pub stood : (l : ℕ) (x : X) → get_elem? values l ≡ some x → stands l (world.told.lists l) x
  -- what each pass has seen begins the list, and its own entries are those that the list has of it
  pub begins :
      (k : ℕ) (v : View E) → get_elem? known k ≡ some v → (l : ℕ)
      → IsPrefix (part v l).seen (world.told.lists l)
  pub own :
      (k : ℕ) (v : View E) → get_elem? known k ≡ some v → (l : ℕ)
      → made_by v.name (world.told.lists l) ≡ (part v l).own
  -- no other pass made any
  pub nobody : (j l : ℕ) → passes ≤ j → made_by j (world.told.lists l) ≡ []
  pub tied : fact world
  pub shut : world.told.opened ≡ []
