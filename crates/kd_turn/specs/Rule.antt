-- The rule of the turns. A gate of n locks has 6 n words: word l is the next ticket of the lock l,
-- word n + l the ticket that is served, and the words from 2 n + 4 l on are its four mark words.
use Rattle.std.specs.Prelude.{◌≡◌, ℕ, ◌+◌, ◌*◌, ◌^◌, ◌<◌, ◌≤◌, ◌==◌, Bool, true, false, cond, List, [], length, slice_index_or, Option, Some, None}
use Rattle.std.specs.List.{All, sum_by}
use mathlib.Core.Option.{some}
use mathlib.Core.Option as maybe
use mathlib.Core.List.{IsPrefix}
use lib.ListN.{get_elem?}
use Rattle.atomic_table.specs.Table.{State}
use Rattle.kd_turn.specs.declared.views.Cell.{Cell}
use Rattle.kd_hands.specs.declared.views.Part.{Part}
use Rattle.kd_hands.specs.declared.views.View.{View}
use Rattle.kd_hands.specs.Lists.{made_by, is_at}
use Rattle.kd_hands.specs.Views.{blank, part, hand, opening_view, spent}
use Rattle.kd_hands.specs.Locks.{Locks}

-- the slot of a free lock with this value before any turn
abbrev pub cell_of : {X E : Type 0} → X → Cell X E
cell_of x = record { value = Some x; entry = None }

-- what lies in the slot of a lock that a pass holds
abbrev pub hollow : {X E : Type 0} → Cell X E
hollow = record { value = None; entry = None }

-- what one lock has come to: its list, its next ticket and who drew each one, the pass that holds
-- it, and its mark words
pub record Lock (E : Type 0) : Type 0 where
  pub list : List (ℕ × E)
  pub next : ℕ
  pub drawer : ℕ → ℕ
  pub holder : Option ℕ
  pub marks : ℕ → ℕ

module _ {E : Type 0} where
  -- what is shown of what the pass j knows, where there are so many passes yet: the last has their
  -- count
  abbrev pub shows : ℕ → ℕ → View E → View E
  shows count j v = record v { made = cond (j + 1 == count) count 0 }

  -- how many turns they have taken together
  abbrev pub turns_of : List (View E) → ℕ
  turns_of vs = sum_by (λ v. v.turns) vs

  -- what is open stands in the view of the pass that holds lock 0
  abbrev pub opened_by : Option ℕ → (ℕ → List (ℕ × ℕ × E)) → List (ℕ × ℕ × E)
  opened_by None opened = []
  opened_by (Some j) opened = opened j

  -- the world where the locks have come to this, and the passes know this
  abbrev pub world_of : (ℕ → Lock E) → (ℕ → View E) → Locks E
  world_of locks passes = record {
    told = record {
      lists = λ l. (locks l).list;
      opened = opened_by (locks 0).holder (λ j. (passes j).opened);
    };
    holder = (locks 0).holder;
    hands = λ j l. hand (passes j) l;
    marks = λ l. (locks l).marks;
    swept = λ j l. (part (passes j) l).swept;
  }

-- the state of a gate of n locks, which has so many passes yet and may come to so many
pub record IsSized {S V : Type 0} (n count most : ℕ) (s : State S V) : Type 0 where
  pub slots : length s.homes ≡ n
  pub wide : length s.words ≡ 6 * n
  pub views : length s.views ≡ count
  pub few : count ≤ most
  pub fits : most ≤ 1024

-- of a gate of n locks, the pass j knows this
pub record IsPass {E : Type 0} (n j : ℕ) (v : View E) : Type 0 where
  pub name : v.name ≡ j
  pub turns : v.turns ≤ 2 ^ 43
  pub parts : length v.parts ≡ n
  pub hands : length v.hands ≡ n
  pub shut : (part v 0).holds ≡ false → v.opened ≡ []

-- what the rule says of the pass j at one lock
pub record SeatOk {E : Type 0} (lock : Lock E) (j : ℕ) (p : Part E) : Type 0 where
  pub begins : IsPrefix p.seen lock.list
  pub mine : made_by j lock.list ≡ p.own
  pub waits :
      (n : ℕ) → p.ticket ≡ Some n → (length lock.list ≤ n) × (n < lock.next) × (lock.drawer n ≡ j)
  pub here : p.holds ≡ true → (p.ticket ≡ Some (length lock.list)) × (p.seen ≡ lock.list)
  pub holds : p.holds ≡ is_at j lock.holder
  -- a pass sweeps only what it holds
  pub unswept : p.holds ≡ false → p.swept ≡ []

-- a pass that another has taken in: it is retired, held nothing, and knows what it knew
abbrev pub IsBack : {E : Type 0} → (ℕ → Bool) → (ℕ → View E) → ℕ × List (Part E) → Type 0
IsBack retired passes b =
    (retired b.0 ≡ true) × ((passes b.0).parts ≡ b.1)
    × ((l : ℕ) → (slice_index_or b.1 l blank).holds ≡ false)

module _ {X E : Type 0} (stands : ℕ → List (ℕ × E) → X → Type 0) where
  -- a cell with a value for the list is at home
  abbrev pub IsHome : ℕ → List (ℕ × E) → List (maybe.Option (Cell X E)) → Type 0
  IsHome l list homes =
      (y : Cell X E) × (get_elem? homes l ≡ some (some y)) × (x : X) × (y.value ≡ Some x)
      × stands l list x

  -- what the rule says of the lock l, one of n, where so many turns were taken
  pub record LockOk (n turns : ℕ) (words : List ℕ) (homes : List (maybe.Option (Cell X E))) (l : ℕ)
      (lock : Lock E) : Type 0 where
    pub draws : slice_index_or words l 0 ≡ lock.next
    pub serves : slice_index_or words (n + l) 0 ≡ length lock.list
    pub marks : (q : ℕ) → q < 4 → slice_index_or words (2 * n + (4 * l + q)) 0 ≡ lock.marks q
    pub behind : length lock.list ≤ lock.next
    pub enough : lock.next ≤ turns
    pub home : lock.holder ≡ None → IsHome l lock.list homes

  -- Whatever step is made, this holds again. `most` is the number of passes that are ever made
  module _ (fact : Locks E → Type 0) where
    pub record Turning (most : ℕ) (s : State (Cell X E) (View E)) : Type 0 where
      pub locks : ℕ → Lock E
      -- what each pass knows, also one that was taken in, and one that was not made yet
      pub passes : ℕ → View E
      pub retired : ℕ → Bool
      pub many : ℕ
      pub count : ℕ
      pub sized : IsSized many count most s
      pub shown :
          (j : ℕ)
          → slice_index_or s.views j (opening_view many j)
          ≡ cond (retired j) spent (shows count j (passes j))
      pub each_pass : (j : ℕ) → IsPass many j (passes j)
      pub each_seat : (j l : ℕ) → SeatOk (locks l) j (part (passes j) l)
      pub each_lock :
          (l : ℕ) → l < many → LockOk many (turns_of s.views) s.words s.homes l (locks l)
      pub back : (j : ℕ) → All (IsBack retired passes) (passes j).back
      pub tied : fact (world_of locks passes)
