-- What lasts in a pool through any act: whether it is open, which slices are received and not
-- freed, and that a slice keeps its place and its bytes until it is freed or let go.
use Rattle.std.specs.Prelude.{◌≡◌, ◌<◌, ℕ, ◌==◌, ◌&&◌, ◌||◌, Bool, true, false, not, is_some, Option, Some, None}
use Rattle.std.specs.List.{AllByRecursion, IsDistinct}
use Rattle.kd_model.specs.Slices.{Book, has_same_number}
use Rattle.kd_model.specs.declared.placed.Placed.{Placed}
use Rattle.kd_model.specs.declared.slice_no.TheConstants.{SLICES}
use Rattle.kd_model.specs.Words.{AnyOf, some_of}
use Rattle.kd_acts.specs.declared.receive.RecvMode.{RecvMode}
use Rattle.kd_acts.specs.declared.slot.Phase.TheVariants.{Reserved, Queued, Peeked, Handed, Freed}
use Rattle.kd_acts.specs.declared.slot.Slot.{Slot}
use Rattle.kd_acts.specs.State.{Act, Answer, Content, Hold, Pool, Slice, book_of, by_desk, close, drain, free, got, slot_numbered, is_freed, is_reserved, is_waiting, placed, publish, raise, receive, refused, slots}
use Rattle.kd_acts.specs.Steps.{after, answer}

abbrev pub is_refused : Answer → Bool
is_refused (refused why) = true
is_refused _ = false

-- ---- open pools

abbrev pub is_open : Hold → Bool
is_open h = is_some h.pool

-- a close that isn't forced may be refused
abbrev pub is_let_be : Bool → Answer → Bool
is_let_be force a = not force && is_refused a

-- whether a pool is open after an act that was answered so: a raise opens it, a close ends it
-- unless it is refused
abbrev pub open_after : Act → Answer → Bool → Bool
open_after (by_desk (raise size)) a was = true
open_after (by_desk (close force)) a was = is_let_be force a && was
open_after _ a was = was

abbrev pub OpenFollows : Type 0
OpenFollows = (h : Hold) (a : Act) → is_open (after h a) ≡ open_after a (answer h a) (is_open h)

-- ---- slices that are received and not freed

abbrev pub is_handed : Slot → Bool
is_handed s =
    elim s.phase [
      | Reserved ↦ false
      | Queued ↦ false
      | Peeked ↦ false
      | Handed ↦ true
      | Freed ↦ false
    ]

-- the slice of the number is handed in the pool; none is in a closed one
abbrev pub is_handed_in : ℕ → Hold → Bool
is_handed_in n h =
    elim h.pool [
      | None ↦ false
      | Some p ↦ some_of (λ (s : Slot). slot_numbered n s && is_handed s) (slots p)
    ]

-- a receive that doesn't only look, and drops nothing
abbrev pub hands_over : RecvMode → Bool
hands_over mode = not mode.peek && not mode.drop_it

-- whether the slice of a number is handed after an act that was answered so: a receive hands over
-- the slice that it tells, a free takes one back, and with its pool every slice goes
abbrev pub handed_after : Act → Answer → ℕ → Bool → Bool
handed_after (by_desk (raise size)) a n was = false
handed_after (by_desk (close force)) a n was = is_let_be force a && was
handed_after (receive mode) (got m offset len dropped) n was = (m == n && hands_over mode) || was
handed_after (free m) a n was = not (m == n) && was
handed_after _ a n was = was

-- the slices of a pool have numbers of their own, below 256
pub record HasNumbers (b : Book) : Type 0 where
  pub distinct : IsDistinct has_same_number b.slices
  pub below : AllByRecursion (λ (s : Placed). s.number < SLICES) b.slices

abbrev pub AreNumbered : Option Pool → Type 0
AreNumbered None = Unit {0}
AreNumbered (Some p) = HasNumbers (book_of p)

abbrev pub NumbersStay : Type 0
NumbersStay = (h : Hold) (a : Act) → AreNumbered h.pool → AreNumbered (after h a).pool

abbrev pub HandedFollows : Type 0
HandedFollows =
    (h : Hold) (a : Act) (n : ℕ) → AreNumbered h.pool
    → is_handed_in n (after h a) ≡ handed_after a (answer h a) n (is_handed_in n h)

-- what a receive tells is one of 256 numbers, and wasn't handed before
abbrev pub ReceivesWaiting : Type 0
ReceivesWaiting =
    (h : Hold) (mode : RecvMode) (n offset len dropped : ℕ) → AreNumbered h.pool
    → answer h (receive mode) ≡ got n offset len dropped
    → (n < SLICES) × (is_handed_in n h ≡ false)

-- ---- slices keep their place and their bytes

-- the same slice: nothing but its phase, its priority and its arrival may be another
pub record IsSame (old new : Slice) : Type 0 where
  pub number : new.slot.number ≡ old.slot.number
  pub offset : new.slot.offset ≡ old.slot.offset
  pub len : new.slot.len ≡ old.slot.len
  pub user : new.slot.user ≡ old.slot.user
  pub source : new.slot.source ≡ old.slot.source
  pub bytes : new.bytes ≡ old.bytes
  pub share : new.shared ≡ old.shared

-- a slice that was reserved has the content that it was reserved for
pub record IsPublished (c : Content) (old new : Slice) : Type 0 where
  pub reserved : is_reserved old.slot ≡ true
  pub number : new.slot.number ≡ old.slot.number
  pub offset : new.slot.offset ≡ old.slot.offset
  pub len : new.slot.len ≡ old.slot.len
  pub user : new.slot.user ≡ old.slot.user
  pub source : new.slot.source ≡ old.slot.source
  pub bytes : new.bytes ≡ c.image
  pub share : new.shared ≡ c.shared

-- what an act that was answered so makes of a slice: only a publishing of its own number writes it
abbrev pub Lasts : Act → Answer → Slice → Slice → Type 0
Lasts (publish generation n c) placed old new =
    elim (slot_numbered n old.slot) [ true ↦ IsPublished c old new | false ↦ IsSame old new ]
Lasts _ a old new = IsSame old new

-- the slices that an act lets go: all with their pool, the waiting ones in a drain, the one that a
-- receive drops
abbrev pub lets_go : Act → Answer → Slot → Bool
lets_go (by_desk (raise size)) a s = true
lets_go (by_desk (close force)) a s = not (is_let_be force a)
lets_go (by_desk drain) a s = not (is_refused a) && is_waiting s
lets_go (receive mode) (got n offset len dropped) s = mode.drop_it && slot_numbered n s
lets_go _ a s = false

-- each slice that isn't freed, and isn't let go, stands after any act as it was
abbrev pub SlicesLast : Type 0
SlicesLast =
    (h : Hold) (a : Act) (p q : Pool) → h.pool ≡ Some p → (after h a).pool ≡ Some q
    → AreNumbered h.pool
    → AllByRecursion (λ (x : Slice).
    is_freed x.slot ≡ false → lets_go a (answer h a) x.slot ≡ false
    → AnyOf (Lasts a (answer h a) x) q.slices) p.slices
