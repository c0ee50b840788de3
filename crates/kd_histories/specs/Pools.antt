-- A pool's list: the pool along it, and what is true of its entries.
use Rattle.std.specs.Prelude.{◌≡◌, ◌⊎◌, ◌<◌, ◌≤◌, ℕ, zero, suc, Bool, true, false, List, [], ◌∷◌, ◌++◌}
use Rattle.kd_types.specs.declared.refusal.Refusal.TheVariants.{NoSuchSlice}
use Rattle.kd_acts.specs.State.{Act, Answer, Hold, Visit, by_desk, close, drain, free, idle as idle_act, publish, read, receive, refused}
use Rattle.kd_acts.specs.Steps.{after, answer}
use Rattle.kd_acts.specs.Lasting.{is_handed_in}
use Rattle.kd_model.specs.Words.{contains}
use Rattle.kd_hands.specs.Lists.{is_marked, is_word_of, was_swept}
use Rattle.kd_world.specs.State.{closed_pool}
use Rattle.kd_histories.specs.Turns.{Did, Turn, left, started, removed, did, idle}

-- ---- the marks that a visit swept

-- an offer, a post, a settle and a raise sweep the marks of their pool
abbrev pub visit_sweeps : Visit → Bool
visit_sweeps (close force) = false
visit_sweeps drain = false
visit_sweeps _ = true

-- no other act does
abbrev pub act_sweeps : Act → Bool
act_sweeps (by_desk v) = visit_sweeps v
act_sweeps _ = false

-- numbers rise, and are below a limit
abbrev pub AreRising : ℕ → List ℕ → ℕ → Type 0
AreRising from [] limit = Unit {0}
AreRising from (n ∷ ns) limit = (from ≤ n) × (n < limit) × AreRising (suc n) ns limit

-- the numbers below a limit that are marked in the words of a lock, rising
unfoldable pub marked_below : ℕ → (ℕ → ℕ) → List ℕ
marked_below zero words = []
marked_below (suc n) words =
    marked_below n words ++ elim (is_marked n words) [ true ↦ n ∷ [] | false ↦ [] ]

-- of the four words of a lock
abbrev pub marked_numbers : (ℕ → ℕ) → List ℕ
marked_numbers words = marked_below 256 words

-- the four words as a sweep finds them, each with its place
abbrev pub four_words : (ℕ → ℕ) → List (ℕ × ℕ)
four_words words = (0, words 0) ∷ (1, words 1) ∷ (2, words 2) ∷ (3, words 3) ∷ []

-- a sweep of all four has just the marked numbers, and the word of each number
abbrev pub SweepsTell : Type 0
SweepsTell =
    (words : ℕ → ℕ) → AreRising 0 (marked_numbers words) 256
    × ((n : ℕ) → contains n (marked_numbers words) ≡ was_swept n (four_words words))
    × ((n : ℕ) → n < 256 → is_word_of n (four_words words) ≡ true)

-- they are freed one after the other
unfoldable pub hold_freed : List ℕ → Hold → Hold
hold_freed [] h = h
hold_freed (n ∷ ns) h = hold_freed ns (after h (free n))

-- ---- along the list

-- the pool as an act meets it
abbrev pub hold_met : Did → Hold → Hold
hold_met d h = hold_freed d.freed h

-- the pool after an entry
unfoldable pub hold_after : Turn → Hold → Hold
hold_after (did d) h = after (hold_met d h) d.act
hold_after (left l) h = h
hold_after (started b) h = h
hold_after (removed generation) h = h
hold_after idle h = h

-- and along a list
unfoldable pub hold_from : Hold → List (ℕ × Turn) → Hold
hold_from h [] = h
hold_from h (x ∷ xs) = hold_from (hold_after x.1 h) xs

-- what stands behind a pool's lock for its list
abbrev pub hold_of : List (ℕ × Turn) → Hold
hold_of list = hold_from closed_pool list

-- ---- what is true of an entry of a pool

-- the answer is the pool's; but a read doesn't find a slice that its receiver has given back, whose
-- mark isn't swept yet
abbrev pub IsAnswered : Hold → Act → Answer → Type 0
IsAnswered h (read n sealed) o =
    (o ≡ answer h (read n sealed)) ⊎ ((o ≡ refused NoSuchSlice) × (is_handed_in n h ≡ true))
IsAnswered h (by_desk v) o = o ≡ answer h (by_desk v)
IsAnswered h (publish generation n c) o = o ≡ answer h (publish generation n c)
IsAnswered h (receive mode) o = o ≡ answer h (receive mode)
IsAnswered h (free n) o = o ≡ answer h (free n)
IsAnswered h idle_act o = o ≡ answer h idle_act

-- it has the pool's generation, the marks that its visit swept, and its answer behind them
pub record IsDone (h : Hold) (d : Did) : Type 0 where
  pub generation : d.generation ≡ h.generation
  pub rising : AreRising 0 d.freed 256
  pub sweeps : act_sweeps d.act ≡ false → d.freed ≡ []
  pub answer : IsAnswered (hold_met d h) d.act d.answer

-- no other entry stands in a pool's list but one that does nothing
unfoldable pub IsDoneTurn : Hold → Turn → Type 0
IsDoneTurn h (did d) = IsDone h d
IsDoneTurn h (left l) = Unit {0}
IsDoneTurn h (started b) = Unit {0}
IsDoneTurn h (removed generation) = Unit {0}
IsDoneTurn h idle = Unit {0}

-- each entry is true where it stands
unfoldable pub AreDone : Hold → List (ℕ × Turn) → Type 0
AreDone h [] = Unit {0}
AreDone h (x ∷ xs) = IsDoneTurn h x.1 × AreDone (hold_after x.1 h) xs
