-- What stands in the lists, hands and marks of all passes at one moment, and what each step makes
-- of it.
use Rattle.std.specs.Prelude.{◌≡◌, ℕ, ◌/◌, ◌%◌, ◌^◌, ◌==◌, ◌&&◌, ◌⊎◌, Bool, true, false, cond, List, [], ◌∷◌, ◌++◌, Option, Some, None}
use Rattle.std.specs.Int.Bits.{bit_or}
use Rattle.kd_hands.specs.Lists.{hand_has, hand_without, is_marked, was_swept, is_word_of, is_at, at_place}

-- what the lists say
pub record Histories (E : Type 0) : Type 0 where
  -- of each lock, the entries of all its turns, each with the number of the pass that made it
  pub lists : ℕ → List (ℕ × E)
  -- the entries that the holder of lock 0 has made on other locks since it took lock 0, each with
  -- its lock; empty where nobody holds lock 0
  pub opened : List (ℕ × ℕ × E)

-- all that the passes have done, at one moment
pub record Locks (E : Type 0) : Type 0 where
  pub told : Histories E
  -- the pass that holds lock 0
  pub holder : Option ℕ
  -- of a pass and a lock, the numbers in hand
  pub hands : ℕ → ℕ → List ℕ
  -- of a lock and one of its four mark words, the word
  pub marks : ℕ → ℕ → ℕ
  -- of a pass and a lock, the mark words that it swept in this turn, each with its place among the
  -- four
  pub swept : ℕ → ℕ → List (ℕ × ℕ)

-- the mark words of a lock, after the number n is marked
abbrev pub with_mark : ℕ → (ℕ → ℕ) → ℕ → ℕ
with_mark n words = at_place words (n / 64) (bit_or (words (n / 64)) (2 ^ (n % 64)))

module _ {E : Type 0} where
  -- The hands of a pass by lock, after its entry e on the lock l. The entry changes the hand of its
  -- own lock; one on lock 0 may also empty the hand of one other lock
  abbrev pub hands_after :
      (ℕ → E → List ℕ → List ℕ) → (E → Option ℕ) → ℕ → E → (ℕ → List ℕ) → ℕ → List ℕ
  hands_after after empties l e hands k =
      cond (k == l) (after l e (hands l)) (cond ((l == 0) && is_at k (empties e)) [] (hands k))

  -- what is open after the entry x on the lock l, made by a pass that holds lock 0 or doesn't
  abbrev pub opened_after : ℕ → ℕ × E → Bool → List (ℕ × ℕ × E) → List (ℕ × ℕ × E)
  opened_after l x holds xs = cond (l == 0) [] (cond holds (xs ++ (l, x.0, x.1) ∷ []) xs)

  -- the world before any entry
  abbrev pub opening_locks : Locks E
  opening_locks = record {
    told = record { lists = λ _. []; opened = [] };
    holder = None;
    hands = λ _ _. [];
    marks = λ _ _. 0;
    swept = λ _ _. [];
  }

  -- the pass j passed the lock l on with the entry e
  abbrev pub entered : (ℕ → E → (ℕ → List ℕ) → ℕ → List ℕ) → ℕ → ℕ → E → Locks E → Locks E
  entered after l j e w = record {
    told = record {
      lists = at_place w.told.lists l (w.told.lists l ++ (j, e) ∷ []);
      opened = opened_after l (j, e) (is_at j w.holder) w.told.opened;
    };
    holder = cond (l == 0) None w.holder;
    hands = at_place w.hands j (after l e (w.hands j));
    marks = w.marks;
    swept = at_place w.swept j (at_place (w.swept j) l []);
  }

  -- the pass j took the lock l
  abbrev pub taken : ℕ → ℕ → Locks E → Locks E
  taken l j w = record w { holder = cond (l == 0) (Some j) w.holder }

  -- the pass j marked the number n of the lock l
  abbrev pub marked_in : ℕ → ℕ → ℕ → Locks E → Locks E
  marked_in l n j w =
      record w {
        hands = at_place w.hands j (at_place (w.hands j) l (hand_without n (w.hands j l)));
        marks = at_place w.marks l (with_mark n (w.marks l));
      }

  -- the pass j swept the word q of the lock l
  abbrev pub swept_in : ℕ → ℕ → ℕ → Locks E → Locks E
  swept_in l q j w =
      record w {
        marks = at_place w.marks l (at_place (w.marks l) q 0);
        swept = at_place w.swept j (at_place (w.swept j) l (w.swept j l ++ (q, w.marks l q) ∷ []));
      }

-- The point on hands. Of each lock's list: which numbers it lends, and which of these it has out;
-- and of the list of lock 0, the one pass that may have numbers of a lock in its hand
pub record Handed {E : Type 0} (lends out : ℕ → List (ℕ × E) → ℕ → Type 0)
    (keeper : ℕ → List (ℕ × E) → Option ℕ) (w : Locks E) : Type 0 where
  -- what is in a hand, or marked, is lent
  pub lent : (j l n : ℕ) → hand_has n (w.hands j l) ≡ true → lends l (w.told.lists l) n
  pub lent_mark : (l n : ℕ) → is_marked n (w.marks l) ≡ true → lends l (w.told.lists l) n
  -- only the keeper has numbers of the lock
  pub kept : (j l n : ℕ) → hand_has n (w.hands j l) ≡ true → keeper l (w.told.lists 0) ≡ Some j
  -- what is out is in a hand, or marked, or was swept in this turn
  pub found :
      (l n : ℕ) → out l (w.told.lists l) n
      → ((j : ℕ) × (hand_has n (w.hands j l) ≡ true))
      ⊎ ((is_marked n (w.marks l) ≡ true) ⊎ ((j : ℕ) × (was_swept n (w.swept j l) ≡ true)))
  -- and it is so in one of these ways alone
  pub once :
      (j l n : ℕ) → out l (w.told.lists l) n → is_marked n (w.marks l) ≡ true
      → hand_has n (w.hands j l) ≡ false
  pub gone :
      (i l n : ℕ) → out l (w.told.lists l) n → was_swept n (w.swept i l) ≡ true
      → (is_marked n (w.marks l) ≡ false) × ((j : ℕ) → hand_has n (w.hands j l) ≡ false)
  -- of a lock that has no keeper, no word is marked which the holder of lock 0 has swept in this
  -- turn
  pub clear :
      (j l n : ℕ) → w.holder ≡ Some j → keeper l (w.told.lists 0) ≡ None
      → is_word_of n (w.swept j l) ≡ true → is_marked n (w.marks l) ≡ false

-- What holds of the world between any two steps: the tie of its lists, and the point on hands
abbrev pub Fact :
    {E : Type 0} → (Histories E → Type 0) → (lends out : ℕ → List (ℕ × E) → ℕ → Type 0)
    → (ℕ → List (ℕ × E) → Option ℕ) → Locks E → Type 0
Fact tie lends out keeper w = tie w.told × Handed lends out keeper w
