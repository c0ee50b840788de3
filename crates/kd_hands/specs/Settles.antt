-- What a caller shows of its own lock, so that the point on hands holds of all.
use Rattle.std.specs.Prelude.{◌≡◌, ◌≢◌, ℕ, ◌⊎◌, true, false, List, [], ◌∷◌, ◌++◌, Option, Some}
use Rattle.kd_hands.specs.Lists.{hand_has, is_marked}
use Rattle.kd_hands.specs.Locks.{Locks, Handed}

-- What the pass j shows of the lock l, where it puts the entry e on it
pub record Settles {E : Type 0} (lends out : ℕ → List (ℕ × E) → ℕ → Type 0)
    (keeper : ℕ → List (ℕ × E) → Option ℕ) (after : ℕ → E → List ℕ → List ℕ) (l : ℕ)
    (e : E) (j : ℕ) (w : Locks E) : Type 0 where
  -- what is in its new hand, in another's, or marked, is lent
  pub lent :
      (n : ℕ) → hand_has n (after l e (w.hands j l)) ≡ true
      → lends l (w.told.lists l ++ (j, e) ∷ []) n
  pub lent_others :
      (i n : ℕ) → i ≢ j → hand_has n (w.hands i l) ≡ true
      → lends l (w.told.lists l ++ (j, e) ∷ []) n
  pub lent_mark :
      (n : ℕ) → is_marked n (w.marks l) ≡ true → lends l (w.told.lists l ++ (j, e) ∷ []) n
  pub kept :
      (n : ℕ) → hand_has n (after l e (w.hands j l)) ≡ true
      → keeper l (w.told.lists 0) ≡ Some j
  -- what is out is in one of these, and in no two
  pub found : (n : ℕ) → out l (w.told.lists l ++ (j, e) ∷ []) n
      → (hand_has n (after l e (w.hands j l)) ≡ true)
      ⊎ (((i : ℕ) × (i ≢ j) × (hand_has n (w.hands i l) ≡ true)) ⊎ (is_marked n (w.marks l) ≡ true))
  pub once : (n : ℕ) → out l (w.told.lists l ++ (j, e) ∷ []) n → is_marked n (w.marks l) ≡ true
      → (hand_has n (after l e (w.hands j l)) ≡ false)
      × ((i : ℕ) → i ≢ j → hand_has n (w.hands i l) ≡ false)

-- nothing is lent, and nothing is out
abbrev pub no_number : {E : Type 0} → ℕ → List (ℕ × E) → ℕ → Type 0
no_number l list n = ⊥

-- the point on hands, where no lock lends a number
abbrev pub Unlent : {E : Type 0} → (ℕ → List (ℕ × E) → Option ℕ) → Locks E → Type 0
Unlent {E} keeper w = Handed no_number no_number keeper w
