-- Worlds in keeping with what a pass knows, and what a put owes.
use Rattle.std.specs.Prelude.{◌≡◌, ◌≢◌, ℕ, true, false, List, [], Some}
use mathlib.Core.List.{IsPrefix}
use Rattle.kd_hands.specs.declared.views.View.{View}
use Rattle.kd_hands.specs.Lists.{made_by}
use Rattle.kd_hands.specs.Views.{part, hand}
use Rattle.kd_hands.specs.Locks.{Locks, entered}

-- The world is in keeping with what a pass of this view knows
pub record Fits {E : Type 0} (v : View E) (w : Locks E) : Type 0 where
  pub begins : (k : ℕ) → IsPrefix (part v k).seen (w.told.lists k)
  pub mine : (k : ℕ) → made_by v.name (w.told.lists k) ≡ (part v k).own
  -- the list of a lock that it holds is the one that it has seen
  pub whole : (k : ℕ) → (part v k).holds ≡ true → (part v k).seen ≡ w.told.lists k
  pub opened : (part v 0).holds ≡ true → (v.opened ≡ w.told.opened) × (w.holder ≡ Some v.name)
  pub closed : (part v 0).holds ≡ false → w.holder ≢ Some v.name
  pub hands : (k : ℕ) → hand v k ≡ w.hands v.name k
  pub swept : (k : ℕ) → (part v k).swept ≡ w.swept v.name k
  -- what it holds was swept by no other
  pub sole : (k : ℕ) → (part v k).holds ≡ true → (i : ℕ) → i ≢ v.name → w.swept i k ≡ []

-- the fact holds of some world in keeping with this view
pub record Stood {E : Type 0} (fact : Locks E → Type 0) (v : View E) : Type 0 where
  pub world : Locks E
  pub fits : Fits v world
  pub holds : fact world

-- What a put owes: the fact holds again, whatever the world is in which the pass puts its entry
abbrev pub Owes :
    {E : Type 0} → (Locks E → Type 0) → (ℕ → E → (ℕ → List ℕ) → ℕ → List ℕ) → View E → ℕ → E
    → Type 0
Owes {E} fact after v l e = (w : Locks E) → Fits v w → fact w → fact (entered after l v.name e w)
