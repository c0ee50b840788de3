-- Numbers in rings, linked in both directions.
use Rattle.std.specs.Prelude.{◌≡◌, ◌≢◌, ◌<◌, ⊤, ℕ, true, false, zero, suc, List, [], ◌∷◌, Option, None, Some, length, nat_eq, slice_index}
use Rattle.std.specs.List.{AllByRecursion}
use Rattle.kd_rings.specs.declared.heads.TheConstants.{HEAD, START}

-- from one number over some to another, each names the one behind it, which names it back
abbrev pub Linked : (ℕ → ℕ) → (ℕ → ℕ) → ℕ → List ℕ → ℕ → Type 0
Linked next previous from [] upto = (next from ≡ upto) × (previous upto ≡ from)
Linked next previous from (x ∷ xs) upto =
    (next from ≡ x) × (previous x ≡ from) × Linked next previous x xs upto

-- all of some numbers differ from one
abbrev pub AllBut : ℕ → List ℕ → Type 0
AllBut n xs = AllByRecursion (λ k. k ≢ n) xs

-- numbers that differ from one another
abbrev pub Apart : List ℕ → Type 0
Apart [] = ⊤
Apart (x ∷ xs) = AllBut x xs × Apart xs

-- the numbers that are met from one on, until the head comes again
abbrev pub walk : ℕ → (ℕ → ℕ) → ℕ → ℕ → List ℕ
walk zero next head at = []
walk (suc n) next head at =
    elim (nat_eq (next at) head) [
      | true ↦ []
      | false ↦ next at ∷ walk n next head (next at)
    ]

-- the numbers behind the head
unfoldable pub order : ℕ → List ℕ → List ℕ
order head nexts = walk (length nexts) (slice_index nexts) head head

-- one number more behind another, in the list that follows a first one
abbrev pub put_behind : ℕ → ℕ → ℕ → List ℕ → List ℕ
put_behind place new first [] = elim (nat_eq first place) [ true ↦ new ∷ [] | false ↦ [] ]
put_behind place new first (x ∷ xs) =
    elim (nat_eq first place) [
      | true ↦ new ∷ x ∷ xs
      | false ↦ x ∷ put_behind place new x xs
    ]

-- what stands behind a number, in the list that follows a first one
abbrev pub behind : ℕ → ℕ → List ℕ → List ℕ
behind place first [] = []
behind place first (x ∷ xs) = elim (nat_eq first place) [ true ↦ x ∷ xs | false ↦ behind place x xs ]

-- the number before another, in the list that follows a first one; the last before any other number
abbrev pub before : ℕ → ℕ → List ℕ → ℕ
before place first [] = first
before place first (x ∷ xs) = elim (nat_eq x place) [ true ↦ first | false ↦ before place x xs ]

abbrev pub foremost : List ℕ → Option ℕ
foremost [] = None
foremost (x ∷ xs) = Some x

-- numbers are linked in a ring, from the head over the numbers behind it to the head
pub record IsRing (head : ℕ) (nexts previouses : List ℕ) : Type 0 where
  pub inside : head < length nexts
  pub both : length previouses ≡ length nexts
  pub linked : Linked (slice_index nexts) (slice_index previouses) head (order head nexts) head
  pub apart : Apart (head ∷ order head nexts)
  pub below : AllByRecursion (λ k. k < length nexts) (order head nexts)

-- two rings that have no number in common
pub record AreRings (nexts previouses : List ℕ) : Type 0 where
  pub first : IsRing START nexts previouses
  pub second : IsRing HEAD nexts previouses
  pub low : AllByRecursion (λ k. k < HEAD) (order START nexts)
  pub high : AllByRecursion (λ k. HEAD < k) (order HEAD nexts)
