-- Patterns: names, and names or elements with a star behind them.
use Rattle.std.specs.Prelude.{◌≡◌, ℕ, ◌-◌, Bool, false, ◌&&◌, ◌||◌, List, [], ◌∷◌, ◌++◌, length, nat_le, Option, Some, None, option_map, if◌then◌else◌, codes, take, drop, IsTrue, ◌⊎◌}
use Rattle.kd_model.specs.Words.{same}
use Rattle.kd_name.specs.Names.{elements, is_element, is_name}

-- what stands before a closing `.*`
abbrev pub stem : List ℕ → Option (List ℕ)
stem p = if same (drop (length p - 2) p) (codes ".*") then Some (take (length p - 2) p) else None

-- a name or a single element, followed by `.*`
abbrev pub is_wildcard : List ℕ → Bool
is_wildcard p = elim (stem p) [ Some q ↦ is_name q || is_element q | None ↦ false ]

-- a name or a wildcard
abbrev pub is_pattern : List ℕ → Bool
is_pattern p = is_name p || is_wildcard p

-- the last of some pieces
abbrev pub last : List (List ℕ) → List ℕ
last [] = []
last (e ∷ []) = e
last (e ∷ f ∷ es) = last (f ∷ es)

-- two or more pieces, of which the last is an element
abbrev pub is_name_below : List (List ℕ) → Bool
is_name_below es = nat_le 2 (length es) && is_element (last es)

-- what stands before the last dot, where one element follows that dot
abbrev pub parent : List ℕ → Option (List ℕ)
parent n =
    if is_name_below (elements n) then Some (take (length n - length (last (elements n)) - 1) n)
    else None

-- the one pattern with a star that covers the text
abbrev pub wildcard_of : List ℕ → Option (List ℕ)
wildcard_of n = option_map (λ q. q ++ codes ".*") (parent n)

-- the pattern is that one
abbrev pub is_wildcard_of : List ℕ → List ℕ → Bool
is_wildcard_of p n = elim (wildcard_of n) [ Some w ↦ same p w | None ↦ false ]

-- a pattern covers itself, and a wildcard the texts with one element in the place of its star
abbrev pub covers : List ℕ → List ℕ → Bool
covers p n = same p n || is_wildcard_of p n

-- the same as a relation: p is n; or p is q and `.*`, and n is q, a dot and one element
abbrev pub Covers : List ℕ → List ℕ → Type 0
Covers p n =
    (p ≡ n) ⊎ ((q e : List ℕ) × IsTrue (is_element e) × (p ≡ q ++ codes ".*") × (n ≡ q ++ 46 ∷ e))
