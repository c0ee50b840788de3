-- Words on lists that the definitions share.
use Rattle.std.specs.Prelude.{◌⊎◌, ℕ, Bool, true, false, not, ◌&&◌, ◌||◌, List, [], ◌∷◌, Option, Some, None, filter, nat_eq, nat_lt}
use Rattle.std.specs.List.{list_any, list_all, find}
use Rattle.std.specs.Cmp.Lexicographic.{pointwise}

-- the same bytes
abbrev pub same : List ℕ → List ℕ → Bool
same = pointwise nat_eq

-- the same texts, one by one
abbrev pub same_texts : List (List ℕ) → List (List ℕ) → Bool
same_texts = pointwise same

-- the smaller of two texts in byte order
abbrev pub text_below : List ℕ → List ℕ → Bool
text_below xs [] = false
text_below [] (y ∷ ys) = true
text_below (x ∷ xs) (y ∷ ys) = nat_lt x y || (nat_eq x y && text_below xs ys)

-- the first of the tests that holds, in this order
abbrev pub first_that_holds : {X : Type 0} → List (Bool × X) → Option X
first_that_holds [] = None
first_that_holds (t ∷ ts) = elim t.0 [ true ↦ Some t.1 | false ↦ first_that_holds ts ]

abbrev pub is_empty : {X : Type 0} → List X → Bool
is_empty [] = true
is_empty (x ∷ xs) = false

-- what passes a test
abbrev pub those : {X : Type 0} → (X → Bool) → List X → List X
those = filter

-- what doesn't
abbrev pub but_those : {X : Type 0} → (X → Bool) → List X → List X
but_those test = filter (λ x. not (test x))

-- the first that passes a test
abbrev pub first : {X : Type 0} → (X → Bool) → List X → Option X
first = find

-- the one that is below all others, the first of equals
abbrev pub least : {X : Type 0} → (X → X → Bool) → List X → Option X
least below [] = None
least below (x ∷ xs) =
    elim (least below xs) [
      | None ↦ Some x
      | Some y ↦ elim (below y x) [ true ↦ Some y | false ↦ Some x ]
    ]

-- the lesser of two, the first of equals
abbrev pub lesser : {X : Type 0} → (X → X → Bool) → Option X → Option X → Option X
lesser below None y = y
lesser below (Some x) None = Some x
lesser below (Some x) (Some y) = elim (below y x) [ true ↦ Some y | false ↦ Some x ]

-- put behind all that are not above it
abbrev pub put_in_order : {X : Type 0} → (X → X → Bool) → X → List X → List X
put_in_order below x [] = x ∷ []
put_in_order below x (y ∷ ys) =
    elim (below x y) [ true ↦ x ∷ y ∷ ys | false ↦ y ∷ put_in_order below x ys ]

abbrev pub in_order : {X : Type 0} → (X → X → Bool) → List X → List X
in_order below [] = []
in_order below (x ∷ xs) = put_in_order below x (in_order below xs)

abbrev pub contains : ℕ → List ℕ → Bool
contains n = list_any (nat_eq n)

abbrev pub all_of : {X : Type 0} → (X → Bool) → List X → Bool
all_of = list_all

abbrev pub some_of : {X : Type 0} → (X → Bool) → List X → Bool
some_of = list_any

-- a fact that holds of one of a list
abbrev pub AnyOf : {X : Type 0} → (X → Type 0) → List X → Type 0
AnyOf P [] = ⊥
AnyOf P (x ∷ xs) = P x ⊎ AnyOf P xs
