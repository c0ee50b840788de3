-- The least of a list, part by part.
use Rattle.std.specs.Prelude.{◌≡◌, Bool, true, false, List, [], ◌∷◌, ◌++◌, Option, Some, None, refl}
use Rattle.std.specs.List.{AllByRecursion}
use Rattle.std.proofs.Common.{ap, sym, ◌∙◌}
use Rattle.kd_model.specs.Words.{least, lesser}

-- an order in which two that rank alike rank alike with all others
pub record IsRanking {X : Type 0} (below : X → X → Bool) : Type 0 where
  pub chains : (a b c : X) → below a b ≡ true → below b c ≡ true → below a c ≡ true
  pub levels : (a b c : X) → below a b ≡ false → below b c ≡ false → below a c ≡ false

-- the least of a list is the lesser of its head and the least of the rest
pub least_of_cons : {X : Type 0} (below : X → X → Bool) (x : X) (xs : List X) → least below (x ∷ xs) ≡ lesser below (Some x) (least below xs)
least_of_cons {X = X} below x xs = go (least below xs)
  where
    go : (o : Option X) → elim o [ None ↦ Some x | Some y ↦ elim (below y x) [ true ↦ Some y | false ↦ Some x ] ] ≡ lesser below (Some x) o
    go None = refl
    go (Some y) = refl

pub lesser_none : {X : Type 0} (below : X → X → Bool) (o : Option X) → lesser below o None ≡ o
lesser_none below None = refl
lesser_none below (Some x) = refl

-- the lesser of three, whichever two are taken first
pub lesser_assoc : {X : Type 0} (below : X → X → Bool) → IsRanking below → (a b c : Option X) → lesser below (lesser below a b) c ≡ lesser below a (lesser below b c)
lesser_assoc below r None b c = refl
lesser_assoc below r (Some x) None c = refl
lesser_assoc below r (Some x) (Some y) None = lesser_none below _
lesser_assoc below r (Some x) (Some y) (Some z) = go (below y x) (below z y) (below z x) refl refl refl
  where
    go : (yx zy zx : Bool) → below y x ≡ yx → below z y ≡ zy → below z x ≡ zx → lesser below (elim yx [ true ↦ Some y | false ↦ Some x ]) (Some z) ≡ lesser below (Some x) (elim zy [ true ↦ Some z | false ↦ Some y ])
    go true true zx a b c = let d : below z x ≡ true = r.chains z y x b a in rw (b, d, lesser) refl
    go true false zx a b c = rw (b, a, lesser) refl
    go false true zx a b c = refl
    go false false zx a b c = let d : below z x ≡ false = r.levels z y x b a in rw (d, a, lesser) refl

-- the least of two lists is the lesser of their least
pub least_of_append : {X : Type 0} (below : X → X → Bool) → IsRanking below → (xs ys : List X) → least below (xs ++ ys) ≡ lesser below (least below xs) (least below ys)
least_of_append below r [] ys = refl
least_of_append below r (x ∷ xs) ys =
    least_of_cons below x (xs ++ ys) ∙ ap (lesser below (Some x)) (least_of_append below r xs ys)
    ∙ sym (lesser_assoc below r (Some x) (least below xs) (least below ys)) ∙ ap (λ o. lesser below o (least below ys)) (sym (least_of_cons below x xs))

lesser_one : {X : Type 0} (P : X → Type 0) (below : X → X → Bool) (x y : X) (o : Option X) → P x → (o ≡ Some y → P y) → lesser below (Some x) o ≡ Some y → P y
lesser_one P below x y None h ih e = let same : x ≡ y = cc in rw same at h
lesser_one P below x y (Some z) h ih e = go (below z x) e
  where
    go : (b : Bool) → elim b [ true ↦ Some z | false ↦ Some x ] ≡ Some y → P y
    go true e = ih e
    go false e = let same : x ≡ y = cc in rw same at h

-- what holds of each holds of the least
pub all_of_least : {X : Type 0} (P : X → Type 0) (below : X → X → Bool) (xs : List X) (y : X) → AllByRecursion P xs → least below xs ≡ Some y → P y
all_of_least P below [] y a e = cc
all_of_least P below (x ∷ xs) y a e = lesser_one P below x y (least below xs) a.0 (all_of_least P below xs y a.1) (sym (least_of_cons below x xs) ∙ e)
