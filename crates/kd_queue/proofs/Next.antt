-- What a receive takes is one of those that wait, and goes by the priorities alone.
use Rattle.std.proofs.Common.{◌≡◌, ℤ, Bool, true, false, List, [], ◌∷◌, map, Option, Some, None, refl, ap, sym, ◌∙◌}
use Rattle.std.specs.List.{AllByRecursion}
use Rattle.std.specs.Option.{option_map}
use Rattle.kd_model.specs.Words.{least, lesser, those}
use Rattle.kd_model.proofs.Least.{all_of_least, least_of_cons}
use Rattle.kd_model.proofs.Lists.{all_of_filter, map_of_filter}
use Rattle.kd_queue.specs.Order.{has_priority_over, is_within_limit, next_by}

-- what holds of each that waits holds of the one that is taken
pub all_of_next_by : {X : Type 0} (P : X → Type 0) (priority : X → ℤ) (xs : List X) (limit : Option ℤ) (x : X) → AllByRecursion P xs → next_by priority xs limit ≡ Some x → P x
all_of_next_by P priority [] None x a e = cc
all_of_next_by P priority (y ∷ ys) None x a e = let same : y ≡ x = cc in rw same at a.0
all_of_next_by P priority xs (Some limit) x a e = all_of_least P (has_priority_over priority) (those (is_within_limit priority limit) xs) x (all_of_filter P (is_within_limit priority limit) xs a) e

-- the lesser of two under a map
lesser_of_map : {X Y : Type 0} (f : X → Y) (below : Y → Y → Bool) (x : X) (o : Option X) → lesser below (Some (f x)) (option_map f o) ≡ option_map f (lesser (λ a b. below (f a) (f b)) (Some x) o)
lesser_of_map f below x None = refl
lesser_of_map f below x (Some y) = go (below (f y) (f x))
  where
    go : (b : Bool) → elim b [ true ↦ Some (f y) | false ↦ Some (f x) ] ≡ option_map f (elim b [ true ↦ Some y | false ↦ Some x ])
    go true = refl
    go false = refl

-- the least under a map
least_of_map : {X Y : Type 0} (f : X → Y) (below : Y → Y → Bool) (xs : List X) → least below (map f xs) ≡ option_map f (least (λ a b. below (f a) (f b)) xs)
least_of_map f below [] = refl
least_of_map f below (x ∷ xs) =
    least_of_cons below (f x) (map f xs) ∙ ap (lesser below (Some (f x))) (least_of_map f below xs) ∙ lesser_of_map f below x (least (λ a b. below (f a) (f b)) xs)
    ∙ ap (option_map f) (sym (least_of_cons (λ a b. below (f a) (f b)) x xs))

-- what is taken of a map is what the map makes of what is taken
pub next_of_map : {X Y : Type 0} (f : X → Y) (priority : Y → ℤ) (xs : List X) (limit : Option ℤ) → next_by priority (map f xs) limit ≡ option_map f (next_by (λ x. priority (f x)) xs limit)
next_of_map f priority [] None = refl
next_of_map f priority (x ∷ xs) None = refl
next_of_map f priority xs (Some limit) =
    ap (least (has_priority_over priority)) (sym (map_of_filter f (λ x. is_within_limit priority limit (f x)) (is_within_limit priority limit) (λ x. refl) xs))
    ∙ least_of_map f (has_priority_over priority) (those (λ x. is_within_limit priority limit (f x)) xs)
