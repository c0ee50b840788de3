-- What filters, finds and inserts in order keep.
use Rattle.std.specs.Prelude.{◌≡◌, ℕ, Bool, true, false, cond, not, List, [], ◌∷◌, ◌++◌, length, map, nat_lt, Option, Some, None, filter, refl, unwrap_or}
use Rattle.std.specs.List.{AllByRecursion, IsDistinct, find, insert, position, position_or_len, prefix_len, range_with_len}
use Rattle.std.proofs.Common.{◌+◌, ap, arith, sym, ◌∙◌, ◌≤◌, ◌<◌, add-one, drop, get_or, suc, zero}
use Rattle.std.proofs.Math.Seq.{drop-cons}
use Rattle.std.proofs.lemmas.Bool.Decides.{nat_tests}
use Rattle.std.proofs.lemmas.List.Sums.{prefix_len-le-length}
use Rattle.kd_model.specs.Words.{put_in_order}

-- a filter keeps what holds of each
pub all_of_filter : {X : Type 0} (P : X → Type 0) (p : X → Bool) (xs : List X) → AllByRecursion P xs → AllByRecursion P (filter p xs)
all_of_filter P p [] a = tt
all_of_filter P p (x ∷ xs) a =
    elim (p x) as (λ b. AllByRecursion P (cond b (x ∷ filter p xs) (filter p xs))) [ true ↦ (a.0, all_of_filter P p xs a.1) | false ↦ all_of_filter P p xs a.1 ]

-- what holds of each of two lists holds of each of both
pub all_of_append : {X : Type 0} (P : X → Type 0) (xs ys : List X) → AllByRecursion P xs → AllByRecursion P ys → AllByRecursion P (xs ++ ys)
all_of_append P [] ys a b = b
all_of_append P (x ∷ xs) ys a b = (a.0, all_of_append P xs ys a.1 b)

-- what follows for each follows for all
pub all_follow : {X : Type 0} (P Q : X → Type 0) (xs : List X) → ((x : X) → P x → Q x) → AllByRecursion P xs → AllByRecursion Q xs
all_follow P Q [] f a = tt
all_follow P Q (x ∷ xs) f a = (f x a.0, all_follow P Q xs f a.1)

-- an insert keeps what holds of each
pub all_of_put : {X : Type 0} (P : X → Type 0) (below : X → X → Bool) (x : X) (xs : List X) → P x → AllByRecursion P xs → AllByRecursion P (put_in_order below x xs)
all_of_put P below x [] h a = (h, tt)
all_of_put P below x (y ∷ ys) h a =
    elim (below x y) as (λ b. AllByRecursion P (elim b [ true ↦ x ∷ y ∷ ys | false ↦ y ∷ put_in_order below x ys ])) [ true ↦ (h, a) | false ↦ (a.0, all_of_put P below x ys h a.1) ]

found_step : {X : Type 0} (p : X → Bool) (x y : X) (o : Option X) (b : Bool) → p x ≡ b → (o ≡ Some y → p y ≡ true) → cond b (Some x) o ≡ Some y → p y ≡ true
found_step p x y o true e ih h = let same : x ≡ y = cc in ap p (sym same) ∙ e
found_step p x y o false e ih h = ih h

-- what is found passes the test
pub found_passes : {X : Type 0} (p : X → Bool) (xs : List X) (y : X) → find p xs ≡ Some y → p y ≡ true
found_passes p [] y h = cc
found_passes p (x ∷ xs) y h = found_step p x y (find p xs) (p x) refl (found_passes p xs y) h

found_one : {X : Type 0} (P : X → Type 0) (x y : X) (o : Option X) (b : Bool) → P x → (o ≡ Some y → P y) → cond b (Some x) o ≡ Some y → P y
found_one P x y o true h ih e = let same : x ≡ y = cc in rw same at h
found_one P x y o false h ih e = ih e

-- what holds of each holds of what is found
pub all_of_found : {X : Type 0} (P : X → Type 0) (p : X → Bool) (xs : List X) (y : X) → AllByRecursion P xs → find p xs ≡ Some y → P y
all_of_found P p [] y a h = cc
all_of_found P p (x ∷ xs) y a h = found_one P x y (find p xs) (p x) a.0 (all_of_found P p xs y a.1) h

-- an insert commutes with a map that keeps the order
pub map_of_put : {X Y : Type 0} (f : X → Y) (below : X → X → Bool) (under : Y → Y → Bool) → ((a b : X) → below a b ≡ under (f a) (f b)) → (x : X) (xs : List X) → map f (put_in_order below x xs) ≡ put_in_order under (f x) (map f xs)
map_of_put f below under same x [] = refl
map_of_put f below under same x (y ∷ ys) = rw (sym (same x y)) (go (map_of_put f below under same x ys) (below x y))
  where
    go : map f (put_in_order below x ys) ≡ put_in_order under (f x) (map f ys) → (b : Bool) → map f (elim b [ true ↦ x ∷ y ∷ ys | false ↦ y ∷ put_in_order below x ys ]) ≡ elim b [ true ↦ f x ∷ f y ∷ map f ys | false ↦ f y ∷ put_in_order under (f x) (map f ys) ]
    go e true = refl
    go e false = ap (f y ∷◌) e

-- a filter commutes with a map that keeps the test
pub map_of_filter : {X Y : Type 0} (f : X → Y) (p : X → Bool) (q : Y → Bool) → ((x : X) → p x ≡ q (f x)) → (xs : List X) → map f (filter p xs) ≡ filter q (map f xs)
map_of_filter f p q same [] = refl
map_of_filter f p q same (x ∷ xs) = rw (sym (same x)) (go (map_of_filter f p q same xs) (p x))
  where
    go : map f (filter p xs) ≡ filter q (map f xs) → (b : Bool) → map f (cond b (x ∷ filter p xs) (filter p xs)) ≡ cond b (f x ∷ filter q (map f xs)) (filter q (map f xs))
    go e true = ap (f x ∷◌) e
    go e false = e

-- a filter keeps elements apart
pub distinct_of_filter : {X : Type 0} (same : X → X → Bool) (p : X → Bool) (xs : List X) → IsDistinct same xs → IsDistinct same (filter p xs)
unfolding IsDistinct
distinct_of_filter same p [] d = tt
distinct_of_filter same p (x ∷ xs) d =
    elim (p x) as (λ b. IsDistinct same (cond b (x ∷ filter p xs) (filter p xs))) [
      | true ↦ (all_of_filter (λ y. same x y ≡ false) p xs d.0, distinct_of_filter same p xs d.1)
      | false ↦ distinct_of_filter same p xs d.1
    ]

-- an insert keeps elements apart, where the new one differs from each
pub distinct_of_put : {X : Type 0} (same below : X → X → Bool) (x : X) (xs : List X) → AllByRecursion (λ y. same x y ≡ false) xs → AllByRecursion (λ y. same y x ≡ false) xs → IsDistinct same xs → IsDistinct same (put_in_order below x xs)
unfolding IsDistinct
distinct_of_put same below x [] a b d = (tt, tt)
distinct_of_put same below x (y ∷ ys) a b d =
    elim (below x y) as (λ c. IsDistinct same (elim c [ true ↦ x ∷ y ∷ ys | false ↦ y ∷ put_in_order below x ys ])) [
      | true ↦ (a, d)
      | false ↦ (all_of_put (λ z. same y z ≡ false) below x ys b.0 d.0, distinct_of_put same below x ys a.1 b.1 d.1)
    ]

-- an insert in order stands before the first that is above it
pub put_at_place : {X : Type 0} (below : X → X → Bool) (x : X) (xs : List X) → put_in_order below x xs ≡ insert xs (position_or_len (below x) xs) x
put_at_place below x [] = refl
put_at_place {X = X} below x (y ∷ ys) = go (below x y) (put_at_place below x ys)
  where
    go : (b : Bool) → put_in_order below x ys ≡ insert ys (position_or_len (below x) ys) x → elim b [ true ↦ x ∷ y ∷ ys | false ↦ y ∷ put_in_order below x ys ] ≡ insert (y ∷ ys) (cond (not b) (1 + prefix_len (λ z. not (below x z)) ys) 0) x
    go true e = refl
    go false e = let next : 1 + prefix_len (λ z. not (below x z)) ys ≡ suc (prefix_len (λ z. not (below x z)) ys) = omega arith in rw next (ap (y ∷◌) e)

first_or_length : (m n : ℕ) → m ≤ n → m ≡ unwrap_or (cond (nat_lt m n) (Some m) None) n
first_or_length m n h = go (nat_lt m n) refl
  where
    go : (b : Bool) → nat_lt m n ≡ b → m ≡ unwrap_or (cond b (Some m) None) n
    go true e = refl
    go false e = grind (arith, nat_tests)

-- the same by `position`, which finds no place where the new one goes last
pub put_before : {X : Type 0} (below : X → X → Bool) (x : X) (xs : List X) → put_in_order below x xs ≡ insert xs (unwrap_or (position (below x) xs) (length xs)) x
put_before below x xs = put_at_place below x xs ∙ ap (λ n. insert xs n x) (first_or_length (position_or_len (below x) xs) (length xs) (prefix_len-le-length (λ y. not (below x y)) xs))

-- what is left at a place is the element there and what is left behind it
pub rest_at : {X : Type 0} (xs : List X) (i : ℕ) (x : X) → i < length xs → x ≡ get_or xs i x → drop i xs ≡ x ∷ drop (i + 1) xs
rest_at xs i x h e = drop-cons xs i x h ∙ ap (λ y. y ∷ drop (suc i) xs) (sym e) ∙ ap (λ n. x ∷ drop n xs) (sym (add-one i))

-- what holds of each holds of one more
pub all_of_push : {X : Type 0} (P : X → Type 0) (xs : List X) (x : X) → AllByRecursion P xs → P x → AllByRecursion P (xs ++ x ∷ [])
all_of_push P [] x a h = (h, tt)
all_of_push P (y ∷ xs) x a h = (a.0, all_of_push P xs x a.1 h)

-- the numbers of a range are below its end
pub range_below : (n from : ℕ) → AllByRecursion (λ k. k < from + n) (range_with_len from n)
range_below zero from = tt
range_below (suc n) from = (omega arith, all_follow _ _ _ (λ k h. omega arith) (range_below n (from + 1)))

-- what holds of each that a map makes holds of each under it, and back
pub all_under : {X Y : Type 0} (P : Y → Type 0) (f : X → Y) (xs : List X) → AllByRecursion P (map f xs) → AllByRecursion (λ x. P (f x)) xs
all_under P f [] a = tt
all_under P f (x ∷ xs) a = (a.0, all_under P f xs a.1)

pub all_over : {X Y : Type 0} (P : Y → Type 0) (f : X → Y) (xs : List X) → AllByRecursion (λ x. P (f x)) xs → AllByRecursion P (map f xs)
all_over P f [] a = tt
all_over P f (x ∷ xs) a = (a.0, all_over P f xs a.1)

-- what follows for each from two facts follows for all
pub all_both : {X : Type 0} (P Q R : X → Type 0) (xs : List X) → ((x : X) → P x → Q x → R x) → AllByRecursion P xs → AllByRecursion Q xs → AllByRecursion R xs
all_both P Q R [] f a b = tt
all_both P Q R (x ∷ xs) f a b = (f x a.0 b.0, all_both P Q R xs f a.1 b.1)

-- elements are apart under a map as what it makes of them is, and back
pub distinct_under : {X Y : Type 0} (f : X → Y) (same : Y → Y → Bool) (xs : List X) → IsDistinct same (map f xs) → IsDistinct (λ a b. same (f a) (f b)) xs
unfolding IsDistinct
distinct_under f same [] d = tt
distinct_under f same (x ∷ xs) d = (all_under (λ y. same (f x) y ≡ false) f xs d.0, distinct_under f same xs d.1)

pub distinct_over : {X Y : Type 0} (f : X → Y) (same : Y → Y → Bool) (xs : List X) → IsDistinct (λ a b. same (f a) (f b)) xs → IsDistinct same (map f xs)
unfolding IsDistinct
distinct_over f same [] d = tt
distinct_over f same (x ∷ xs) d = (all_over (λ y. same (f x) y ≡ false) f xs d.0, distinct_over f same xs d.1)
