-- How many pass a test, after an insert, a filter and the like; and how many there are where each
-- belongs to somebody who has few.
use Rattle.std.proofs.Common.{◌≡◌, ℕ, ◌+◌, ◌*◌, ◌<◌, ◌≤◌, suc, zero, Bool, true, false, cond, List, [], ◌∷◌, ◌++◌, drop, length, map, refl, sym, ap, ◌∙◌, arith}
use Rattle.std.specs.Prelude.{◌==◌, ◌||◌, not, filter, nat_lt}
use Rattle.std.specs.List.{AllByRecursion}
use Rattle.std.proofs.Math.Nat.{suc-mul}
use Rattle.std.proofs.lemmas.Bool.{eqb-true, ltb-true, not-true}
use Rattle.kd_model.specs.Words.{contains, put_in_order, some_of}
use Rattle.kd_model.proofs.Lists.{all_follow}
use Rattle.kd_replies.specs.Order.{Rises}
use Rattle.kd_commands.proofs.Finds.{all_that_pass, filter_agrees}

abbrev pub tally : Bool → ℕ
tally true = 1
tally false = 0

-- how many pass
abbrev pub count : {X : Type 0} → (X → Bool) → List X → ℕ
count q xs = length (filter q xs)

pub count_cons : {X : Type 0} (q : X → Bool) (x : X) (xs : List X) → count q (x ∷ xs) ≡ tally (q x) + count q xs
count_cons q x xs = go (q x)
  where
    go : (b : Bool) → length (cond b (x ∷ filter q xs) (filter q xs)) ≡ tally b + count q xs
    go true = omega arith
    go false = omega arith

pub count_append : {X : Type 0} (q : X → Bool) (xs ys : List X) → count q (xs ++ ys) ≡ count q xs + count q ys
count_append q [] ys = omega arith
count_append q (x ∷ xs) ys = omega (arith, count_cons q x (xs ++ ys), count_cons q x xs, count_append q xs ys)

pub count_put : {X : Type 0} (q : X → Bool) (below : X → X → Bool) (x : X) (xs : List X) → count q (put_in_order below x xs) ≡ tally (q x) + count q xs
count_put q below x [] = count_cons q x []
count_put q below x (y ∷ ys) = go (below x y) (count_put q below x ys)
  where
    go : (b : Bool) → count q (put_in_order below x ys) ≡ tally (q x) + count q ys
        → count q (elim b [ true ↦ x ∷ y ∷ ys | false ↦ y ∷ put_in_order below x ys ]) ≡ tally (q x) + count q (y ∷ ys)
    go true ih = count_cons q x (y ∷ ys)
    go false ih = omega (arith, ih, count_cons q y (put_in_order below x ys), count_cons q y ys)

pub count_fewer : {X : Type 0} (q p : X → Bool) (xs : List X) → count q (filter p xs) ≤ count q xs
count_fewer q p [] = omega arith
count_fewer q p (x ∷ xs) = go (p x) (count_fewer q p xs)
  where
    go : (b : Bool) → count q (filter p xs) ≤ count q xs → count q (cond b (x ∷ filter p xs) (filter p xs)) ≤ count q (x ∷ xs)
    go true ih = omega (arith, ih, count_cons q x (filter p xs), count_cons q x xs)
    go false ih = omega (arith, ih, count_cons q x xs)

pub count_map : {X : Type 0} (q : X → Bool) (f : X → X) → ((x : X) → q (f x) ≡ q x) → (xs : List X) → count q (map f xs) ≡ count q xs
count_map q f same [] = refl
count_map q f same (x ∷ xs) = omega (arith, ap tally (same x), count_cons q (f x) (map f xs), count_cons q x xs, count_map q f same xs)

pub count_behind : {X : Type 0} (q : X → Bool) (xs : List X) → count q (drop 1 xs) ≤ count q xs
count_behind q [] = omega arith
count_behind q (x ∷ xs) = omega (arith, count_cons q x xs)

pub count_none : {X : Type 0} (q : X → Bool) (xs : List X) → AllByRecursion (λ x. q x ≡ false) xs → count q xs ≡ 0
count_none q [] a = refl
count_none q (x ∷ xs) a = omega (arith, ap tally a.0, count_cons q x xs, count_none q xs a.1)

pub count_some : {X : Type 0} (q : X → Bool) (xs : List X) → some_of q xs ≡ true → 0 < count q xs
count_some q [] e = absurd cc
count_some q (x ∷ xs) e = go (q x) refl e (λ h. count_some q xs h)
  where
    go : (b : Bool) → q x ≡ b → (b || some_of q xs) ≡ true → (some_of q xs ≡ true → 0 < count q xs) → 0 < count q (x ∷ xs)
    go true is h ih = omega (arith, ap tally is, count_cons q x xs)
    go false is h ih = omega (arith, ih h, count_cons q x xs)

pub count_agree : {X : Type 0} (q r : X → Bool) (xs : List X) → AllByRecursion (λ x. q x ≡ r x) xs → count q xs ≡ count r xs
count_agree q r xs a = ap length (filter_agrees q r xs a)

-- those that pass and the others are all
pub count_both : {X : Type 0} (q : X → Bool) (xs : List X) → count q xs + count (λ x. not (q x)) xs ≡ length xs
count_both q [] = refl
count_both q (x ∷ xs) = go (q x) refl (count_both q xs)
  where
    go : (b : Bool) → q x ≡ b → count q xs + count (λ y. not (q y)) xs ≡ length xs → count q (x ∷ xs) + count (λ y. not (q y)) (x ∷ xs) ≡ length (x ∷ xs)
    go true is ih = omega (arith, ap tally is, ap (λ b. tally (not b)) is, count_cons q x xs, count_cons (λ y. not (q y)) x xs, ih)
    go false is ih = omega (arith, ap tally is, ap (λ b. tally (not b)) is, count_cons q x xs, count_cons (λ y. not (q y)) x xs, ih)

pub length_put : {X : Type 0} (below : X → X → Bool) (x : X) (xs : List X) → length (put_in_order below x xs) ≡ 1 + length xs
length_put below x [] = refl
length_put {X} below x (y ∷ ys) = go (below x y) (length_put below x ys)
  where
    go : (b : Bool) → length (put_in_order below x ys) ≡ 1 + length ys → length {A = X} (elim b [ true ↦ x ∷ y ∷ ys | false ↦ y ∷ put_in_order below x ys ]) ≡ 1 + length (y ∷ ys)
    go true ih = omega arith
    go false ih = omega arith

-- ---- many of few

step_times : (n m : ℕ) → m + n * m ≡ suc n * m
step_times n m = omega (arith, suc-mul n m)

-- each belongs to one of some, and each of these has few
pub many_few :
    {X : Type 0} (key : X → ℕ) (ids : List ℕ) (most : ℕ) (xs : List X) → AllByRecursion (λ x. contains (key x) ids ≡ true) xs
    → ((id : ℕ) → count (λ x. key x == id) xs ≤ most) → length xs ≤ length ids * most
many_few key [] most [] a few = omega arith
many_few key [] most (x ∷ xs) a few = absurd (let never : false ≡ true = a.0 in cc)
many_few {X} key (i ∷ ids) most xs a few =
    let others : List X = filter (λ x. not (key x == i)) xs in
    let rest : length others ≤ length ids * most = many_few key ids most others (all_that_pass (λ x. contains (key x) ids ≡ true) (λ x. not (key x == i)) xs (all_follow (λ x. contains (key x) (i ∷ ids) ≡ true) (λ x. not (key x == i) ≡ true → contains (key x) ids ≡ true) xs stays a)) (λ id. fewer id) in
    omega (arith, few i, count_both (λ x. key x == i) xs, rest, step_times (length ids) most)
  where
    stays : (x : X) → contains (key x) (i ∷ ids) ≡ true → not (key x == i) ≡ true → contains (key x) ids ≡ true
    stays x h other = ap (λ b. b || contains (key x) ids) (sym (not-true (key x == i) other)) ∙ h

    fewer : (id : ℕ) → count (λ x. key x == id) (filter (λ x. not (key x == i)) xs) ≤ most
    fewer id = omega (arith, count_fewer (λ x. key x == id) (λ x. not (key x == i)) xs, few id)

-- numbers that rise from one on and stay below another
pub rising_few :
    {X : Type 0} (key : X → ℕ) (xs : List X) (m n : ℕ) → m ≤ n → AllByRecursion (λ x. m ≤ key x) xs → Rises (λ a b. nat_lt (key a) (key b)) xs
    → AllByRecursion (λ x. key x < n) xs → length xs + m ≤ n
rising_few key [] m n le low r high = omega arith
rising_few {X} key (x ∷ xs) m n le low r high =
    let above : AllByRecursion (λ y. key x + 1 ≤ key y) xs = all_follow (λ y. nat_lt (key x) (key y) ≡ true) (λ y. key x + 1 ≤ key y) xs over r.0 in
    omega (arith, low.0, rising_few key xs (key x + 1) n (omega (arith, high.0)) above r.1 high.1)
  where
    over : (y : X) → nat_lt (key x) (key y) ≡ true → key x + 1 ≤ key y
    over y h = omega (arith, ltb-true (key x) (key y) h)

-- and fewer than that, where one of them has fewer than it may
pub many_fewer :
    {X : Type 0} (key : X → ℕ) (ids : List ℕ) (most id : ℕ) (xs : List X) → AllByRecursion (λ x. contains (key x) ids ≡ true) xs
    → ((i : ℕ) → count (λ x. key x == i) xs ≤ most) → contains id ids ≡ true → count (λ x. key x == id) xs < most → length xs < length ids * most
many_fewer key [] most id xs a few inside room = absurd (let never : false ≡ true = inside in cc)
many_fewer {X} key (i ∷ ids) most id xs a few inside room =
    go (id == i) refl inside (many_few key ids most others stay fewer) (λ there. many_fewer key ids most id others stay fewer there (omega (arith, room, count_fewer (λ x. key x == id) (λ x. not (key x == i)) xs)))
  where
    others : List X
    others = filter (λ x. not (key x == i)) xs

    stays : (x : X) → contains (key x) (i ∷ ids) ≡ true → not (key x == i) ≡ true → contains (key x) ids ≡ true
    stays x h other = ap (λ b. b || contains (key x) ids) (sym (not-true (key x == i) other)) ∙ h

    stay : AllByRecursion (λ x. contains (key x) ids ≡ true) others
    stay =
        all_that_pass (λ x. contains (key x) ids ≡ true) (λ x. not (key x == i)) xs
        (all_follow (λ x. contains (key x) (i ∷ ids) ≡ true) (λ x. not (key x == i) ≡ true → contains (key x) ids ≡ true) xs stays a)

    fewer : (n : ℕ) → count (λ x. key x == n) others ≤ most
    fewer n = omega (arith, count_fewer (λ x. key x == n) (λ x. not (key x == i)) xs, few n)

    go : (b : Bool) → (id == i) ≡ b → (b || contains id ids) ≡ true → length others ≤ length ids * most → (contains id ids ≡ true → length others < length ids * most)
        → length xs < length (i ∷ ids) * most
    go true is there rest more =
        let same : id ≡ i = eqb-true id i is in
        omega (arith, ap (λ n. count (λ x. key x == n) xs) same, room, count_both (λ x. key x == i) xs, rest, step_times (length ids) most)
    go false is there rest more = omega (arith, few i, count_both (λ x. key x == i) xs, more there, step_times (length ids) most)
