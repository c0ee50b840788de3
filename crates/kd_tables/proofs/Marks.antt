-- Marks of seats, and the sets that they are.
use Rattle.std.proofs.Common.{◌≡◌, ℕ, ◌<◌, ◌≤◌, Bool, true, false, cond, List, [], ◌∷◌, ◌++◌, length, get_or, set, refl, sym, ap, ◌∙◌, arith, replicate}
use Rattle.std.specs.Prelude.{◌==◌, ◌||◌, ◌&&◌, not, filter, nat_eq}
use Rattle.std.specs.List.{range_with_len}
use Rattle.std.proofs.Math.Bool.{and-false, or-true}
use Rattle.std.proofs.Math.ListN.{length-set}
use Rattle.std.proofs.lemmas.Bool.{eqb-false, eqb-true, ne_eqb}
use Rattle.std.proofs.lemmas.Grind.{get_or-set_at}
use Rattle.std.proofs.lemmas.List.{get_or-set_other}
use Rattle.std.proofs.lemmas.List.Folds.{list_any-append}
use Rattle.std.proofs.lemmas.Map.Views.{any-filter_same}
use Rattle.kd_model.specs.Words.{but_those, contains}
use Rattle.kd_model.proofs.Lists.{all_follow, range_below}
use Rattle.kd_model.proofs.Truth.{and_true, or_false}
use Rattle.kd_commands.specs.State.{seat_set}
use Rattle.kd_commands.proofs.Finds.{filter_agrees, passes_none}
use Rattle.kd_commands.proofs.SeatSets.{range_has}
use Rattle.kd_tables.specs.Room.{marked}

-- no marks, no seats
pub none_marked : marked (replicate 64 false) ≡ []
unfolding marked
none_marked = refl

-- a seat is among them where it has a mark
marked_at : (marks : List Bool) (n : ℕ) → contains n (marked marks) ≡ (get_or marks n false && contains n (range_with_len 0 64))
unfolding marked
marked_at marks n =
    any-filter_same (λ k. n == k) (λ k. get_or marks k false) (get_or marks n false)
    (λ k e. ap (λ m. get_or marks m false) (sym (eqb-true n k e))) (range_with_len 0 64)

pub mark_here : (marks : List Bool) (n : ℕ) → n < 64 → contains n (marked marks) ≡ get_or marks n false
mark_here marks n low =
    marked_at marks n
    ∙ ap (λ b. get_or marks n false && b) (range_has n 0 64 (omega arith) (omega (arith, low)))
    ∙ and_true (get_or marks n false)

above : (n : ℕ) → 64 ≤ n → contains n (range_with_len 0 64) ≡ false
above n high =
    passes_none (λ k. n == k) (range_with_len 0 64)
    (all_follow (λ k. k < 64) (λ k. (n == k) ≡ false) (range_with_len 0 64) (λ k h. ne_eqb n k (λ e. omega (arith, e, h, high))) (range_below 64 0))

-- no number above the seats is
pub no_mark_above : (marks : List Bool) (n : ℕ) → 64 ≤ n → contains n (marked marks) ≡ false
no_mark_above marks n high =
    marked_at marks n ∙ ap (λ b. get_or marks n false && b) (above n high) ∙ and-false (get_or marks n false)

-- seats are the same where each of the 64 is in both or in neither
alike : (p q : ℕ → Bool) → ((k : ℕ) → k < 64 → p k ≡ q k) → filter p (range_with_len 0 64) ≡ filter q (range_with_len 0 64)
alike p q same =
    filter_agrees p q (range_with_len 0 64) (all_follow (λ k. k < 64) (λ k. p k ≡ q k) (range_with_len 0 64) same (range_below 64 0))

-- a mark more
pub with_mark : (marks : List Bool) (n : ℕ) → n < 64 → length marks ≡ 64 → marked (set marks n true) ≡ seat_set (n ∷ marked marks)
unfolding marked seat_set
with_mark marks n low long = alike (λ k. get_or (set marks n true) k false) (λ k. contains k (n ∷ marked marks)) (λ k h. one k h (k == n) refl)
  where
    one : (k : ℕ) → k < 64 → (b : Bool) → (k == n) ≡ b → get_or (set marks n true) k false ≡ ((k == n) || contains k (marked marks))
    one k h true e = get_or-set_at marks n k true false (eqb-true k n e) (omega (arith, low, long)) ∙ ap (λ b. b || contains k (marked marks)) (sym e)
    one k h false e =
        get_or-set_other marks n k true false (eqb-false k n e)
        ∙ sym (mark_here marks k h)
        ∙ ap (λ b. b || contains k (marked marks)) (sym e)

-- one filter after another
pub both_filters : {X : Type 0} (p q : X → Bool) (xs : List X) → filter p (filter q xs) ≡ filter (λ x. q x && p x) xs
both_filters p q [] = refl
both_filters {X = X} p q (x ∷ xs) = go (q x) (both_filters p q xs)
  where
    rest : List X
    rest = filter (λ y. q y && p y) xs

    go : (b : Bool) → filter p (filter q xs) ≡ rest → filter p (cond b (x ∷ filter q xs) (filter q xs)) ≡ cond (b && p x) (x ∷ rest) rest
    go true ih = ap (λ ys. cond (p x) (x ∷ ys) ys) ih
    go false ih = ih

marked_but : (marks : List Bool) (n : ℕ) → but_those (λ b. b == n) (marked marks) ≡ filter (λ k. get_or marks k false && not (k == n)) (range_with_len 0 64)
unfolding marked
marked_but marks n = both_filters (λ k. not (k == n)) (λ k. get_or marks k false) (range_with_len 0 64)

-- a mark less
pub without_mark : (marks : List Bool) (n : ℕ) → n < 64 → length marks ≡ 64 → marked (set marks n false) ≡ but_those (λ b. b == n) (marked marks)
unfolding marked
without_mark marks n low long =
    alike (λ k. get_or (set marks n false) k false) (λ k. get_or marks k false && not (k == n)) (λ k h. one k (k == n) refl)
    ∙ sym (marked_but marks n)
  where
    one : (k : ℕ) (b : Bool) → (k == n) ≡ b → get_or (set marks n false) k false ≡ (get_or marks k false && not (k == n))
    one k true e =
        get_or-set_at marks n k false false (eqb-true k n e) (omega (arith, low, long))
        ∙ sym (ap (λ b. get_or marks k false && not b) e ∙ and-false (get_or marks k false))
    one k false e =
        get_or-set_other marks n k false false (eqb-false k n e)
        ∙ sym (ap (λ b. get_or marks k false && not b) e ∙ and_true (get_or marks k false))

-- no other number has one
pub no_mark : (marks : List Bool) (n : ℕ) → 64 ≤ n → marked marks ≡ but_those (λ b. b == n) (marked marks)
unfolding marked
no_mark marks n high =
    alike (λ k. get_or marks k false) (λ k. get_or marks k false && not (k == n)) (λ k h. one k h (k == n) refl)
    ∙ sym (marked_but marks n)
  where
    one : (k : ℕ) → k < 64 → (b : Bool) → (k == n) ≡ b → get_or marks k false ≡ (get_or marks k false && not (k == n))
    one k h true e = absurd (omega (arith, h, high, eqb-true k n e))
    one k h false e = sym (ap (λ b. get_or marks k false && not b) e ∙ and_true (get_or marks k false))

-- ---- marks at several seats

-- those at these seats were set
pub record AreMarked (marks before : List Bool) (seats : List ℕ) : Type 0 where
  pub long : length marks ≡ 64
  pub at : (n : ℕ) → n < 64 → get_or marks n false ≡ (get_or before n false || contains n seats)

pub none_set : (marks before : List Bool) → marks ≡ before → length before ≡ 64 → AreMarked marks before []
none_set marks before e long = record { long = ap length e ∙ long; at = λ n h. ap (λ m. get_or m n false) e ∙ or_false (get_or before n false) }

pub one_set : (marks before : List Bool) (seats : List ℕ) (s : ℕ) → s < 64 → AreMarked marks before seats → AreMarked (set marks s true) before (seats ++ s ∷ [])
one_set marks before seats s low m = record { long = length-set marks s true ∙ m.long; at = λ n h. one n h (n == s) refl }
  where
    all : (n : ℕ) → contains n (seats ++ s ∷ []) ≡ (contains n seats || ((n == s) || false))
    all n = list_any-append (nat_eq n) seats (s ∷ [])

    one : (n : ℕ) → n < 64 → (b : Bool) → (n == s) ≡ b → get_or (set marks s true) n false ≡ (get_or before n false || contains n (seats ++ s ∷ []))
    one n h true e =
        get_or-set_at marks s n true false (eqb-true n s e) (omega (arith, low, m.long))
        ∙ sym (ap (λ b. get_or before n false || b) (all n ∙ ap (λ b. contains n seats || (b || false)) e ∙ or-true (contains n seats)) ∙ or-true (get_or before n false))
    one n h false e =
        get_or-set_other marks s n true false (eqb-false n s e)
        ∙ m.at n h
        ∙ sym (ap (λ b. get_or before n false || b) (all n ∙ ap (λ b. contains n seats || (b || false)) e ∙ sym (or_false (contains n seats))))

pub all_set : (marks before : List Bool) (seats : List ℕ) → AreMarked marks before seats → marked marks ≡ seat_set (marked before ++ seats)
unfolding marked seat_set
all_set marks before seats m =
    alike (λ k. get_or marks k false) (λ k. contains k (marked before ++ seats))
    (λ k h. m.at k h ∙ ap (λ b. b || contains k seats) (sym (mark_here before k h)) ∙ sym (list_any-append (nat_eq k) (marked before) seats))
