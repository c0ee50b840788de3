-- A list in two parts, of which the second is handed out and the first grows.
use Rattle.std.proofs.Common.{◌≡◌, ◌≤◌, ◌+◌, ◌-◌, ℕ, suc, zero, List, [], ◌∷◌, ◌++◌, take, drop, length, nat_eq, refl, ap, ◌∙◌, arith, add-one, Result, Ok, is_ok, if◌then◌else◌}
use Rattle.std.specs.List.{insert}
use Rattle.std.proofs.lemmas.Bool.Decides.{nat_tests}
use Rattle.kd_model.specs.Words.{is_empty}
use Rattle.kd_outside.specs.Racks.{with_one_back}

-- nothing is left behind a place where the list ends there
pub over_at : {X : Type 0} (n : ℕ) (xs : List X) → n ≤ length xs → nat_eq n (length xs) ≡ is_empty (drop n xs)
over_at zero [] h = refl
over_at zero (x ∷ xs) h = grind (arith, nat_tests)
over_at (suc n) [] h = absurd (omega (arith, h))
over_at (suc n) (x ∷ xs) h =
    let rest : n ≤ length xs = omega (arith, h) in
    let same : nat_eq (suc n) (suc (length xs)) ≡ nat_eq n (length xs) = grind (arith, nat_tests) in
    same ∙ over_at n xs rest

drop_of_insert : {X : Type 0} (n : ℕ) (xs : List X) (x : X) → n ≤ length xs → drop (suc n) (insert xs n x) ≡ drop n xs
drop_of_insert zero xs x h = refl
drop_of_insert (suc n) [] x h = absurd (omega (arith, h))
drop_of_insert (suc n) (y ∷ ys) x h = drop_of_insert n ys x (omega (arith, h))

take_of_insert : {X : Type 0} (n : ℕ) (xs : List X) (x : X) → n ≤ length xs → take (suc n) (insert xs n x) ≡ take n xs ++ x ∷ []
take_of_insert zero xs x h = refl
take_of_insert (suc n) [] x h = absurd (omega (arith, h))
take_of_insert (suc n) (y ∷ ys) x h = ap (y ∷◌) (take_of_insert n ys x (omega (arith, h)))

-- what a call that went well made
pub made_ok : {T E A : Type 0} (r : Result T E) (x : T) (a b : A) → r ≡ Ok x → (if is_ok r then a else b) ≡ a
made_ok r x a b h = rw h refl

-- one that is put between those that came back and those to come is the last that came back
pub put_back : {X : Type 0} (xs ys : List X) (n out : ℕ) (x : X) → n ≤ length xs → ys ≡ insert xs n x
    → record { coming = drop (n + 1) ys; back = take (n + 1) ys; out = out - 1 } ≡ with_one_back x (record { coming = drop n xs; back = take n xs; out = out })
put_back xs ys n out x h e = rw (e, add-one n, drop_of_insert n xs x h, take_of_insert n xs x h) refl
