-- Plain facts on truth values, options and results.
use Rattle.std.specs.Prelude.{◌⊎◌, ◌≡◌, ◌&&◌, ◌||◌, Bool, true, false, not, cond, IsTrue, Option, None, Some, Result, Ok, Err, is_none, is_ok, is_some}
use Rattle.std.proofs.Common.{refl, sym, ap, inl, inr}
use Rattle.std.proofs.lemmas.Bool.{true≢false}

-- ---- truth values

-- what isn't false is true
pub not_false : (b : Bool) → not b ≡ false → b ≡ true
not_false true e = refl
not_false false e = absurd (true≢false e)

-- what can't be true is false
pub not_true : (b : Bool) → (b ≡ true → ⊥) → b ≡ false
not_true true h = absurd (h refl)
not_true false h = refl

pub and_true : (b : Bool) → (b && true) ≡ b
and_true true = refl
and_true false = refl

pub or_false : (b : Bool) → b ≡ (b || false)
or_false true = refl
or_false false = refl

-- both parts of what is true together
pub both_true : (a b : Bool) → (a && b) ≡ true → (a ≡ true) × (b ≡ true)
both_true true b e = (refl, e)
both_true false b e = absurd (true≢false (sym e))

pub left_true : (a b : Bool) → (a && b) ≡ true → a ≡ true
left_true a b e = (both_true a b e).0

pub right_true : (a b : Bool) → (a && b) ≡ true → b ≡ true
right_true a b e = (both_true a b e).1

-- both parts of what is false in either case
pub both_false : (a b : Bool) → (a || b) ≡ false → (a ≡ false) × (b ≡ false)
both_false true b e = absurd (true≢false e)
both_false false b e = (refl, e)

pub left_false : (a b : Bool) → (a || b) ≡ false → a ≡ false
left_false a b e = (both_false a b e).0

pub right_false : (a b : Bool) → (a || b) ≡ false → b ≡ false
right_false a b e = (both_false a b e).1

-- ---- options and results

pub option_cases : {X : Type 0} (o : Option X) → (o ≡ None) ⊎ ((x : X) × (o ≡ Some x))
option_cases None = inl refl
option_cases (Some x) = inr (x, refl)

-- nothing is no value
pub no_some : {X : Type 0} {x : X} → None ≡ Some x → ⊥
no_some e = true≢false (sym (ap is_some e))

pub same_some : {X : Type 0} (x y : X) → Some x ≡ Some y → x ≡ y
same_some x y e = cc

-- a refusal is no success
pub not_ok : {X E : Type 0} {x : X} {why : E} → Err why ≡ Ok x → ⊥
not_ok e = true≢false (sym (ap is_ok e))

pub none_is : {X : Type 0} (o : Option X) → is_none o ≡ true → o ≡ None
none_is None e = refl
none_is (Some x) e = absurd (true≢false (sym e))

-- a test that let a value through
pub let_through : {X : Type 0} (b : Bool) (o : Option X) (x : X) → cond b None o ≡ Some x → (b ≡ false) × (o ≡ Some x)
let_through true o x e = absurd cc
let_through false o x e = (refl, e)
