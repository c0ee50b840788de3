-- A number has an entry where one of the entries is of that number.
use Rattle.std.specs.Prelude.{◌≡◌, ℕ, Bool, true, false, List, [], ◌∷◌, nat_eq, refl}
use Rattle.std.proofs.Common.{arith}
use Rattle.std.proofs.lemmas.Bool.Decides.{nat_tests}
use Rattle.kd_model.specs.Words.{some_of}
use Rattle.kd_queue.specs.declared.entry.Entry.{Entry}
use Rattle.kd_queue.specs.Order.{has_entry, is_entry_of}

same : (a b : ℕ) → nat_eq a b ≡ nat_eq b a
same a b = go (nat_eq b a) refl
  where
    go : (t : Bool) → nat_eq b a ≡ t → nat_eq a b ≡ t
    go true e = grind (arith, nat_tests)
    go false e = grind (arith, nat_tests)

pub has_if : (n : ℕ) (es : List Entry) → has_entry n es ≡ some_of (is_entry_of n) es
has_if n [] = refl
has_if n (e ∷ es) = rw (same n e.number, has_if n es) refl
