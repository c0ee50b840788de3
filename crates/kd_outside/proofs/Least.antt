-- The least of those numbers that pass a bound, one more at the end.
use Rattle.std.proofs.Common.{◌≡◌, ◌<◌, ℕ, suc, ◌+◌, Bool, true, false, List, [], ◌∷◌, ◌++◌, min, take, get_or, length, filter, refl, ap, ◌∙◌, arith}
use Rattle.std.proofs.lemmas.List.Elements.{filter-append}
use Rattle.std.proofs.Math.Seq.{take-suc}
use Rattle.kd_outside.specs.Memory.{least_of}

least_of_more : (ns : List ℕ) (n bound : ℕ) → least_of (ns ++ n ∷ []) bound ≡ min (least_of ns bound) n
least_of_more [] n bound = omega arith
least_of_more (m ∷ ns) n bound =
    let more = least_of_more ns n bound in
    omega (arith, more)

least_of_none : (ns : List ℕ) (bound : ℕ) → least_of (ns ++ []) bound ≡ least_of ns bound
least_of_none [] bound = refl
least_of_none (m ∷ ns) bound = ap (min m) (least_of_none ns bound)

tested : (test : ℕ → Bool) (ns : List ℕ) (n bound : ℕ) (b : Bool) → test n ≡ b → least_of (filter test (ns ++ n ∷ [])) bound ≡ elim b [ true ↦ min (least_of (filter test ns) bound) n | false ↦ least_of (filter test ns) bound ]
tested test ns n bound true e = rw (filter-append test ns (n ∷ []), e) (least_of_more (filter test ns) n bound)
tested test ns n bound false e = rw (filter-append test ns (n ∷ []), e) (least_of_none (filter test ns) bound)

taken : (ns : List ℕ) (i : ℕ) → i < length ns → take (i + 1) ns ≡ take i ns ++ get_or ns i 0 ∷ []
taken ns i inside = let e : i + 1 ≡ suc i = omega arith in rw e (take-suc ns i 0 inside)

-- one more number that passes
pub one_more : (test : ℕ → Bool) (ns : List ℕ) (i bound : ℕ) → i < length ns → test (get_or ns i 0) ≡ true → least_of (filter test (take (i + 1) ns)) bound ≡ min (least_of (filter test (take i ns)) bound) (get_or ns i 0)
one_more test ns i bound inside e = ap (λ l. least_of (filter test l) bound) (taken ns i inside) ∙ tested test (take i ns) (get_or ns i 0) bound true e

-- one that doesn't
pub none_more : (test : ℕ → Bool) (ns : List ℕ) (i bound : ℕ) → i < length ns → test (get_or ns i 0) ≡ false → least_of (filter test (take (i + 1) ns)) bound ≡ least_of (filter test (take i ns)) bound
none_more test ns i bound inside e = ap (λ l. least_of (filter test l) bound) (taken ns i inside) ∙ tested test (take i ns) (get_or ns i 0) bound false e
