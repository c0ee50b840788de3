-- Names in byte order.
use Rattle.std.proofs.Common.{◌≡◌, ℕ, zero, suc, true, ◌+◌, ◌-◌, List, [], ◌∷◌, ◌++◌, length, Some, refl, sym, ap, ◌∙◌, arith}
use Rattle.std.specs.List.{slice_get}
use Rattle.std.proofs.Math.Bool.{and-true}
use Rattle.std.proofs.lemmas.Bool.{and_parts}
use Rattle.kd_model.specs.Words.{text_below}
use Rattle.kd_image.specs.Items.{rising}

rising_behind : (ns : List (List ℕ)) (k : ℕ) (l n : List ℕ) → rising ns ≡ true → k + 1 ≡ length ns → Some l ≡ slice_get ns k → rising (ns ++ n ∷ []) ≡ text_below l n
rising_behind [] k l n up len is = absurd (omega arith)
rising_behind (x ∷ []) zero l n up len is =
    let same : l ≡ x = cc in
    and-true (text_below x n) ∙ ap (λ (t : List ℕ). text_below t n) (sym same)
rising_behind (x ∷ []) (suc k) l n up len is = absurd (omega arith)
rising_behind (x ∷ z ∷ ns) zero l n up len is = absurd (omega arith)
rising_behind (x ∷ z ∷ ns) (suc k) l n up len is =
    let p = and_parts (text_below x z) (rising (z ∷ ns)) up in
    rw p.0 (rising_behind (z ∷ ns) k l n p.1 (omega arith) is)

-- names rise with one more if that is above the last of them
pub rising_push : (ns : List (List ℕ)) (l n : List ℕ) → rising ns ≡ true → Some l ≡ slice_get ns (length ns - 1) → rising (ns ++ n ∷ []) ≡ text_below l n
rising_push [] l n up is = absurd cc
rising_push (x ∷ ns) l n up is = rising_behind (x ∷ ns) (length (x ∷ ns) - 1) l n up (omega arith) is

-- the names in front rise too
pub rising_front : (ns ms : List (List ℕ)) → rising (ns ++ ms) ≡ true → rising ns ≡ true
rising_front [] ms up = refl
rising_front (x ∷ []) ms up = refl
rising_front (x ∷ z ∷ ns) ms up =
    let p = and_parts (text_below x z) (rising (z ∷ ns ++ ms)) up in
    rw p.0 (rising_front (z ∷ ns) ms p.1)
