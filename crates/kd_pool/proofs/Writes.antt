-- What is written into a memory, and what isn't.
use Rattle.std.specs.Prelude.{◌≡◌, ◌≤◌, ◌+◌, ◌-◌, ◌⊎◌, ℕ, List, ◌++◌, drop, length, take}
use Rattle.std.proofs.Common.{ap, append_assoc, arith, inl, inr, length-append, length-drop, length-take, sym, ◌∙◌}
use Rattle.std.proofs.Math.Seq.{drop-append-add, take-append_seam}
use Rattle.std.proofs.lemmas.List.{drop-append-le, drop-drop, drop-take, take-append-le, take-take}
use Rattle.kd_acts.specs.Steps.{written}

-- how long what stands before the end of a write is
front_length : (m xs : List ℕ) (at : ℕ) → at + length xs ≤ length m → length (take at m ++ xs) ≡ at + length xs
front_length m xs at h = omega (arith, length-append (take at m) xs, length-take at m)

-- two pieces one behind the other are one
pub written_twice : (m xs ys : List ℕ) (at : ℕ) → at + (length xs + length ys) ≤ length m → written (written m at xs) (at + length xs) ys ≡ written m at (xs ++ ys)
written_twice m xs ys at h =
    let front : List ℕ = take at m ++ xs in
    let rest : List ℕ = drop (at + length xs) m in
    let p : at + length xs ≡ length front = sym (front_length m xs at (omega arith)) in
    let first : take (at + length xs) (front ++ rest) ≡ front = ap (λ n. take n (front ++ rest)) p ∙ take-append_seam front rest in
    let behind : drop (at + length xs + length ys) (front ++ rest) ≡ drop (length ys) rest = ap (λ n. drop (n + length ys) (front ++ rest)) p ∙ drop-append-add front rest (length ys) in
    let last : drop (length ys) rest ≡ drop (at + length (xs ++ ys)) m = drop-drop (length ys) (at + length xs) m ∙ ap (λ n. drop n m) (omega (arith, length-append xs ys)) in
    ap (λ zs. zs ++ ys ++ drop (at + length xs + length ys) (front ++ rest)) first ∙ ap (λ zs. front ++ ys ++ zs) (behind ∙ last) ∙ ap (λ zs. zs ++ drop (at + length (xs ++ ys)) m) (append_assoc (take at m) xs ys)

-- a write keeps the length
pub length_written : (m xs : List ℕ) (at : ℕ) → at + length xs ≤ length m → length (written m at xs) ≡ length m
length_written m xs at h = omega (arith, length-append (take at m ++ xs) (drop (at + length xs) m), front_length m xs at h, length-drop (at + length xs) m)

-- what is written stands there
pub written_there : (m xs : List ℕ) (at len : ℕ) → at + length xs ≤ length m → length xs ≡ len → take len (drop at (written m at xs)) ≡ xs
written_there m xs at len h e =
    let rest : List ℕ = drop (at + length xs) m in
    let whole : written m at xs ≡ take at m ++ (xs ++ rest) = append_assoc (take at m) xs rest in
    let p : at ≡ length (take at m) + 0 = omega (arith, length-take at m) in
    let there : drop at (take at m ++ (xs ++ rest)) ≡ xs ++ rest = ap (λ n. drop n (take at m ++ (xs ++ rest))) p ∙ drop-append-add (take at m) (xs ++ rest) 0 in
    ap (λ zs. take len (drop at zs)) whole ∙ ap (take len) there ∙ ap (λ n. take n (xs ++ rest)) (sym e) ∙ take-append_seam xs rest

-- a range that the write doesn't meet stays
pub written_elsewhere : (m xs : List ℕ) (at low len : ℕ) → at + length xs ≤ length m → ((low + len ≤ at) ⊎ (at + length xs ≤ low)) → take len (drop low (written m at xs)) ≡ take len (drop low m)
written_elsewhere m xs at low len h (inl p) =
    let rest : List ℕ = drop (at + length xs) m in
    let whole : written m at xs ≡ take at m ++ (xs ++ rest) = append_assoc (take at m) xs rest in
    let inside : low ≤ length (take at m) = omega (arith, length-take at m) in
    let reach : len ≤ length (drop low (take at m)) = omega (arith, length-take at m, length-drop low (take at m)) in
    let split : at ≡ low + (at - low) = omega arith in
    ap (λ zs. take len (drop low zs)) whole
    ∙ ap (take len) (drop-append-le low (take at m) (xs ++ rest) inside)
    ∙ take-append-le len (drop low (take at m)) (xs ++ rest) reach
    ∙ ap (λ n. take len (drop low (take n m))) split
    ∙ ap (take len) (drop-take low (at - low) m)
    ∙ take-take len (at - low) (drop low m) (omega arith)
written_elsewhere m xs at low len h (inr p) =
    let front : List ℕ = take at m ++ xs in
    let rest : List ℕ = drop (at + length xs) m in
    let split : low ≡ length front + (low - (at + length xs)) = omega (arith, front_length m xs at h) in
    let there : drop low (front ++ rest) ≡ drop (low - (at + length xs)) rest = ap (λ n. drop n (front ++ rest)) split ∙ drop-append-add front rest (low - (at + length xs)) in
    let back : drop (low - (at + length xs)) rest ≡ drop low m = drop-drop (low - (at + length xs)) (at + length xs) m ∙ ap (λ n. drop n m) (omega arith) in
    ap (take len) (there ∙ back)
