-- Lists that are alike so far.
use Rattle.std.proofs.Common.{◌≡◌, ℕ, ◌+◌, ◌<◌, ◌≤◌, List, [], ◌∷◌, ◌++◌, length, get_or, take, drop, sym, ap, ◌∙◌, length-drop, arith}
use Rattle.std.proofs.lemmas.List.{drop_more, take_more}

heads : {X : Type 0} (x y : X) (xs ys : List X) → x ∷ xs ≡ y ∷ ys → x ≡ y
heads x y xs ys e = cc

tails : {X : Type 0} (x y : X) (xs ys : List X) → x ∷ xs ≡ y ∷ ys → xs ≡ ys
tails x y xs ys e = cc

pub one_more_alike : {X : Type 0} (xs ys rest more : List X) (i : ℕ) (x first : X) → i < length xs → x ≡ get_or xs i x → take i xs ≡ take i ys → rest ≡ drop i ys → rest ≡ first ∷ more → i ≤ length ys → x ≡ first
    → (take (i + 1) xs ≡ take (i + 1) ys) × (more ≡ drop (i + 1) ys) × (i + 1 ≤ length ys)
one_more_alike xs ys rest more i x first lt is front here parts le same =
    let below : i < length ys = omega (arith, ap length here, ap length parts, length-drop i ys) in
    let split : first ∷ more ≡ get_or ys i first ∷ drop (i + 1) ys = sym parts ∙ here ∙ drop_more ys i first below in
    let its : first ≡ get_or ys i first = heads first (get_or ys i first) more (drop (i + 1) ys) split in
    let one : take (i + 1) xs ≡ take i xs ++ first ∷ [] = take_more xs i x lt ∙ ap (λ y. take i xs ++ y ∷ []) (sym is ∙ same) in
    let two : take (i + 1) ys ≡ take i ys ++ first ∷ [] = take_more ys i first below ∙ ap (λ y. take i ys ++ y ∷ []) (sym its) in
    (one ∙ ap (λ l. l ++ first ∷ []) front ∙ sym two, tails first (get_or ys i first) more (drop (i + 1) ys) split, omega (arith, below))
