-- The seal that a message names, item by item.
use Rattle.std.proofs.Common.{◌≡◌, ℕ, ◌+◌, ◌<◌, List, [], ◌∷◌, ◌++◌, length, get_or, take, drop, Some, None, refl, ap, sym, ◌∙◌, arith, length-append}
use Rattle.std.proofs.lemmas.List.{take_more, take-append-drop}
use Rattle.kd_wire.specs.declared.item.WireItem.{WireItem}
use Rattle.kd_wire.specs.declared.item.WireItem.TheVariants as item
use Rattle.kd_commands.specs.Items.{Named, payloads, seal_behind, sealed_among}
use Rattle.kd_said.proofs.Sorted.{payloads_behind}

-- behind items that name no seal, those count that are payloads
seal_passes : (n : ℕ) (xs ys : List WireItem) → seal_behind n xs ≡ None → seal_behind n (xs ++ ys) ≡ seal_behind (n + length (payloads xs)) ys
seal_passes n [] ys none = let same : n ≡ n + 0 = omega arith in ap (λ k. seal_behind k ys) same
seal_passes n (item.Payload bytes ∷ xs) ys none =
    let same : n + 1 + length (payloads xs) ≡ n + length (bytes ∷ payloads xs) = omega arith in seal_passes (n + 1) xs ys none ∙ ap (λ k. seal_behind k ys) same
seal_passes n (item.Sealed number start len ∷ xs) ys none = absurd cc
seal_passes n (x ∷ xs) ys none = seal_passes n xs ys none

-- what stands behind the seal that is named changes nothing
seal_stays : (n : ℕ) (xs ys : List WireItem) (v : Named) → seal_behind n xs ≡ Some v → seal_behind n (xs ++ ys) ≡ Some v
seal_stays n [] ys v some = absurd cc
seal_stays n (item.Payload bytes ∷ xs) ys v some = seal_stays (n + 1) xs ys v some
seal_stays n (item.Sealed number start len ∷ xs) ys v some = some
seal_stays n (x ∷ xs) ys v some = seal_stays n xs ys v some

-- an item of another kind names none
names_none : (n : ℕ) (x : WireItem) → ((number start len : ℕ) → x ≡ item.Sealed number start len → ⊥) → seal_behind n (x ∷ []) ≡ None
names_none n (item.Sealed number start len) never = absurd (never number start len refl)
names_none n x never = refl

one_more : (is : List WireItem) (i : ℕ) (x : WireItem) → i < length is → x ≡ get_or is i x → take (i + 1) is ≡ take i is ++ x ∷ []
one_more is i x lt here = take_more is i x lt ∙ ap (λ (y : WireItem). take i is ++ y ∷ []) (sym here)

pub not_yet : (is : List WireItem) (i : ℕ) (x : WireItem) → i < length is → x ≡ get_or is i x → sealed_among (take i is) ≡ None
    → ((number start len : ℕ) → x ≡ item.Sealed number start len → ⊥) → sealed_among (take (i + 1) is) ≡ None
not_yet is i x lt here none never =
    ap sealed_among (one_more is i x lt here) ∙ seal_passes 0 (take i is) (x ∷ []) none ∙ names_none (0 + length (payloads (take i is))) x never

pub place_behind : (is : List WireItem) (i place then : ℕ) (x : WireItem) → i < length is → x ≡ get_or is i x → place ≡ length (payloads (take i is))
    → then ≡ place + length (payloads (x ∷ [])) → then ≡ length (payloads (take (i + 1) is))
place_behind is i place then x lt here so_far more =
    more
    ∙ ap (λ n. n + length (payloads (x ∷ []))) so_far
    ∙ sym (ap (λ (l : List WireItem). length (payloads l)) (one_more is i x lt here) ∙ ap (λ (l : List (List ℕ)). length l) (payloads_behind (take i is) (x ∷ [])) ∙ length-append (payloads (take i is)) (payloads (x ∷ [])))

-- where it is named
pub found_seal : (is : List WireItem) (i place number start len : ℕ) (x : WireItem) → i < length is → x ≡ get_or is i x → sealed_among (take i is) ≡ None → place ≡ length (payloads (take i is))
    → x ≡ item.Sealed number start len → Some (record { number = number; range = record { place = place; start = start; length = len } }) ≡ sealed_among is
found_seal is i place number start len x lt here none so_far says =
    let here_now : 0 + length (payloads (take i is)) ≡ place = omega (arith, so_far) in
    let here_named : seal_behind (0 + length (payloads (take i is))) (x ∷ []) ≡ Some (record { number = number; range = record { place = place; start = start; length = len } }) =
    ap (λ k. seal_behind k (x ∷ [])) here_now ∙ ap (λ (y : WireItem). seal_behind place (y ∷ [])) says in
    let front : sealed_among (take (i + 1) is) ≡ Some (record { number = number; range = record { place = place; start = start; length = len } }) =
    ap sealed_among (one_more is i x lt here) ∙ seal_passes 0 (take i is) (x ∷ []) none ∙ here_named in
    sym (ap sealed_among (sym (take-append-drop (i + 1) is)) ∙ seal_stays 0 (take (i + 1) is) (drop (i + 1) is) _ front)
