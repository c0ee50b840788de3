-- What a pass is after it passed a lock on, and what this tells.
use Rattle.std.proofs.Common.{◌≡◌, ℕ, ◌+◌, ◌<◌, ◌≤◌, ◌==◌, true, false, cond, List, [], ◌∷◌, map, length, get_or, subst, ap, ◌∙◌, arith, length-set, get_or-set_other, get_or-set_same, refl}
use Rattle.std.specs.List.{count_by}
use Rattle.std.specs.Prelude.{Option, All}
use Rattle.std.proofs.lemmas.Grind.{common_steps}
use Rattle.std.proofs.lemmas.List.{get_or_past}
use Rattle.std.proofs.lemmas.List.Elements.{All-head, All-tail}
use Rattle.std.proofs.lemmas.List.FromFn.{length-map-range_with_len}
use mathlib.Core.Logic.{dite}
use native.Mathlib.Decide.{dec_le}
use Rattle.atomic_table.specs.Table.{Me, rest}
use Rattle.kd_turn.specs.declared.views.Cell.{Cell}
use Rattle.kd_hands.specs.declared.views.View.{View}
use Rattle.kd_hands.proofs.Places.{not_both}
use Rattle.kd_hands.proofs.Lists.{each_set, tabled_at}
use Rattle.kd_hands.specs.Views.{part, hand, blank, part_passed, passed_on}
use Rattle.kd_turn.specs.Rule.{hollow}
use Rattle.kd_turn.specs.Told.{Passed}
use Rattle.kd_turn.specs.Seated.{IsSeated}
use Rattle.kd_hands.proofs.Entries.{own_hand}
use Rattle.kd_hands.specs.Locks.{hands_after}

-- a pass holds only what it has a part of
pub within : {E : Type 0} (v : View E) (l : ℕ) → (part v l).holds ≡ true → l < length v.parts
within v l h = dite (dec_le (length v.parts) l) (λ le. absurd (not_both (part v l).holds h (ap (λ q. q.holds) (get_or_past v.parts l blank le))))
    (λ lt. omega arith)

-- the slot that was taken last lies in front
front : {S : Type 0} (l : ℕ) (before : List ℕ) (xs : List (ℕ × S)) (y : S) → map (λ x. x.0) xs ≡ l ∷ before → All (λ x. x.1 ≡ y) xs → xs ≡ (l, y) ∷ rest xs
front l before [] y e a = absurd cc
front l before ((k, z) ∷ xs) y e a = λ i. (ap (λ q. get_or q 0 k) e i, All-head (λ (x : ℕ × _). x.1 ≡ y) (k, z) xs a i) ∷ xs

-- a pass that carries nothing holds nothing
pub holds_nothing : {X E : Type 0} (turns locks : ℕ) (m : Me (Cell X E) (View E)) → IsSeated turns locks m → map (λ x. x.0) m.1 ≡ []
    → (m.1 ≡ []) × ((l : ℕ) → (part m.0 l).holds ≡ false)
holds_nothing {X} {E} turns locks m seated none = (bare m.1 none, (λ l. grind (arith, common_steps, seated.carried l, bare m.1 none)))
  where
    bare : (xs : List (ℕ × Cell X E)) → map (λ x. x.0) xs ≡ [] → xs ≡ []
    bare [] e = refl
    bare (x ∷ xs) e = absurd cc

-- a pass whose slot of the lock l was taken last
module _ {X E : Type 0} (turns locks l : ℕ) (before : List ℕ) (m : Me (Cell X E) (View E)) (old : IsSeated turns locks m)
    (is : map (λ x. x.0) m.1 ≡ l ∷ before) where
  carries : m.1 ≡ (l, hollow) ∷ rest m.1
  carries = front l before m.1 hollow is old.hollows

  counts : (k : ℕ) → count_by (λ x. x.0 == k) m.1 ≡ cond (k == l) 1 0 + count_by (λ x. x.0 == k) (rest m.1)
  counts k = ap (count_by (λ (x : ℕ × Cell X E). x.0 == k)) carries ∙ grind (arith, common_steps)

  pub holds_front : ((part m.0 l).holds ≡ true) × (m.1 ≡ (l, hollow) ∷ rest m.1)
  holds_front = (grind (arith, old.carried l, counts l), carries)

  near : l < length m.0.parts
  near = within m.0 l holds_front.0

  -- after it passed the lock on
  module _ (hand_after : ℕ → E → List ℕ → List ℕ) (empties : E → Option ℕ) (e : E) where
    abbrev after : ℕ → E → (ℕ → List ℕ) → ℕ → List ℕ
    after = hands_after hand_after empties

    pub seated_passed : IsSeated turns locks (passed_on after l e m.0, rest m.1)
    seated_passed =
        let parts = length-set m.0.parts l (part_passed l e m.0) ∙ old.parts in
        let hands = length-map-range_with_len (after l e (hand m.0)) 0 (length m.0.hands) ∙ old.hands in
        let carried = each_set m.0.parts l (part_passed l e m.0) (λ _. blank) near (λ k q. count_by (λ x. x.0 == k) (rest m.1) ≡ cond q.holds 1 0)
        (grind (arith, old.carried l, counts l, holds_front.0)) (λ k n. grind (arith, old.carried k, counts k)) in
        let All' : List (ℕ × Cell X E) → Type 0 = All (λ (x : ℕ × Cell X E). x.1 ≡ hollow) in
        let hollows = All-tail (λ (x : ℕ × Cell X E). x.1 ≡ hollow) (l, hollow) (rest m.1) (subst All' carries old.hollows) in
        record { counted = old.counted; parts = parts; hands = hands; live = old.live; carried = carried; hollows = hollows }

    pub passed_is : Passed after l e m.0 (passed_on after l e m.0)
    passed_is =
        let bare : (i : ℕ) → length m.0.hands ≤ i → after l e (hand m.0) i ≡ [] = λ i le. let wide = old.hands in let long = old.parts in
        own_hand hand_after empties l e (hand m.0) i (λ z. let lt = near in omega arith) (get_or_past m.0.hands i [] le) in
        let hands = tabled_at (length m.0.hands) (after l e (hand m.0)) bare in
        let here = get_or-set_same m.0.parts l (part_passed l e m.0) blank near in
        search (here, hands, get_or-set_other)
