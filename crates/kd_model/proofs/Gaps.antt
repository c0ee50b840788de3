-- The gaps of a sound book are the maximal ranges that no slice covers.
use Rattle.std.specs.Prelude.{◌≡◌, ◌<◌, ◌≤◌, ◌+◌, ◌-◌, ◌⊎◌, ℕ, Bool, true, false, List, [], ◌∷◌, ◌++◌, nat_lt, refl}
use Rattle.std.specs.List.{AllByRecursion}
use Rattle.std.proofs.Common.{ap, arith, inl, inr, sym, ◌∙◌}
use Rattle.std.proofs.lemmas.Bool.Decides.{nat_tests}
use Rattle.kd_model.specs.Words.{AnyOf}
use Rattle.kd_model.specs.declared.placed.Gap.{Gap}
use Rattle.kd_model.specs.declared.placed.Placed.{Placed}
use Rattle.kd_model.specs.Slices.{AreInOrder, Book, IsClear, IsMaximal, IsSound, between, slice_end, gaps, gaps_from}
use Rattle.kd_model.proofs.Lists.{all_follow, all_of_append}

-- a maximal range from a place on
pub record IsMaximalFrom (from size : ℕ) (ss : List Placed) (g : Gap) : Type 0 where
  pub low : from ≤ g.start
  pub some : 0 < g.len
  pub inside : g.start + g.len ≤ size
  pub clear : AllByRecursion (IsClear g) ss
  pub below : (g.start ≡ from) ⊎ AnyOf (λ (s : Placed). slice_end s ≡ g.start) ss
  pub above : (g.start + g.len ≡ size) ⊎ AnyOf (λ (s : Placed). s.offset ≡ g.start + g.len) ss

behind : (from size : ℕ) (ss : List Placed) → AreInOrder from size ss → AllByRecursion (λ (s : Placed). (from ≤ s.offset) × (0 < s.len) × (slice_end s ≤ size)) ss
behind from size [] o = tt
behind from size (s ∷ ss) o = ((o.0, o.1, ends (slice_end s) ss o.2), all_follow _ _ ss (λ t p. (omega arith, p.1, p.2)) (behind (slice_end s) size ss o.2))
  where
    ends : (at : ℕ) (ts : List Placed) → AreInOrder at size ts → at ≤ size
    ends at [] o = o
    ends at (t ∷ ts) o = let more = ends (slice_end t) ts o.2 in omega arith

-- a fact of some and a fact of each meet
meets : {X : Type 0} (P Q : X → Type 0) (R : Type 0) (xs : List X) → ((x : X) → P x → Q x → R) → AllByRecursion P xs → AnyOf Q xs → R
meets P Q R [] f a b = absurd b
meets P Q R (x ∷ xs) f a (inl q) = f x a.0 q
meets P Q R (x ∷ xs) f a (inr b) = meets P Q R xs f a.1 b

one_between : (P : Gap → Type 0) (from upto : ℕ) → (from < upto → P (record { start = from; len = upto - from })) → AllByRecursion P (between from upto)
one_between P from upto f = go (nat_lt from upto) refl
  where
    go : (b : Bool) → nat_lt from upto ≡ b → AllByRecursion P (elim b [ true ↦ record { start = from; len = upto - from } ∷ [] | false ↦ [] ])
    go true e = (f (grind (arith, nat_tests)), tt)
    go false e = tt

all_maximal : (from size : ℕ) (ss : List Placed) → AreInOrder from size ss → AllByRecursion (IsMaximalFrom from size ss) (gaps_from from size ss)
all_maximal from size [] o =
    one_between _ from size (λ h. record { low = omega arith; some = omega arith; inside = omega arith; clear = tt; below = inl refl; above = inl (omega arith) })
all_maximal from size (s ∷ ss) o =
    let later = behind (slice_end s) size ss o.2 in
    let ends : slice_end s ≤ size = (behind from size (s ∷ ss) o).0.2 in
    all_of_append _ (between from s.offset) (gaps_from (slice_end s) size ss)
    (one_between _ from s.offset (λ h. record {
      low = omega arith;
      some = omega arith;
      inside = omega arith;
      clear = (inr (omega arith), all_follow _ _ ss (λ t p. inr (omega arith)) later);
      below = inl refl;
      above = inr (inl (omega arith));
    }))
    (all_follow _ _ (gaps_from (slice_end s) size ss) (λ g m. record {
      low = omega (arith, m.low);
      some = m.some;
      inside = m.inside;
      clear = (inl m.low, m.clear);
      below = elim m.below [ inl e ↦ inr (inl (omega (arith, e))) | inr a ↦ inr (inr a) ];
      above = elim m.above [ inl e ↦ inl e | inr a ↦ inr (inr a) ];
    }) (all_maximal (slice_end s) size ss o.2))

in_between : (from upto : ℕ) (g : Gap) → g.start ≡ from → g.start + g.len ≡ upto → 0 < g.len → AnyOf (λ (h : Gap). h ≡ g) (between from upto)
in_between from upto g e f some = go (nat_lt from upto) refl
  where
    go : (b : Bool) → nat_lt from upto ≡ b → AnyOf (λ (h : Gap). h ≡ g) (elim b [ true ↦ record { start = from; len = upto - from } ∷ [] | false ↦ [] ])
    go true h =
        let P : ℕ → ℕ → Gap = λ a n. record { start = a; len = n } in
        let long : upto - from ≡ g.len = omega arith in
        inl (ap (λ a. P a (upto - from)) (sym e) ∙ ap (P g.start) long)
    go false h = absurd (grind (arith, nat_tests))

any_left : {X : Type 0} (P : X → Type 0) (xs ys : List X) → AnyOf P xs → AnyOf P (xs ++ ys)
any_left P [] ys a = absurd a
any_left P (x ∷ xs) ys (inl p) = inl p
any_left P (x ∷ xs) ys (inr a) = inr (any_left P xs ys a)

any_right : {X : Type 0} (P : X → Type 0) (xs ys : List X) → AnyOf P ys → AnyOf P (xs ++ ys)
any_right P [] ys a = a
any_right P (x ∷ xs) ys a = inr (any_right P xs ys a)

any_maximal : (from size : ℕ) (ss : List Placed) (g : Gap) → AreInOrder from size ss → IsMaximalFrom from size ss g → AnyOf (λ (h : Gap). h ≡ g) (gaps_from from size ss)
any_maximal from size [] g o m = elim m.below [ inr a ↦ absurd a | inl e ↦ elim m.above [ inr a ↦ absurd a | inl f ↦ in_between from size g e f m.some ] ]
any_maximal from size (s ∷ ss) g o m = elim m.clear.0 [ inr c ↦ before c | inl c ↦ any_right _ (between from s.offset) (gaps_from (slice_end s) size ss) (any_maximal (slice_end s) size ss g o.2 (after c)) ]
  where
    later : AllByRecursion (λ (t : Placed). (slice_end s ≤ t.offset) × (0 < t.len) × (slice_end t ≤ size)) ss
    later = behind (slice_end s) size ss o.2

    ends : slice_end s ≤ size
    ends = (behind from size (s ∷ ss) o).0.2

    first : g.start + g.len ≤ s.offset → g.start ≡ from
    first c = elim m.below [
      | inl e ↦ e
      | inr (inl q) ↦ absurd (omega (arith, m.some))
      | inr (inr a) ↦ absurd (meets _ _ ⊥ ss (λ t p q. omega (arith, p.0, p.1)) later a)
    ]

    before : g.start + g.len ≤ s.offset → AnyOf (λ (h : Gap). h ≡ g) (between from s.offset ++ gaps_from (slice_end s) size ss)
    before c = elim m.above [
      | inl f ↦ absurd (omega (arith, ends))
      | inr (inl q) ↦ any_left _ (between from s.offset) (gaps_from (slice_end s) size ss) (in_between from s.offset g (first c) (sym q) m.some)
      | inr (inr a) ↦ absurd (meets _ _ ⊥ ss (λ t p q. omega (arith, p.0)) later a)
    ]

    after : slice_end s ≤ g.start → IsMaximalFrom (slice_end s) size ss g
    after c = record {
      low = c;
      some = m.some;
      inside = m.inside;
      clear = m.clear.1;
      below = elim m.below [ inl e ↦ absurd (omega arith) | inr (inl q) ↦ inl (sym q) | inr (inr a) ↦ inr a ];
      above = elim m.above [ inl f ↦ inl f | inr (inl q) ↦ absurd (omega arith) | inr (inr a) ↦ inr a ];
    }

-- each gap is a maximal range
pub gaps_maximal : (b : Book) → IsSound b → AllByRecursion (IsMaximal b) (gaps b)
unfolding gaps
gaps_maximal b s = all_follow _ _ (gaps_from 0 b.size b.slices) (λ g m. record { some = m.some; inside = m.inside; clear = m.clear; below = m.below; above = m.above }) (all_maximal 0 b.size b.slices s.order)

-- each maximal range is a gap
pub maximal_gaps : (b : Book) (g : Gap) → IsSound b → IsMaximal b g → AnyOf (λ (h : Gap). h ≡ g) (gaps b)
unfolding gaps
maximal_gaps b g s m = any_maximal 0 b.size b.slices g s.order (record { low = omega arith; some = m.some; inside = m.inside; clear = m.clear; below = m.below; above = m.above })
