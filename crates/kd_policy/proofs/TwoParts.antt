-- Comparing a text with another in two parts.
use Rattle.std.proofs.Common.{◌≡◌, ℕ, ◌<◌, ◌≤◌, List, [], ◌∷◌, ◌++◌, length, take, drop, refl, sym, ap, ◌∙◌, arith}
use Rattle.std.specs.declared.cmp.Ordering.{Ordering}
use Rattle.std.specs.declared.cmp.Ordering.TheVariants.{Less, Equal, Greater}
use Rattle.std.specs.Ordering.{nat_cmp, ordering_then}
use Rattle.std.specs.Cmp.Lexicographic.{slice_cmp}

then_assoc : (a b c : Ordering) → ordering_then (ordering_then a b) c ≡ ordering_then a (ordering_then b c)
then_assoc Less b c = refl
then_assoc Equal b c = refl
then_assoc Greater b c = refl

-- a text that is shorter than the first part never comes to the second
pub shorter : (p f g : List ℕ) → length p < length f → slice_cmp nat_cmp p (f ++ g) ≡ slice_cmp nat_cmp p f
shorter [] [] g lt = absurd (omega (arith, lt))
shorter [] (y ∷ f) g lt = refl
shorter (x ∷ p) [] g lt = absurd (omega (arith, lt))
shorter (x ∷ p) (y ∷ f) g lt = ap (ordering_then (nat_cmp x y)) (shorter p f g (omega (arith, lt)))

-- of another one as much is compared with the first part, and then what is left with the second
pub in_two : (p f g : List ℕ) → length f ≤ length p → slice_cmp nat_cmp p (f ++ g) ≡ ordering_then (slice_cmp nat_cmp (take (length f) p) f) (slice_cmp nat_cmp (drop (length f) p) g)
in_two p [] g le = refl
in_two [] (y ∷ f) g le = absurd (omega (arith, le))
in_two (x ∷ p) (y ∷ f) g le =
    ap (ordering_then (nat_cmp x y)) (in_two p f g (omega (arith, le))) ∙ sym (then_assoc (nat_cmp x y) (slice_cmp nat_cmp (take (length f) p) f) (slice_cmp nat_cmp (drop (length f) p) g))
