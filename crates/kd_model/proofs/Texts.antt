-- Texts in byte order.
use Rattle.std.proofs.Common.{◌≡◌, ℕ, Bool, true, false, List, refl, sym, ap, ◌∙◌, arith, Some, inl, inr, Ordering, Less, Equal, Greater}
use Rattle.std.specs.Prelude.{◌⊎◌}
use Rattle.std.specs.Ordering.{is_lt, is_eq, nat_cmp, ordering_reverse, is_some_and}
use Rattle.std.specs.Cmp.Lexicographic.{slice_cmp, slice_partial_cmp}
use Rattle.std.proofs.lemmas.Cmp.{same_from_slice_cmp, same_from_slice_cmp_tested, nat_list_cmp_total, tied_itself}
use Rattle.std.proofs.lemmas.Map.Text.{is_eq-slice_cmp}
use Rattle.std.proofs.lemmas.Slice.Eq.{bytes_eq-Decides}
use Rattle.std.proofs.lemmas.Bool.{true≢false, false_from_ne_true}
use Rattle.std.proofs.lemmas.Bool.Decides.{nat_tests}
use Rattle.kd_model.specs.Words.{same, text_below}

-- the test is std's order of slices
pub below_is : (xs ys : List ℕ) → is_lt (slice_cmp nat_cmp xs ys) ≡ text_below xs ys
below_is xs ys = same_from_slice_cmp nat_cmp is_lt text_below refl (λ _ _. refl) (λ _ _. refl) (λ x y xs ys o h. grind (arith, nat_tests)) xs ys _ refl

less_from : (o : Ordering) → is_lt o ≡ true → o ≡ Less
less_from Less h = refl
less_from Equal h = absurd (true≢false (sym h))
less_from Greater h = absurd (true≢false (sym h))

less : (a b : List ℕ) → text_below a b ≡ true → slice_cmp nat_cmp a b ≡ Less
less a b h = less_from (slice_cmp nat_cmp a b) (below_is a b ∙ h)

pub below_trans : (a b c : List ℕ) → text_below a b ≡ true → text_below b c ≡ true → text_below a c ≡ true
below_trans a b c h g = sym (below_is a c) ∙ ap is_lt (nat_list_cmp_total.trans a b c (less a b h) (less b c g))

pub below_itself : (a : List ℕ) → text_below a a ≡ false
below_itself a = sym (below_is a a) ∙ ap is_lt (tied_itself nat_list_cmp_total a)

pub not_both : (a b : List ℕ) → text_below a b ≡ true → text_below b a ≡ false
not_both a b h = sym (below_is b a) ∙ ap is_lt (nat_list_cmp_total.antisymm b a ∙ ap ordering_reverse (less a b h))

pub not_same : (a b : List ℕ) → text_below a b ≡ true → same a b ≡ false
not_same a b h = sym (is_eq-slice_cmp a b) ∙ ap is_eq (less a b h)

pub same_itself : (a : List ℕ) → same a a ≡ true
same_itself a = (bytes_eq-Decides a a).1 refl

pub same_text : (a b : List ℕ) → same a b ≡ true → a ≡ b
same_text a b h = (bytes_eq-Decides a b).0 h

pub not_same_above : (a b : List ℕ) → text_below a b ≡ true → same b a ≡ false
not_same_above a b h = false_from_ne_true (same b a) (λ e. true≢false (sym h ∙ ap (λ x. text_below x b) (sym (same_text b a e)) ∙ below_itself b))

-- one text is lower, the same, or higher
pub three : (a b : List ℕ) → (text_below a b ≡ true) ⊎ ((a ≡ b) ⊎ (text_below b a ≡ true))
three a b = go (slice_cmp nat_cmp a b) refl
  where
    go : (o : Ordering) → slice_cmp nat_cmp a b ≡ o → (text_below a b ≡ true) ⊎ ((a ≡ b) ⊎ (text_below b a ≡ true))
    go Less e = inl (sym (below_is a b) ∙ ap is_lt e)
    go Equal e = inr (inl (same_text a b (sym (is_eq-slice_cmp a b) ∙ ap is_eq e)))
    go Greater e = inr (inr (sym (below_is b a) ∙ ap is_lt (nat_list_cmp_total.antisymm b a ∙ ap ordering_reverse e)))

pub same_from : (a b : List ℕ) → a ≡ b → same a b ≡ true
same_from a b e = (bytes_eq-Decides a b).1 e

-- `<` on slices
pub less_than : (xs ys : List ℕ) (r : Bool) → r ≡ is_some_and is_lt (slice_partial_cmp (λ x y. Some (nat_cmp x y)) xs ys) → r ≡ text_below xs ys
less_than xs ys r e = same_from_slice_cmp_tested nat_cmp is_lt text_below refl (λ _ _. refl) (λ _ _. refl) (λ x y xs ys o h. grind (arith, nat_tests)) xs ys r e
