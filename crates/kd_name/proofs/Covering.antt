-- What a pattern covers, as a test and as a relation.
use Rattle.std.proofs.Common.{◌≡◌, ℕ, Bool, true, false, List, ◌∷◌, ◌++◌, Some, None, cond, refl, sym, ap, ◌∙◌, inl, inr, length, take, drop, ◌-◌, arith, subst}
use Rattle.std.specs.Prelude.{◌⊎◌, ◌↔◌, codes, option_map}
use Rattle.std.proofs.lemmas.Bool.{true≢false, or_cases, or_left, or_right, false_from_ne_true}
use Rattle.std.proofs.lemmas.Slice.Eq.{bytes_eq-Decides}
use Rattle.std.proofs.lemmas.Bool.Decides.{same_from_decides}
use Rattle.std.proofs.lemmas.List.{append_cancel_right, take-append-drop, drop_at, length-append}
use Rattle.kd_model.specs.Words.{same}
use Rattle.kd_name.specs.Names.{is_element}
use Rattle.kd_name.specs.Patterns.{parent, is_wildcard_of, covers, Covers}
use Rattle.kd_name.proofs.Pieces.{CutAtDot, last_dot, parent_none, parent_cut, element_lacks_dot, lacks_dot}

-- a text with a parent is its parent, a dot and an element
has_parent : (p n : List ℕ) → is_wildcard_of p n ≡ true → Covers p n
has_parent p n h = go (last_dot n)
  where
    pick : (f r : List ℕ) (b : Bool) → n ≡ f ++ 46 ∷ r → is_element r ≡ b → elim (option_map (λ q. q ++ codes ".*") (cond b (Some f) None)) [ Some w ↦ same p w | None ↦ false ] ≡ true → Covers p n
    pick f r true e el t = inr (f, r, el, (bytes_eq-Decides p (f ++ codes ".*")).0 t, e)
    pick f r false e el t = absurd (true≢false (sym t))

    go : (lacks_dot n ≡ true) ⊎ CutAtDot n → Covers p n
    go (inl d) = absurd (true≢false (sym (rw (parent_none n d, is_wildcard_of) at h)))
    go (inr (f, r, e, d)) =
        let at_cut : parent n ≡ cond (is_element r) (Some f) None = rw e (parent_cut f r d) in
        pick f r (is_element r) e refl (rw (at_cut, is_wildcard_of) at h)

pub covers_means : (p n : List ℕ) → (covers p n ≡ true) ↔ Covers p n
covers_means p n = (λ h. to (or_cases (same p n) _ h), from)
  where
    to : (same p n ≡ true) ⊎ (is_wildcard_of p n ≡ true) → Covers p n
    to (inl s) = inl ((bytes_eq-Decides p n).0 s)
    to (inr s) = has_parent p n s

    from : Covers p n → covers p n ≡ true
    from (inl e) = or_left (same p n) (is_wildcard_of p n) ((bytes_eq-Decides p n).1 e)
    from (inr (q, e, el, ep, en)) = or_right (same p n) (is_wildcard_of p n) (rw (is_wildcard_of, en, parent_cut q e (element_lacks_dot e el), el) ((bytes_eq-Decides p (q ++ codes ".*")).1 ep))

-- what is left to ask of a pattern that isn't the name
pub wildcard_means : (p n : List ℕ) (r : Bool) → same p n ≡ false → r ≡ is_wildcard_of p n → (r ≡ true) ↔ Covers p n
wildcard_means p n r other e =
    let answer : covers p n ≡ r = rw other (sym e) in
    subst (λ b. (b ≡ true) ↔ Covers p n) answer (covers_means p n)

-- what a text is compared with behind one ending
same_before : (s q t : List ℕ) → same s q ≡ same (s ++ t) (q ++ t)
same_before s q t =
    same_from_decides (same s q) (same (s ++ t) (q ++ t)) (bytes_eq-Decides s q)
    ((λ h. append_cancel_right s q t ((bytes_eq-Decides (s ++ t) (q ++ t)).0 h)), (λ e. (bytes_eq-Decides (s ++ t) (q ++ t)).1 (ap (◌++ t) e)))

-- a pattern that ends in a star, by what stands before it
pub starred : (p n q s : List ℕ) (r : Bool) → Some q ≡ parent n → same (drop (length p - 2) p) (codes ".*") ≡ true → s ≡ take (length p - 2) p → r ≡ same s q → r ≡ is_wildcard_of p n
starred p n q s r e star front same_front =
    let ends : p ≡ s ++ codes ".*" = sym (take-append-drop (length p - 2) p) ∙ ap (take (length p - 2) p ++◌) ((bytes_eq-Decides (drop (length p - 2) p) (codes ".*")).0 star) ∙ ap (◌++ codes ".*") (sym front) in
    same_front ∙ same_before s q (codes ".*") ∙ rw (is_wildcard_of, sym e) (ap (λ x. same x (q ++ codes ".*")) (sym ends))

-- a pattern that doesn't is no wildcard
pub unstarred : (p n q : List ℕ) → Some q ≡ parent n → same (drop (length p - 2) p) (codes ".*") ≡ false → false ≡ is_wildcard_of p n
unstarred p n q e plain = rw (is_wildcard_of, sym e) (sym (false_from_ne_true (same p (q ++ codes ".*")) never))
  where
    never : same p (q ++ codes ".*") ≡ true → ⊥
    never h =
        let ends : p ≡ q ++ codes ".*" = (bytes_eq-Decides p (q ++ codes ".*")).0 h in
        let star : drop (length p - 2) p ≡ codes ".*" = rw ends (drop_at q (codes ".*") _ (omega (arith, length-append q (codes ".*")))) in
        true≢false (sym ((bytes_eq-Decides (drop (length p - 2) p) (codes ".*")).1 star) ∙ plain)
