-- A reader that goes over a text byte by byte finds what the pieces between the dots say.
use Rattle.std.proofs.Common.{◌≡◌, ℕ, ◌+◌, Bool, true, false, List, [], ◌∷◌, length, Option, Some, None, cond, refl, sym, ap, ◌∙◌, arith, ◌<◌, ◌≤◌, drop, get_or}
use Rattle.std.specs.Prelude.{not, ◌&&◌, ◌==◌}
use Rattle.std.specs.List.{onto_first}
use Rattle.std.proofs.lemmas.List.Splits.{length-slice_split}
use Rattle.std.proofs.lemmas.List.{at_drop_more, at_drop_all}
use Rattle.kd_model.specs.Words.{all_of}
use Rattle.kd_name.specs.Names.{elements, is_digit, is_element, is_name_byte}

-- the reader: whether an element is begun, how many stand before it, and what is left
abbrev pub scan : Bool → ℕ → List ℕ → Option ℕ
scan begun n [] = cond begun (Some (n + 1)) None
scan begun n (c ∷ cs) =
    cond (c == 46)
    (cond begun (scan false (n + 1) cs) None)
    (cond (is_name_byte c) (cond (not begun && is_digit c) None (scan true n cs)) None)

-- the pieces are elements, the first of them from its middle if it is begun
abbrev good : Bool → List (List ℕ) → Bool
good true [] = true
good true (e ∷ es) = all_of is_name_byte e && all_of is_element es
good false es = all_of is_element es

-- how many elements there are with n before these pieces
abbrev counted : Bool → ℕ → List (List ℕ) → Option ℕ
counted begun n pieces = cond (good begun pieces) (Some (n + length pieces)) None

-- a byte that is no dot goes before the first piece
inside : (b x d : Bool) (n c : ℕ) (r : Option ℕ) (f : List ℕ) (fs : List (List ℕ)) → is_name_byte c ≡ x → is_digit c ≡ d → r ≡ counted true n (f ∷ fs) → cond x (cond (not b && d) None r) None ≡ counted b n ((c ∷ f) ∷ fs)
inside true false d n c r f fs ex ed er = rw ex refl
inside true true d n c r f fs ex ed er = rw ex er
inside false false true n c r f fs ex ed er = rw (ex, ed) refl
inside false false false n c r f fs ex ed er = rw (ex, ed) refl
inside false true true n c r f fs ex ed er = rw (ex, ed) refl
inside false true false n c r f fs ex ed er = rw (ex, ed) er

-- one byte more in front of a text whose pieces are known
step : (b w : Bool) (n c : ℕ) (cs : List ℕ) (es : List (List ℕ)) → elements cs ≡ es → scan false (n + 1) cs ≡ counted false (n + 1) es → scan true n cs ≡ counted true n es
    → cond w (cond b (scan false (n + 1) cs) None) (cond (is_name_byte c) (cond (not b && is_digit c) None (scan true n cs)) None) ≡ counted b n (cond w ([] ∷ es) (onto_first c es))
step b w n c cs [] e whole begun = absurd (omega (arith, ap length e, length-slice_split (λ x. x == 46) cs))
step true true n c cs (f ∷ fs) e whole begun = whole ∙ ap (λ k. cond (all_of is_element (f ∷ fs)) (Some k) None) (omega arith)
step false true n c cs (f ∷ fs) e whole begun = refl
step b false n c cs (f ∷ fs) e whole begun = inside b (is_name_byte c) (is_digit c) n c (scan true n cs) f fs refl refl begun

scan_counts : (b : Bool) (n : ℕ) (text : List ℕ) → scan b n text ≡ counted b n (elements text)
scan_counts true n [] = refl
scan_counts false n [] = refl
scan_counts b n (c ∷ cs) = step b (c == 46) n c cs (elements cs) refl (scan_counts false (n + 1) cs) (scan_counts true n cs)

-- the whole text
pub scan_whole : (text : List ℕ) → scan false 0 text ≡ cond (all_of is_element (elements text)) (Some (length (elements text))) None
scan_whole text = scan_counts false 0 text ∙ ap (λ k. cond (all_of is_element (elements text)) (Some k) None) (omega arith)

-- the reader stops at a byte, or at the end
pub stops : (b : Bool) (n i : ℕ) (text : List ℕ) (r : Option ℕ) → i < length text → scan b n (drop i text) ≡ scan false 0 text → scan b n (get_or text i 0 ∷ drop (i + 1) text) ≡ r → r ≡ cond (all_of is_element (elements text)) (Some (length (elements text))) None
stops b n i text r lt same e = sym e ∙ sym (at_drop_more (scan b n) text i 0 lt) ∙ same ∙ scan_whole text

pub ends : (b : Bool) (n i : ℕ) (text : List ℕ) (r : Option ℕ) → length text ≤ i → scan b n (drop i text) ≡ scan false 0 text → scan b n [] ≡ r → r ≡ cond (all_of is_element (elements text)) (Some (length (elements text))) None
ends b n i text r le same e = sym e ∙ sym (at_drop_all (scan b n) text i le) ∙ same ∙ scan_whole text
