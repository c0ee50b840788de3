-- The pieces of a text, from its last dot on.
use Rattle.std.proofs.Common.{◌≡◌, ℕ, ◌-◌, Bool, true, false, List, [], ◌∷◌, ◌++◌, length, take, drop, eqb, Option, Some, None, cond, refl, sym, ap, ◌∙◌, arith, inl, inr}
use Rattle.std.specs.Prelude.{not, ◌&&◌, ◌==◌, nat_le, ◌⊎◌}
use Rattle.std.specs.List.{onto_first}
use Rattle.std.specs.Option.{option_eq}
use Rattle.std.proofs.lemmas.Bool.{and_parts, not-true, true≢false, eqb-true, le-leb, and_right, false_from_ne_true, ne_eqb}
use Rattle.std.proofs.lemmas.List.{length-append, take_at, drop_at, append_assoc}
use Rattle.std.proofs.lemmas.List.Splits.{length-slice_split}
use Rattle.kd_model.specs.Words.{all_of}
use Rattle.kd_name.specs.Names.{elements, is_element, is_name_byte}
use Rattle.kd_name.specs.Patterns.{last, parent}

-- no byte is a dot
abbrev pub lacks_dot : List ℕ → Bool
lacks_dot text = all_of (λ c. not (c == 46)) text

-- a text without a dot is its one piece
pub whole : (text : List ℕ) → lacks_dot text ≡ true → elements text ≡ text ∷ []
whole [] h = refl
whole (c ∷ cs) h = let p = and_parts _ _ h in rw (not-true (c == 46) p.0, whole cs p.1) refl

-- a text has a piece
pub no_pieces : (text : List ℕ) → elements text ≡ [] → ⊥
no_pieces text e = omega (arith, ap length e, length-slice_split (λ c. c == 46) text)

-- what follows the last dot is the last piece
pub cut : (front rest : List ℕ) → lacks_dot rest ≡ true → elements (front ++ 46 ∷ rest) ≡ elements front ++ rest ∷ []
cut [] rest h = ap ([] ∷◌) (whole rest h)
cut (c ∷ cs) rest h = go (c == 46) (elements cs) refl (cut cs rest h)
  where
    go : (b : Bool) (es : List (List ℕ)) → elements cs ≡ es → elements (cs ++ 46 ∷ rest) ≡ es ++ rest ∷ [] → cond b ([] ∷ elements (cs ++ 46 ∷ rest)) (onto_first c (elements (cs ++ 46 ∷ rest))) ≡ cond b ([] ∷ es) (onto_first c es) ++ rest ∷ []
    go true es e t = ap ([] ∷◌) t
    go false [] e t = absurd (no_pieces cs e)
    go false (f ∷ fs) e t = ap (onto_first c) t

last_more : (es : List (List ℕ)) (e : List ℕ) → last (es ++ e ∷ []) ≡ e
last_more [] e = refl
last_more (f ∷ []) e = refl
last_more (f ∷ g ∷ es) e = last_more (g ∷ es) e

-- a text without a dot has no parent
pub parent_none : (text : List ℕ) → lacks_dot text ≡ true → parent text ≡ None
parent_none text h = rw (whole text h) refl

-- a text with a dot has one where an element follows its last dot
pub parent_cut : (front rest : List ℕ) → lacks_dot rest ≡ true → parent (front ++ 46 ∷ rest) ≡ cond (is_element rest) (Some front) None
parent_cut front rest h =
    let two : nat_le 2 (length (elements front ++ rest ∷ [])) ≡ true = le-leb _ _ (omega (arith, length-append (elements front) (rest ∷ []), length-slice_split (λ c. c == 46) front)) in
    let here : take (length (front ++ 46 ∷ rest) - length rest - 1) (front ++ 46 ∷ rest) ≡ front = take_at front (46 ∷ rest) _ (omega (arith, length-append front (46 ∷ rest))) in
    rw (cut front rest h, last_more (elements front) rest, two, here) refl

-- a text has no dot, or a last one
abbrev pub CutAtDot : List ℕ → Type 0
CutAtDot text = (front rest : List ℕ) × (text ≡ front ++ 46 ∷ rest) × (lacks_dot rest ≡ true)

pub last_dot : (text : List ℕ) → (lacks_dot text ≡ true) ⊎ CutAtDot text
last_dot [] = inl refl
last_dot (c ∷ cs) = go (c == 46) refl (last_dot cs)
  where
    go : (b : Bool) → (c == 46) ≡ b → (lacks_dot cs ≡ true) ⊎ CutAtDot cs → (lacks_dot (c ∷ cs) ≡ true) ⊎ CutAtDot (c ∷ cs)
    go b e (inr t) = inr (c ∷ t.0, t.1, ap (c ∷◌) t.2, t.3)
    go true e (inl h) = inr ([], cs, ap (◌∷ cs) (eqb-true c 46 e), h)
    go false e (inl h) = inl (rw (e, h) refl)

-- a dot is no byte of names
name_byte : (c : ℕ) → is_name_byte c ≡ true → not (c == 46) ≡ true
name_byte c h = go (c == 46) refl
  where
    go : (b : Bool) → (c == 46) ≡ b → not b ≡ true
    go false e = refl
    go true e = absurd (true≢false (sym h ∙ ap is_name_byte (eqb-true c 46 e)))

name_bytes_lack_dot : (text : List ℕ) → all_of is_name_byte text ≡ true → lacks_dot text ≡ true
name_bytes_lack_dot [] h = refl
name_bytes_lack_dot (c ∷ cs) h = let p = and_parts _ _ h in rw (name_byte c p.0, name_bytes_lack_dot cs p.1) refl

-- an element has none
pub element_lacks_dot : (text : List ℕ) → is_element text ≡ true → lacks_dot text ≡ true
element_lacks_dot text h = name_bytes_lack_dot text (and_parts _ _ h).1

has_dot : (front rest : List ℕ) → lacks_dot (front ++ 46 ∷ rest) ≡ false
has_dot [] rest = refl
has_dot (c ∷ cs) rest = and_right _ _ (has_dot cs rest)

-- an element is a text of one piece
pub one_piece : (text : List ℕ) → is_element text ≡ (all_of is_element (elements text) && (length (elements text) == 1))
one_piece text = go (last_dot text)
  where
    and_true : (b : Bool) → b ≡ ((b && true) && true)
    and_true true = refl
    and_true false = refl

    go : (lacks_dot text ≡ true) ⊎ CutAtDot text → is_element text ≡ (all_of is_element (elements text) && (length (elements text) == 1))
    go (inl h) = rw (whole text h) (and_true (is_element text))
    go (inr (f, r, e, h)) =
        let dotted : is_element (f ++ 46 ∷ r) ≡ false = false_from_ne_true (is_element (f ++ 46 ∷ r)) (λ t. true≢false (sym (element_lacks_dot (f ++ 46 ∷ r) t) ∙ has_dot f r)) in
        let more : (length (elements (f ++ 46 ∷ r)) == 1) ≡ false = ne_eqb (length (elements (f ++ 46 ∷ r))) 1 (λ q. omega (arith, q, ap length (cut f r h), length-append (elements f) (r ∷ []), length-slice_split (λ c. c == 46) f)) in
        rw e (dotted ∙ sym (and_right (all_of is_element (elements (f ++ 46 ∷ r))) (length (elements (f ++ 46 ∷ r)) == 1) more))

-- a count of one
pub counts_one : (text : List ℕ) (r : Option ℕ) → r ≡ cond (all_of is_element (elements text)) (Some (length (elements text))) None → option_eq eqb r (Some 1) ≡ is_element text
counts_one text r e = rw e (go (all_of is_element (elements text)) (length (elements text))) ∙ sym (one_piece text)
  where
    go : (b : Bool) (n : ℕ) → option_eq eqb (cond b (Some n) None) (Some 1) ≡ (b && (n == 1))
    go true n = refl
    go false n = refl

-- the way back from the end stops at the last dot
pub stops_at_dot : (name front before rest element : List ℕ) (byte : ℕ) (b : Bool) → name ≡ front ++ rest → lacks_dot rest ≡ true → front ≡ before ++ byte ∷ [] → byte ≡ 46 → element ≡ drop (length front) name → b ≡ is_element element → cond b (Some before) None ≡ parent name
stops_at_dot name front before rest element byte b e h f d g t =
    let last_part : element ≡ rest = g ∙ ap (drop (length front)) e ∙ drop_at front rest (length front) refl in
    let whole_name : name ≡ before ++ 46 ∷ rest = e ∙ ap (◌++ rest) f ∙ append_assoc before (byte ∷ []) rest ∙ ap (λ x. before ++ x ∷ rest) d in
    rw (t, last_part, whole_name) (sym (parent_cut before rest h))
