-- One part more.
use Rattle.std.proofs.Common.{◌≡◌, ℕ, ◌+◌, List, [], ◌∷◌, ◌++◌, length, take, drop, Option, refl, sym, ap, ◌∙◌, append_assoc, length-append, arith}
use Rattle.std.specs.List.{AllByRecursion}
use Rattle.std.specs.Io.KnownBytes.{Appends}
use Rattle.std.proofs.lemmas.List.{append-nil, nil_from_length, take-append-drop, take_all}
use Rattle.std.proofs.lemmas.Bool.{eqb-true}
use Rattle.std.specs.Prelude.{◌==◌, true}
use Rattle.std.proofs.lemmas.Grind.{flat_map-append}
use Rattle.std.proofs.Math.Seq.{take-append-add}
use Rattle.kd_outside.proofs.Known.{appends_more, appends_nothing}
use Rattle.kd_lines.specs.Pieces.{IsCut, joined, AllCome, WritesFront}

come_more : (Comes : List ℕ → List ℕ → Type 0) (ps : List (List ℕ)) (written p line : List ℕ) → AllCome Comes ps written → Comes p line
    → AllCome Comes (ps ++ p ∷ []) (written ++ line)
come_more Comes [] written p line h k = (line, [], k, rw h (sym (append-nil line)), refl)
come_more Comes (q ∷ ps) written p line (first, more, one, is, rest) k =
    (first, more ++ line, one, ap (λ (l : List ℕ). l ++ line) is ∙ append_assoc first more line, come_more Comes ps more p line rest k)

each_more : (IsOne : List ℕ → Type 0) (ps : List (List ℕ)) (p : List ℕ) → AllByRecursion IsOne ps → IsOne p → AllByRecursion IsOne (ps ++ p ∷ [])
each_more IsOne [] p all one = (one, tt)
each_more IsOne (q ∷ ps) p all one = (all.0, each_more IsOne ps p all.1 one)

joined_more : (ps : List (List ℕ)) (p : List ℕ) → joined (ps ++ p ∷ []) ≡ joined ps ++ p
joined_more ps p = flat_map-append (λ (l : List ℕ). l) ps (p ∷ []) ∙ ap (λ (l : List ℕ). joined ps ++ l) (append-nil p)

cut_more : (IsOne : List ℕ → Type 0) (bytes : List ℕ) (ps : List (List ℕ)) (rest : List ℕ) (n : ℕ) → IsCut IsOne bytes ps rest → IsOne (take n rest) → IsCut IsOne bytes (ps ++ take n rest ∷ []) (drop n rest)
cut_more IsOne bytes ps rest n cut one = record {
  whole = cut.whole ∙ ap (λ (l : List ℕ). joined ps ++ l) (sym (take-append-drop n rest)) ∙ sym (append_assoc (joined ps) (take n rest) (drop n rest)) ∙ ap (λ (l : List ℕ). l ++ drop n rest) (sym (joined_more ps (take n rest)));
  each = each_more IsOne ps (take n rest) cut.each one;
}

length-joined_more : (ps : List (List ℕ)) (p : List ℕ) → length (joined (ps ++ p ∷ [])) ≡ length (joined ps) + length p
length-joined_more ps p = ap length (joined_more ps p) ∙ length-append (joined ps) p

-- what stands behind some parts: the bytes are cut so far, and what comes of the parts was written
pub record Stands (IsOne : List ℕ → Type 0) (Comes : List ℕ → List ℕ → Type 0) (bytes rest : List ℕ) (at : ℕ) (held_before held_after : Option (List ℕ)) : Type 0 where
  pub parts : List (List ℕ)
  pub written : List ℕ
  pub cut : IsCut IsOne bytes parts rest
  pub place : at ≡ length (joined parts)
  pub comes : AllCome Comes parts written
  pub held : Appends held_before held_after written

pub nothing_left : (rest : List ℕ) → (length rest == 0) ≡ true → rest ≡ []
nothing_left rest e = nil_from_length rest (eqb-true (length rest) 0 e)

-- at first nothing is cut, and nothing written
pub stands_first : (IsOne : List ℕ → Type 0) (Comes : List ℕ → List ℕ → Type 0) (bytes : List ℕ) (a : Option (List ℕ)) → Stands IsOne Comes bytes bytes 0 a a
stands_first IsOne Comes bytes a = record { parts = []; written = []; cut = record { whole = refl; each = tt }; place = refl; comes = refl; held = appends_nothing a }

pub all_written : (IsOne : List ℕ → Type 0) (Comes : List ℕ → List ℕ → Type 0) (bytes rest : List ℕ) (at : ℕ) (a b : Option (List ℕ)) → Stands IsOne Comes bytes rest at a b → WritesFront IsOne Comes bytes a b
all_written IsOne Comes bytes rest at a b s =
    let all : take (length s.written) s.written ≡ s.written = take_all (length s.written) s.written (omega arith) in
    (s.parts, rest, s.written, length s.written, s.cut, s.comes, rw all s.held)

-- and a front of what comes of one part more
pub some_written : (IsOne : List ℕ → Type 0) (Comes : List ℕ → List ℕ → Type 0) (bytes rest : List ℕ) (at n k : ℕ) (a b c : Option (List ℕ)) (line : List ℕ) → Stands IsOne Comes bytes rest at a b → IsOne (take n rest) → Comes (take n rest) line
    → Appends b c (take k line) → WritesFront IsOne Comes bytes a c
some_written IsOne Comes bytes rest at n k a b c line s one comes more =
    let front : take (length s.written + k) (s.written ++ line) ≡ s.written ++ take k line = take-append-add s.written line k in (
      s.parts ++ take n rest ∷ [],
      drop n rest,
      s.written ++ line,
      length s.written + k,
      cut_more IsOne bytes s.parts rest n s.cut one,
      come_more Comes s.parts s.written (take n rest) line s.comes comes,
      rw front (appends_more a b c s.written (take k line) s.held more),
    )

pub one_more : (IsOne : List ℕ → Type 0) (Comes : List ℕ → List ℕ → Type 0) (bytes rest : List ℕ) (at n : ℕ) (a b c : Option (List ℕ)) (line : List ℕ) → Stands IsOne Comes bytes rest at a b → IsOne (take n rest) → length (take n rest) ≡ n → Comes (take n rest) line
    → Appends b c line → Stands IsOne Comes bytes (drop n rest) (at + n) a c
one_more IsOne Comes bytes rest at n a b c line s one len comes more = record {
  parts = s.parts ++ take n rest ∷ [];
  written = s.written ++ line;
  cut = cut_more IsOne bytes s.parts rest n s.cut one;
  place = omega (arith, s.place, len, length-joined_more s.parts (take n rest));
  comes = come_more Comes s.parts s.written (take n rest) line s.comes comes;
  held = appends_more a b c s.written line s.held more;
}
