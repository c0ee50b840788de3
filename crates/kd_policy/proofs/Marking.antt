-- Laws of marks.
use Rattle.std.proofs.Common.{◌≡◌, ℕ, ◌+◌, ◌*◌, ◌/◌, ◌%◌, ◌^◌, ◌<◌, true, false, cond, nat_eq, List, [], ◌∷◌, ◌++◌, length, get_or, set, take, filter, fold, refl, sym, ap, ◌∙◌, subst, arith, eqb-true, eq-eqb}
use Rattle.std.specs.Int.{bit_at, w64}
use Rattle.std.specs.Int.RustNames.{bit_or}
use Rattle.std.proofs.lemmas.Bool.{false≢true}
use Rattle.std.proofs.lemmas.List.{get_or-set_same, get_or-set_other, take_more}
use Rattle.std.proofs.lemmas.List.Sums.{fold-append}
use Rattle.std.proofs.lemmas.Nat.Bits.{bit_at_set_same, bit_at_set_other}
use Rattle.std.proofs.lemmas.Slice.Eq.{bytes_eq-Decides}
use Rattle.kd_policy.specs.declared.entry.Entry.{Entry}
use Rattle.kd_policy.specs.Level.{is_for}
use Rattle.kd_policy.specs.Marks.{next_mark, mark_of, mark_is_set, AreMarked}

-- the mark of a text in two parts
pub mark_parts : (front back : List ℕ) → fold next_mark (fold next_mark 0 front) back ≡ mark_of (front ++ back)
unfolding mark_of
mark_parts front back = sym (fold-append next_mark 0 front back)

-- other marks that are set, with more of them
kept : (words words' : List ℕ) (es : List Entry) → ((other : ℕ) → mark_is_set words other ≡ true → mark_is_set words' other ≡ true) → AreMarked words es → AreMarked words' es
kept words words' [] more all = tt
kept words words' (e ∷ es) more all = (more (mark_of e.pattern) all.0, kept words words' es more all.1)

pushed : (words : List ℕ) (es : List Entry) (e : Entry) → AreMarked words es → mark_is_set words (mark_of e.pattern) ≡ true → AreMarked words (es ++ e ∷ [])
pushed words [] e all here = (here, tt)
pushed words (x ∷ es) e all here = (all.0, pushed words es e all.1 here)

-- one entry more is marked
pub marked_more : (words words' : List ℕ) (es : List Entry) (i : ℕ) (e : Entry) (mark : ℕ) → i < length es → e ≡ get_or es i e → mark ≡ mark_of e.pattern → ((other : ℕ) → mark_is_set words other ≡ true → mark_is_set words' other ≡ true) → mark_is_set words' mark ≡ true → AreMarked words (take i es) → AreMarked words' (take (i + 1) es)
marked_more words words' es i e mark lt is at more here all =
    let parts : take (i + 1) es ≡ take i es ++ e ∷ [] = take_more es i e lt ∙ ap (λ x. take i es ++ x ∷ []) (sym is) in
    let set : mark_is_set words' (mark_of e.pattern) ≡ true = subst (λ m. mark_is_set words' m ≡ true) at here in
    subst (AreMarked words') (sym parts) (pushed words' (take i es) e (kept words words' (take i es) more all) set)

-- an entry of a pattern has its mark
same_mark : (words text : List ℕ) (e : Entry) → is_for text e ≡ true → mark_is_set words (mark_of e.pattern) ≡ true → mark_is_set words (mark_of text) ≡ true
same_mark words text e is here =
    let same : e.pattern ≡ text = (bytes_eq-Decides e.pattern text).0 is in
    subst (λ t. mark_is_set words (mark_of t) ≡ true) same here

-- without its mark there is no entry of a pattern
pub unmarked : (words text : List ℕ) (es : List Entry) → AreMarked words es → mark_is_set words (mark_of text) ≡ false → filter (is_for text) es ≡ []
unmarked words text [] all none = refl
unmarked words text (e ∷ es) all none =
    (elim (is_for text e) as (λ b. is_for text e ≡ b → cond b (e ∷ filter (is_for text) es) (filter (is_for text) es) ≡ []) [
      | true ↦ λ is. absurd (false≢true (sym none ∙ same_mark words text e is all.0))
      | false ↦ λ is. unmarked words text es all.1 none
    ]) refl

-- a bit that is set stays so
bit_kept : (n k i : ℕ) → k < 64 → bit_at n i ≡ 1 → bit_at (bit_or n (1 * 2 ^ k % 2 ^ 64)) i ≡ 1
bit_kept n k i within is =
    (elim (nat_eq i k) as (λ b. nat_eq i k ≡ b → bit_at (bit_or n (1 * 2 ^ k % 2 ^ 64)) i ≡ 1) [
      | true ↦ λ e. rw (eqb-true i k e) (bit_at_set_same w64 n k within)
      | false ↦ λ e. bit_at_set_other w64 n k within i (λ q. false≢true (sym e ∙ eq-eqb i k q)) ∙ is
    ]) refl

word_kept : (words : List ℕ) (a b i word : ℕ) → a < length words → (bit_at (get_or words a 0) i ≡ 1 → bit_at word i ≡ 1) → bit_at (get_or words b 0) i ≡ 1 → bit_at (get_or (set words a word) b 0) i ≡ 1
word_kept words a b i word lt more is =
    let P : ℕ → Type 0 = λ x. bit_at (get_or words x 0) i ≡ 1 → bit_at (get_or (set words a word) x 0) i ≡ 1 in
    (elim (nat_eq b a) as (λ v. nat_eq b a ≡ v → bit_at (get_or (set words a word) b 0) i ≡ 1) [
      | true ↦ λ e. subst P (sym (eqb-true b a e)) (λ h. rw (get_or-set_same words a word 0 lt) (more h)) is
      | false ↦ λ e. rw (get_or-set_other words a b word 0 (λ q. false≢true (sym e ∙ eq-eqb b a q))) is
    ]) refl

-- the words with a mark set
abbrev pub with_mark : List ℕ → ℕ → List ℕ
with_mark words mark = set words (mark / 64) (bit_or (get_or words (mark / 64) 0) (1 * 2 ^ (mark % 64) % 2 ^ 64))

pub set_same : (words : List ℕ) (mark : ℕ) → mark / 64 < length words → mark_is_set (with_mark words mark) mark ≡ true
unfolding mark_is_set
set_same words mark lt =
    let word = bit_or (get_or words (mark / 64) 0) (1 * 2 ^ (mark % 64) % 2 ^ 64) in
    eq-eqb (bit_at (get_or (with_mark words mark) (mark / 64) 0) (mark % 64)) 1 (rw (get_or-set_same words (mark / 64) word 0 lt) (bit_at_set_same w64 (get_or words (mark / 64) 0) (mark % 64) (omega arith)))

pub set_kept : (words : List ℕ) (mark other : ℕ) → mark / 64 < length words → mark_is_set words other ≡ true → mark_is_set (with_mark words mark) other ≡ true
unfolding mark_is_set
set_kept words mark other lt is =
    let word = bit_or (get_or words (mark / 64) 0) (1 * 2 ^ (mark % 64) % 2 ^ 64) in
    let bit : bit_at (get_or words (other / 64) 0) (other % 64) ≡ 1 = eqb-true (bit_at (get_or words (other / 64) 0) (other % 64)) 1 is in
    eq-eqb (bit_at (get_or (with_mark words mark) (other / 64) 0) (other % 64)) 1 (word_kept words (mark / 64) (other / 64) (other % 64) word lt (bit_kept (get_or words (mark / 64) 0) (mark % 64) (other % 64) (omega arith)) bit)
