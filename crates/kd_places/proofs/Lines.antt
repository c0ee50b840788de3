-- A reader of lines, up to where it breaks.
use Rattle.std.proofs.Common.{◌≡◌, ℕ, zero, suc, ◌+◌, ◌-◌, ◌^◌, ◌<◌, ◌≤◌, Bool, true, false, cond, not, eqb, ltb, List, [], ◌∷◌, ◌++◌, length, drop, take, map, Some, None, Result, Ok, Err, refl, sym, ap, subst, ◌∙◌, append_assoc, length-append, arith, inl, inr}
use Rattle.std.specs.List.{AllByRecursion}
use Rattle.std.specs.Str.{is_utf8}
use Rattle.std.proofs.lemmas.Bool.{eqb-true, ltb-false, le-ltb}
use Rattle.kd_model.proofs.Truth.{not_false, option_cases, let_through}
use Rattle.kd_item.specs.Spelling.{Entry, Fits, number, spelling, words}
use Rattle.kd_item.specs.Reading.{item_at}
use Rattle.kd_item.proofs.OneItem.{item_again}
use Rattle.kd_item.proofs.Sizes.{body_bytes, length-body, length-spelling}
use Rattle.kd_item.proofs.Splits.{item_takes, spelled_length}
use Rattle.kd_item.proofs.Words.{IsBytes, IsBytes-behind, IsBytes-drop, IsBytes-front, number_fits}
use Rattle.kd_types.specs.declared.reply_error.ReplyError.{ReplyError}
use Rattle.kd_types.specs.declared.reply_error.ReplyError.TheVariants.{Bad}
use Rattle.kd_wire.specs.declared.reply.ListedItem.{ListedItem}
use Rattle.kd_wire.specs.Kinds.{nth}
use Rattle.kd_wire.specs.Refusals.{words_from}
use Rattle.kd_wire.specs.Replies.{listed_entry, listing_bytes}
use Rattle.kd_wire.specs.ReplyReading.{line_in, lines_in}
use Rattle.kd_wire.specs.Typed.{IsTypedLine}
use Rattle.kd_wire.proofs.ReadAgain.{behind_words, words_again}
use Rattle.kd_wire.proofs.ReplyLaws.{lines_more, no_item_left, no_line_here}
use Rattle.kd_wire.proofs.WordLaws.{words_split}
use Rattle.kd_places.specs.Replies.{joined}
use Rattle.kd_places.proofs.Units.{line_unit}

abbrev pub Lines : Type 0
Lines = Result (List ListedItem) ReplyError

abbrev pub lines_done : List ListedItem → Lines
lines_done lines = Ok lines

abbrev pub lines_bad : ℕ → Lines
lines_bad at = Err (Bad at)

same_place : (a b : ℕ) → lines_bad a ≡ lines_bad b → a ≡ b
same_place a b e = cc

-- ---- one line

a_line : (b : Bool) (made line : ListedItem) → cond b (Some made) None ≡ Some line → (b ≡ true) × (made ≡ line)
a_line true made line e = (refl, cc)
a_line false made line e = absurd cc

abbrev entry_of : ℕ → List ℕ → Entry
entry_of kind body = record { kind = kind; body = body }

-- a line that is read is spelled by its item, and its numbers and its name are of their types
line_said : (e : Entry) (line : ListedItem) → IsBytes e.body → line_in e ≡ Some line → (listed_entry line ≡ e) × IsTypedLine line
unfolding line_in
line_said e line fits h =
    let a = let_through (not (eqb e.kind 24)) _ line h in
    let b = let_through (ltb (length e.body) 16) _ line a.1 in
    let made : ListedItem = record { id = number e.body; standing = number (drop 8 e.body); name = drop 16 e.body } in
    let c = a_line (is_utf8 (drop 16 e.body)) made line b.1 in
    let kind : e.kind ≡ 24 = eqb-true _ _ (not_false _ a.0) in
    let long : 16 ≤ length e.body = ltb-false _ _ b.0 in
    let body : words (number e.body ∷ number (drop 8 e.body) ∷ []) ++ drop 16 e.body ≡ e.body = words_split 2 e.body (omega (arith, long)) fits in
    let same : listed_entry made ≡ e = ap (λ (l : List ℕ). entry_of 24 l) body ∙ ap (λ k. entry_of k e.body) (sym kind) in
    let typed : IsTypedLine made = record { words = (number_fits e.body fits, (number_fits (drop 8 e.body) (IsBytes-drop 8 e.body fits), tt)); text = c.0 } in
    (subst (λ x. listed_entry x ≡ e) c.1 same, subst IsTypedLine c.1 typed)

line_of : (body : List ℕ) (line : ListedItem) → 16 ≤ length body → number body ≡ line.id → number (drop 8 body) ≡ line.standing → drop 16 body ≡ line.name → is_utf8 line.name ≡ true → line_in (entry_of 24 body) ≡ Some line
unfolding line_in
line_of body line long id standing name text =
    let short : ltb (length body) 16 ≡ false = le-ltb _ _ long in
    rw (short, id, standing, name, text) refl

-- and a line that is spelled is read
line_again : (line : ListedItem) → IsTypedLine line → line_in (listed_entry line) ≡ Some line
line_again line typed =
    let ws : List ℕ = line.id ∷ line.standing ∷ [] in
    let body : List ℕ = words ws ++ line.name in
    let read : words_from 2 0 body ≡ ws = words_again ws line.name typed.words in
    let behind : drop 16 body ≡ line.name = behind_words ws line.name body 16 refl refl in
    line_of body line (omega (arith, length-body ws line.name)) (ap (λ l. nth l 0) read) (ap (λ l. nth l 1) read) behind typed.text

-- ---- the lines before the break

-- so many at most, each typed, and then what is no further line
pub record Before (count at place : ℕ) (bytes : List ℕ) : Type 0 where
  pub lines : List ListedItem
  pub typed : AllByRecursion IsTypedLine lines
  pub few : length lines ≤ count
  pub tail : List ℕ
  pub spelled : bytes ≡ listing_bytes lines ++ tail
  pub ends : place ≡ at + length (listing_bytes lines)

at_once : (count at place : ℕ) (bytes : List ℕ) → at ≡ place → Before count at place bytes
at_once count at place bytes e = record { lines = []; typed = tt; few = omega arith; tail = bytes; spelled = refl; ends = omega (arith, e) }

ended_or_not : (b : Bool) (at place : ℕ) (before : List ListedItem) → cond b (lines_done before) (lines_bad at) ≡ lines_bad place → at ≡ place
ended_or_not true at place before e = absurd cc
ended_or_not false at place before e = same_place at place e

pub lines_before : (count at place : ℕ) (before : List ListedItem) (bytes : List ℕ) → IsBytes bytes → lines_in count at before bytes ≡ lines_bad place → Before count at place bytes
unfolding lines_in
lines_before zero at place before bytes fits e = at_once zero at place bytes (ended_or_not (eqb (length bytes) 0) at place before e)
lines_before (suc count) at place before bytes fits e =
    elim (option_cases (item_at bytes)) [
      | inl none ↦ at_once (suc count) at place bytes (same_place at place (sym (no_item_left (suc count) at before bytes (omega arith) (sym none)) ∙ e))
      | inr some ↦
          let x = some.0 in
          elim (option_cases (line_in x.0)) [
            | inl none ↦ at_once (suc count) at place bytes (same_place at place (sym (no_line_here (suc count) at before bytes x.1 x.0 (omega arith) (sym some.1) (sym none)) ∙ e))
            | inr line ↦
                let t = item_takes bytes x fits some.1 in
                let next = at + (length bytes - length x.1) in
                let more = lines_before count next place (before ++ line.0 ∷ []) x.1 t.rest (sym (lines_more count at before bytes x line.0 some.1 line.1) ∙ e) in
                let body = body_bytes x.0 (IsBytes-front (spelling x.0) x.1 (subst (λ (l : List ℕ). IsBytes l) t.parts fits)) in
                let said = line_said x.0 line.0 body line.1 in
                let one : spelling x.0 ≡ line_unit line.0 = ap spelling (sym said.0) in
                let size = spelled_length bytes x some.1 in
                let front = ap length one in
                let all = length-append (line_unit line.0) (listing_bytes more.lines) in
                let there = more.ends in
                record {
                  lines = line.0 ∷ more.lines;
                  typed = (said.1, more.typed);
                  few = let f = more.few in omega (arith, f);
                  tail = more.tail;
                  spelled = t.parts ∙ ap (λ (l : List ℕ). l ++ x.1) one ∙ ap (λ (l : List ℕ). line_unit line.0 ++ l) more.spelled
                      ∙ sym (append_assoc (line_unit line.0) (listing_bytes more.lines) more.tail);
                  ends = omega (arith, size, front, all, there);
                }
          ]
    ]

-- ---- behind lines that are whole

pub lines_reach : (lines : List ListedItem) (m at place : ℕ) (before : List ListedItem) (bytes tail : List ℕ) → IsBytes bytes → length bytes < 2 ^ 64 → AllByRecursion IsTypedLine lines
    → bytes ≡ joined (take m (map line_unit lines)) ++ tail → lines_in (length lines) at before bytes ≡ lines_bad place → at + length (joined (take m (map line_unit lines))) ≤ place
lines_reach lines zero at place before bytes tail fits small typed is e = let b = lines_before (length lines) at place before bytes fits e in let f = b.ends in omega (arith, f)
lines_reach [] (suc m) at place before bytes tail fits small typed is e = let b = lines_before zero at place before bytes fits e in let f = b.ends in omega (arith, f)
lines_reach (line ∷ lines) (suc m) at place before bytes tail fits small typed is e =
    let more : List ℕ = joined (take m (map line_unit lines)) in
    let rest : List ℕ = more ++ tail in
    let parts : bytes ≡ line_unit line ++ rest = is ∙ append_assoc (line_unit line) more tail in
    let long = ap length parts in
    let len = length-append (line_unit line) rest in
    let both = length-append (line_unit line) more in
    let size = length-spelling (listed_entry line) in
    let entry : Fits (listed_entry line) = record { kind = omega arith; size = omega (arith, long, len, size, small) } in
    let found : item_at bytes ≡ Some (listed_entry line, rest) = ap item_at parts ∙ item_again (listed_entry line) rest entry in
    let next : ℕ = at + (length bytes - length rest) in
    let on = lines_reach lines m next place (before ++ line ∷ []) rest tail (IsBytes-behind (line_unit line) rest (subst (λ (l : List ℕ). IsBytes l) parts fits)) (omega (arith, long, len, small)) typed.1 refl
    (sym (lines_more (length lines) at before bytes (listed_entry line, rest) line found (line_again line typed.0)) ∙ e) in
    omega (arith, long, len, both, on)
