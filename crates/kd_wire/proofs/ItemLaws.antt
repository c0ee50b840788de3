-- What is read of an item is spelled so.
use Rattle.std.proofs.Common.{◌≡◌, ℕ, ◌+◌, ◌≤◌, Bool, true, false, eqb, ltb, leb, cond, List, [], ◌∷◌, ◌++◌, length, drop, Option, Some, None, Result, Ok, Err, refl, sym, ap, subst, ◌∙◌, append_assoc, arith, inl, inr, ◌-◌, not}
use Rattle.std.proofs.lemmas.Bool.{eqb-true, ltb-false, ne_eqb}
use Rattle.std.proofs.lemmas.List.{append-nil, nil_from_length}
use Rattle.std.proofs.lemmas.Grind.{flat_map-append}
use Rattle.std.specs.Str.{is_utf8}
use Rattle.std.specs.List.{AllByRecursion}
use Rattle.kd_model.proofs.Truth.{option_cases, same_some}
use Rattle.kd_model.proofs.Lists.{all_of_push}
use Rattle.kd_item.specs.Spelling.{Entry, number, spelling, spellings, words}
use Rattle.kd_item.specs.Reading.{split, placed}
use Rattle.kd_item.proofs.Words.{IsBytes, IsBytes-front, IsBytes-behind}
use Rattle.kd_item.proofs.Sizes.{body_bytes}
use Rattle.kd_item.proofs.Splits.{split_whole}
use Rattle.kd_types.specs.declared.refusal.Refusal.{Refusal}
use Rattle.kd_types.specs.declared.refusal.Refusal.TheVariants.{Malformed}
use Rattle.kd_wire.specs.declared.item.WireItem.{WireItem}
use Rattle.kd_wire.specs.declared.item.WireItem.TheVariants.{Payload, Sealed, DstName, Filter, Mask, Name, Access, Bus, Endpoint, Description, Id, IdAdd, IdRemove, NameAdd, NameRemove, NameChange}
use Rattle.kd_wire.specs.Items.{kind_of, wire_entry, spelled}
use Rattle.kd_wire.specs.Kinds.{is_one_of}
use Rattle.kd_wire.specs.Reading.{text_item, id_item, change_item, change_item_in, item_in, has_form, stand, item_may_follow, item_behind, items_behind, if_ended, items_in}
use Rattle.kd_wire.proofs.WordLaws.{words_split, words_only}
use Rattle.kd_wire.proofs.ItemsRead.{behind_some, behind_none, behind_end}

abbrev pub the_entry : ℕ → List ℕ → Entry
the_entry kind body = record { kind = kind; body = body }

-- if it is some item, that item is spelled by this kind and this body, and has the form of its kind
abbrev pub Says : ℕ → List ℕ → Option WireItem → Type 0
Says kind body o = (item : WireItem) → o ≡ Some item → (wire_entry item ≡ the_entry kind body) × (has_form item ≡ true)

none_says : (kind : ℕ) (body : List ℕ) → Says kind body None
none_says kind body = λ item e. absurd cc

some_says : (kind : ℕ) (body : List ℕ) (made : WireItem) → wire_entry made ≡ the_entry kind body → has_form made ≡ true → Says kind body (Some made)
some_says kind body made h form = λ item e. subst (λ x. (wire_entry x ≡ the_entry kind body) × (has_form x ≡ true)) (same_some made item e) (h, form)

if_says : (kind : ℕ) (body : List ℕ) (b : Bool) (x y : Option WireItem) → (b ≡ true → Says kind body x) → (b ≡ false → Says kind body y) → Says kind body (cond b x y)
if_says kind body true x y f g = f refl
if_says kind body false x y f g = g refl

-- an item that has this kind word, and this body
made_says : (kind number : ℕ) (body : List ℕ) (made : WireItem) → eqb kind number ≡ true → kind_of made ≡ number → (wire_entry made).body ≡ body → has_form made ≡ true → Says kind body (Some made)
made_says kind number body made test kind-is body-is form =
    some_says kind body made (ap (λ n. the_entry n (wire_entry made).body) (kind-is ∙ sym (eqb-true kind number test)) ∙ ap (the_entry kind) body-is) form

text_says : (kind : ℕ) (text : List ℕ) → is_utf8 text ≡ true → Says kind text (text_item kind text)
text_says kind text utf8 =
    if_says kind text (eqb kind 3) _ _ (λ e. made_says kind 3 text (DstName text) e refl refl utf8) (λ _.
    if_says kind text (eqb kind 6) _ _ (λ e. made_says kind 6 text (Name text) e refl refl utf8) (λ _.
    if_says kind text (eqb kind 8) _ _ (λ e. made_says kind 8 text (Bus text) e refl refl utf8) (λ _.
    if_says kind text (eqb kind 9) _ _ (λ e. made_says kind 9 text (Endpoint text) e refl refl utf8) (λ _.
    if_says kind text (eqb kind 10) _ _ (λ e. if_says kind text (leb (length text) 255) _ _ (λ small. made_says kind 10 text (Description text) e refl refl (rw (utf8, small) refl)) (λ _. none_says kind text)) (λ _. none_says kind text)))))

id_says : (kind : ℕ) (body : List ℕ) → IsBytes body → length body ≡ 8 → Says kind body (id_item kind (number body))
id_says kind body fits len =
    let same : words (number body ∷ []) ++ [] ≡ body = words_only 1 body (omega arith) fits in
    if_says kind body (eqb kind 11) _ _ (λ e. made_says kind 11 body (Id (number body)) e refl same refl) (λ _.
    if_says kind body (eqb kind 12) _ _ (λ e. made_says kind 12 body (IdAdd (number body)) e refl same refl) (λ _.
    if_says kind body (eqb kind 13) _ _ (λ e. made_says kind 13 body (IdRemove (number body)) e refl same refl) (λ _. none_says kind body)))

change_says : (kind : ℕ) (body : List ℕ) → IsBytes body → 16 ≤ length body → is_utf8 (drop 16 body) ≡ true → Says kind body (change_item kind (number body) (number (drop 8 body)) (drop 16 body))
change_says kind body fits long utf8 =
    let same : words (number body ∷ number (drop 8 body) ∷ []) ++ drop 16 body ≡ body = words_split 2 body (omega arith) fits in
    if_says kind body (eqb kind 14) _ _ (λ e. made_says kind 14 body (NameAdd (number body) (number (drop 8 body)) (drop 16 body)) e refl same utf8) (λ _.
    if_says kind body (eqb kind 15) _ _ (λ e. made_says kind 15 body (NameRemove (number body) (number (drop 8 body)) (drop 16 body)) e refl same utf8) (λ _.
    if_says kind body (eqb kind 16) _ _ (λ e. made_says kind 16 body (NameChange (number body) (number (drop 8 body)) (drop 16 body)) e refl same utf8) (λ _. none_says kind body)))

change_in_says : (kind : ℕ) (body : List ℕ) → IsBytes body → Says kind body (change_item_in kind body)
change_in_says kind body fits =
    if_says kind body (ltb (length body) 16) _ _ (λ _. none_says kind body) (λ long.
    if_says kind body (is_utf8 (drop 16 body)) _ _ (λ utf8. change_says kind body fits (ltb-false _ _ long) utf8) (λ _. none_says kind body))

pub item_says : (kind : ℕ) (body : List ℕ) → IsBytes body → Says kind body (item_in kind body)
unfolding item_in
item_says kind body fits =
    if_says kind body (eqb kind 1) _ _ (λ e. made_says kind 1 body (Payload body) e refl refl refl) (λ _.
    if_says kind body (eqb kind 5) _ _ (λ e. made_says kind 5 body (Mask body) e refl refl refl) (λ _.
    if_says kind body (eqb kind 4) _ _ (λ e. if_says kind body (ltb (length body) 8) _ _ (λ _. none_says kind body) (λ long. made_says kind 4 body (Filter (number body) (drop 8 body)) e refl (words_split 1 body (let l : 8 ≤ length body = ltb-false _ _ long in omega arith) fits) refl)) (λ _.
    if_says kind body (eqb kind 2) _ _ (λ e. if_says kind body (eqb (length body) 24) _ _ (λ len. made_says kind 2 body (Sealed (number body) (number (drop 8 body)) (number (drop 16 body))) e refl (words_only 3 body (eqb-true _ _ len) fits) refl) (λ _. none_says kind body)) (λ _.
    if_says kind body (eqb kind 7) _ _ (λ e. if_says kind body (eqb (length body) 24) _ _ (λ len. made_says kind 7 body (Access (number body) (number (drop 8 body)) (number (drop 16 body))) e refl (words_only 3 body (eqb-true _ _ len) fits) refl) (λ _. none_says kind body)) (λ _.
    if_says kind body (ltb 13 kind) _ _ (λ _. change_in_says kind body fits) (λ _.
    if_says kind body (ltb 10 kind) _ _ (λ _. if_says kind body (eqb (length body) 8) _ _ (λ len. id_says kind body fits (eqb-true _ _ len)) (λ _. none_says kind body)) (λ _.
    if_says kind body (is_utf8 body) _ _ (λ utf8. text_says kind body utf8) (λ _. none_says kind body))))))))

-- ---- items one behind the other

if_some : (b : Bool) (x : Option WireItem) (item : WireItem) → cond b x None ≡ Some item → (b ≡ true) × (x ≡ Some item)
if_some true x item e = (refl, e)
if_some false x item e = absurd cc

passed : (b c : Bool) → cond (not b) false c ≡ true → b ≡ true
passed true c e = refl
passed false c e = absurd cc

pub behind_takes : (kinds : List ℕ) (before : List WireItem) (e : Entry) (item : WireItem) → item_behind kinds before e ≡ Some item → (is_one_of kinds e.kind ≡ true) × (item_in e.kind e.body ≡ Some item) × (item_may_follow kinds before e.kind ≡ true)
behind_takes kinds before e item h =
    let a = if_some (item_may_follow kinds before e.kind) (item_in e.kind e.body) item h in
    (passed (is_one_of kinds e.kind) _ a.0, a.1, a.0)

-- each body has bytes
abbrev pub AreBytes : List Entry → Type 0
AreBytes es = AllByRecursion (λ (e : Entry). IsBytes e.body) es

-- each item is of one of the kinds
abbrev pub IsOf : List ℕ → WireItem → Type 0
IsOf kinds item = is_one_of kinds (kind_of item) ≡ true

abbrev pub AreOf : List ℕ → List WireItem → Type 0
AreOf kinds items = AllByRecursion (IsOf kinds) items

entries_bytes : (es : List Entry) → IsBytes (spellings es) → AreBytes es
entries_bytes [] fits = tt
entries_bytes (e ∷ es) fits = (body_bytes e (IsBytes-front (spelling e) (spellings es) fits), entries_bytes es (IsBytes-behind (spelling e) (spellings es) fits))

abbrev pub the_ok : List WireItem → Result (List WireItem) Refusal
the_ok items = Ok items

abbrev pub the_error : ℕ → Result (List WireItem) Refusal
the_error at = Err (Malformed at)

pub ok_is : (x y : List WireItem) → the_ok x ≡ the_ok y → x ≡ y
ok_is x y e = cc

entry_said : (kinds : List ℕ) (before : List WireItem) (e : Entry) (item : WireItem) → IsBytes e.body → item_behind kinds before e ≡ Some item → wire_entry item ≡ e
entry_said kinds before e item fits h = (item_says e.kind e.body fits item (behind_takes kinds before e item h).1).0

-- the items that were read are spelled by their entries, behind those before them
read_spelled : (kinds : List ℕ) (at : ℕ) (es : List Entry) (before items : List WireItem) → AreBytes es → items_behind kinds before (placed at es) ≡ Ok items → spelled items ≡ spelled before ++ spellings es
read_spelled kinds at [] before items fits h =
    ap spelled (sym (ok_is before items (sym (behind_end kinds before) ∙ h))) ∙ sym (append-nil (spelled before))
read_spelled kinds at (e ∷ es) before items fits h =
    let next = at + length (spelling e) in
    elim (option_cases (item_behind kinds before e)) [
      | inl none ↦ let never : the_error at ≡ the_ok items = sym (behind_none kinds before e at (placed next es) none) ∙ h in absurd cc
      | inr some ↦
          let more = read_spelled kinds next es (before ++ some.0 ∷ []) items fits.1 (sym (behind_some kinds before e at (placed next es) some.0 some.1) ∙ h) in
          let one : spelled (before ++ some.0 ∷ []) ≡ spelled before ++ (spelling e ++ []) = flat_map-append (λ x. spelling (wire_entry x)) before (some.0 ∷ []) ∙ ap (λ x. spelled before ++ (spelling x ++ [])) (entry_said kinds before e some.0 fits.0 some.1) in
          more ∙ ap (λ (l : List ℕ). l ++ spellings es) (one ∙ ap (λ (l : List ℕ). spelled before ++ l) (append-nil (spelling e))) ∙ append_assoc (spelled before) (spelling e) (spellings es)
    ]

-- and each is of one of the kinds
read_kinds : (kinds : List ℕ) (at : ℕ) (es : List Entry) (before items : List WireItem) → AreBytes es → AreOf kinds before → items_behind kinds before (placed at es) ≡ Ok items → AreOf kinds items
read_kinds kinds at [] before items fits taken h = subst (λ (l : List WireItem). AreOf kinds l) (ok_is before items (sym (behind_end kinds before) ∙ h)) taken
read_kinds kinds at (e ∷ es) before items fits taken h =
    let next = at + length (spelling e) in
    elim (option_cases (item_behind kinds before e)) [
      | inl none ↦ let never : the_error at ≡ the_ok items = sym (behind_none kinds before e at (placed next es) none) ∙ h in absurd cc
      | inr some ↦
          let kind : kind_of some.0 ≡ e.kind = ap (λ (x : Entry). x.kind) (entry_said kinds before e some.0 fits.0 some.1) in
          let one : is_one_of kinds (kind_of some.0) ≡ true = ap (is_one_of kinds) kind ∙ (behind_takes kinds before e some.0 some.1).0 in
          read_kinds kinds next es (before ++ some.0 ∷ []) items fits.1 (all_of_push (IsOf kinds) before some.0 taken one) (sym (behind_some kinds before e at (placed next es) some.0 some.1) ∙ h)
    ]

-- and each may stand behind those before it
read_stands : (kinds : List ℕ) (at : ℕ) (es : List Entry) (before items : List WireItem) → AreBytes es → items_behind kinds before (placed at es) ≡ Ok items → (more : List WireItem) × (items ≡ before ++ more) × (stand kinds before more ≡ true)
read_stands kinds at [] before items fits h = ([], sym (ok_is before items (sym (behind_end kinds before) ∙ h)) ∙ sym (append-nil before), refl)
read_stands kinds at (e ∷ es) before items fits h =
    let next = at + length (spelling e) in
    elim (option_cases (item_behind kinds before e)) [
      | inl none ↦ let never : the_error at ≡ the_ok items = sym (behind_none kinds before e at (placed next es) none) ∙ h in absurd cc
      | inr some ↦
          let takes = behind_takes kinds before e some.0 some.1 in
          let says = item_says e.kind e.body fits.0 some.0 takes.1 in
          let kind : kind_of some.0 ≡ e.kind = ap (λ (x : Entry). x.kind) says.0 in
          let may : item_may_follow kinds before (kind_of some.0) ≡ true = ap (item_may_follow kinds before) kind ∙ takes.2 in
          let form : has_form some.0 ≡ true = says.1 in
          let rest = read_stands kinds next es (before ++ some.0 ∷ []) items fits.1 (sym (behind_some kinds before e at (placed next es) some.0 some.1) ∙ h) in
          let others : stand kinds (before ++ some.0 ∷ []) rest.0 ≡ true = rest.2 in
          (some.0 ∷ rest.0, rest.1 ∙ append_assoc before (some.0 ∷ []) rest.0, rw (may, form, others) refl)
    ]

-- what a reading of items gives
pub record Read (kinds bytes : List ℕ) (items : List WireItem) : Type 0 where
  pub parts : bytes ≡ spelled items
  pub taken : AreOf kinds items
  pub standing : stand kinds [] items ≡ true

never_ended : (end x : ℕ) (rest : List ℕ) (xs items : List WireItem) → if_ended end (x ∷ rest) (Ok xs) ≡ Ok items → ⊥
never_ended end x rest xs items h =
    let test : eqb (length (x ∷ rest)) 0 ≡ false = ne_eqb (length (x ∷ rest)) 0 (λ e. omega arith) in
    let never : the_error (end - length (x ∷ rest)) ≡ the_ok items = sym (rw test refl) ∙ h in
    absurd cc

ended : (end : ℕ) (rest : List ℕ) (read : Result (List WireItem) Refusal) (items : List WireItem) → if_ended end rest read ≡ Ok items → (length rest ≡ 0) × (read ≡ Ok items)
ended end rest (Err refusal) items h = absurd cc
ended end [] (Ok xs) items h = (refl, h)
ended end (x ∷ rest) (Ok xs) items h = absurd (never_ended end x rest xs items h)

pub items_read : (kinds : List ℕ) (at : ℕ) (bytes : List ℕ) (items : List WireItem) → IsBytes bytes → items_in kinds at bytes ≡ Ok items → Read kinds bytes items
unfolding items_in
items_read kinds at bytes items fits h =
    let a = ended (at + length bytes) (split bytes).1 (items_behind kinds [] (placed at (split bytes).0)) items h in
    let whole = split_whole bytes fits in
    let nothing : (split bytes).1 ≡ [] = nil_from_length (split bytes).1 a.0 in
    let spelled-is : bytes ≡ spellings (split bytes).0 = whole.0 ∙ ap (λ (l : List ℕ). spellings (split bytes).0 ++ l) nothing ∙ append-nil (spellings (split bytes).0) in
    let each = entries_bytes (split bytes).0 (subst (λ (l : List ℕ). IsBytes l) spelled-is fits) in
    record {
      parts = spelled-is ∙ sym (read_spelled kinds at (split bytes).0 [] items each a.1);
      taken = read_kinds kinds at (split bytes).0 [] items each tt a.1;
      standing = let s = read_stands kinds at (split bytes).0 [] items each a.1 in ap (stand kinds []) s.1 ∙ s.2;
    }

-- the bytes of the items that were read, and their reading
pub items_bytes : (kinds : List ℕ) (at : ℕ) (bytes : List ℕ) (items : List WireItem) → IsBytes bytes → items_in kinds at bytes ≡ Ok items → AreBytes (split bytes).0
unfolding items_in
items_bytes kinds at bytes items fits h =
    let a = ended (at + length bytes) (split bytes).1 (items_behind kinds [] (placed at (split bytes).0)) items h in
    let whole = split_whole bytes fits in
    let nothing : (split bytes).1 ≡ [] = nil_from_length (split bytes).1 a.0 in
    let spelled-is : bytes ≡ spellings (split bytes).0 = whole.0 ∙ ap (λ (l : List ℕ). spellings (split bytes).0 ++ l) nothing ∙ append-nil (spellings (split bytes).0) in
    entries_bytes (split bytes).0 (subst (λ (l : List ℕ). IsBytes l) spelled-is fits)

pub items_end : (kinds : List ℕ) (at : ℕ) (bytes : List ℕ) (items : List WireItem) → items_in kinds at bytes ≡ Ok items → items_behind kinds [] (placed at (split bytes).0) ≡ Ok items
unfolding items_in
items_end kinds at bytes items h = (ended (at + length bytes) (split bytes).1 (items_behind kinds [] (placed at (split bytes).0)) items h).1
