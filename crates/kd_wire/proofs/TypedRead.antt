-- The numbers of what is read are of their types.
use Rattle.std.proofs.Common.{◌≡◌, ℕ, zero, suc, ◌+◌, ◌^◌, ◌<◌, Bool, true, false, cond, eqb, ltb, leb, List, [], ◌∷◌, ◌++◌, length, drop, Option, Some, None, Ok, sym, subst, ◌∙◌, inl, inr}
use Rattle.std.specs.Str.{is_utf8}
use Rattle.std.specs.List.{AllByRecursion}
use Rattle.kd_model.proofs.Truth.{option_cases, same_some}
use Rattle.kd_model.proofs.Lists.{all_of_push}
use Rattle.kd_item.specs.Spelling.{Entry, number, spelling}
use Rattle.kd_item.specs.Reading.{split, placed}
use Rattle.kd_item.proofs.Words.{IsBytes, IsBytes-drop, number_fits}
use Rattle.kd_wire.specs.declared.opcode.Opcode.{Opcode}
use Rattle.kd_wire.specs.declared.item.WireItem.{WireItem}
use Rattle.kd_wire.specs.declared.item.WireItem.TheVariants.{Payload, Sealed, DstName, Filter, Mask, Name, Access, Bus, Endpoint, Description, Id, IdAdd, IdRemove, NameAdd, NameRemove, NameChange}
use Rattle.kd_wire.specs.declared.command.Command.{Command}
use Rattle.kd_wire.specs.Items.{words_in}
use Rattle.kd_wire.specs.Commands.{flags_of, command_words, items_of}
use Rattle.kd_wire.specs.Reading.{text_item, id_item, change_item, item_in, item_behind, items_behind, items_in}
use Rattle.kd_wire.specs.Refusals.{words_from, own_words}
use Rattle.kd_wire.specs.Opcodes.{word_count}
use Rattle.kd_wire.specs.Typed.{AreWords, HasSigned, IsTyped}
use Rattle.kd_wire.proofs.ItemLaws.{AreBytes, items_bytes, items_end, the_error, the_ok, ok_is, behind_takes}
use Rattle.kd_wire.proofs.ItemsRead.{behind_some, behind_none, behind_end}

-- ---- words

pub words_typed : (n at : ℕ) (bytes : List ℕ) → IsBytes bytes → AreWords (words_from n at bytes)
words_typed zero at bytes fits = tt
words_typed (suc n) at bytes fits = (number_fits (drop at bytes) (IsBytes-drop at bytes fits), words_typed n (at + 8) bytes fits)

-- ---- items

-- if it is some item, its numbers are words
abbrev Types : Option WireItem → Type 0
Types o = (item : WireItem) → o ≡ Some item → AreWords (words_in item)

none_types : Types None
none_types = λ item e. absurd cc

some_types : (made : WireItem) → AreWords (words_in made) → Types (Some made)
some_types made h = λ item e. subst (λ x. AreWords (words_in x)) (same_some made item e) h

if_types : (b : Bool) (x y : Option WireItem) → Types x → Types y → Types (cond b x y)
if_types true x y f g = f
if_types false x y f g = g

text_types : (kind : ℕ) (text : List ℕ) → Types (text_item kind text)
text_types kind text =
    if_types (eqb kind 3) _ _ (some_types (DstName text) tt) (
    if_types (eqb kind 6) _ _ (some_types (Name text) tt) (
    if_types (eqb kind 8) _ _ (some_types (Bus text) tt) (
    if_types (eqb kind 9) _ _ (some_types (Endpoint text) tt) (
    if_types (eqb kind 10) _ _ (if_types (leb (length text) 255) _ _ (some_types (Description text) tt) none_types) none_types))))

id_types : (kind id : ℕ) → id < 2 ^ 64 → Types (id_item kind id)
id_types kind id lt =
    if_types (eqb kind 11) _ _ (some_types (Id id) (lt, tt)) (
    if_types (eqb kind 12) _ _ (some_types (IdAdd id) (lt, tt)) (
    if_types (eqb kind 13) _ _ (some_types (IdRemove id) (lt, tt)) none_types))

change_types : (kind old new : ℕ) (name : List ℕ) → old < 2 ^ 64 → new < 2 ^ 64 → Types (change_item kind old new name)
change_types kind old new name lt lu =
    if_types (eqb kind 14) _ _ (some_types (NameAdd old new name) (lt, (lu, tt))) (
    if_types (eqb kind 15) _ _ (some_types (NameRemove old new name) (lt, (lu, tt))) (
    if_types (eqb kind 16) _ _ (some_types (NameChange old new name) (lt, (lu, tt))) none_types))

item_types : (kind : ℕ) (body : List ℕ) → IsBytes body → Types (item_in kind body)
unfolding item_in
item_types kind body fits =
    let first : number body < 2 ^ 64 = number_fits body fits in
    let second : number (drop 8 body) < 2 ^ 64 = number_fits (drop 8 body) (IsBytes-drop 8 body fits) in
    let third : number (drop 16 body) < 2 ^ 64 = number_fits (drop 16 body) (IsBytes-drop 16 body fits) in
    if_types (eqb kind 1) _ _ (some_types (Payload body) tt) (
    if_types (eqb kind 5) _ _ (some_types (Mask body) tt) (
    if_types (eqb kind 4) _ _ (if_types (ltb (length body) 8) _ _ none_types (some_types (Filter (number body) (drop 8 body)) (first, tt))) (
    if_types (eqb kind 2) _ _ (if_types (eqb (length body) 24) _ _ (some_types (Sealed (number body) (number (drop 8 body)) (number (drop 16 body))) (first, (second, (third, tt)))) none_types) (
    if_types (eqb kind 7) _ _ (if_types (eqb (length body) 24) _ _ (some_types (Access (number body) (number (drop 8 body)) (number (drop 16 body))) (first, (second, (third, tt)))) none_types) (
    if_types (ltb 13 kind) _ _ (if_types (ltb (length body) 16) _ _ none_types (if_types (is_utf8 (drop 16 body)) _ _ (change_types kind (number body) (number (drop 8 body)) (drop 16 body) first second) none_types)) (
    if_types (ltb 10 kind) _ _ (if_types (eqb (length body) 8) _ _ (id_types kind (number body) first) none_types) (
    if_types (is_utf8 body) _ _ (text_types kind body) none_types)))))))

-- each item's numbers are words
abbrev pub AreTyped : List WireItem → Type 0
AreTyped items = AllByRecursion (λ (item : WireItem). AreWords (words_in item)) items

read_typed : (kinds : List ℕ) (at : ℕ) (es : List Entry) (before items : List WireItem) → AreBytes es → AreTyped before → items_behind kinds before (placed at es) ≡ Ok items → AreTyped items
read_typed kinds at [] before items fits typed h = subst (λ (l : List WireItem). AreTyped l) (ok_is before items (sym (behind_end kinds before) ∙ h)) typed
read_typed kinds at (e ∷ es) before items fits typed h =
    let next = at + length (spelling e) in
    elim (option_cases (item_behind kinds before e)) [
      | inl none ↦ let never : the_error at ≡ the_ok items = sym (behind_none kinds before e at (placed next es) none) ∙ h in absurd cc
      | inr some ↦
          let one : AreWords (words_in some.0) = item_types e.kind e.body fits.0 some.0 (behind_takes kinds before e some.0 some.1).1 in
          read_typed kinds next es (before ++ some.0 ∷ []) items fits.1 (all_of_push (λ (item : WireItem). AreWords (words_in item)) before some.0 typed one) (sym (behind_some kinds before e at (placed next es) some.0 some.1) ∙ h)
    ]

pub items_typed : (kinds : List ℕ) (at : ℕ) (bytes : List ℕ) (items : List WireItem) → IsBytes bytes → items_in kinds at bytes ≡ Ok items → AreTyped items
items_typed kinds at bytes items fits h = read_typed kinds at (split bytes).0 [] items (items_bytes kinds at bytes items fits h) tt (items_end kinds at bytes items h)

-- ---- commands

pub typed_of : (command : Command) (opcode : Opcode) (flags : ℕ) (own : List ℕ) (items : List WireItem) → flags < 2 ^ 64 → IsBytes own → AreTyped items
    → flags_of command ≡ flags → command_words command ≡ own_words opcode own → items_of command ≡ items → HasSigned command → IsTyped command
typed_of command opcode flags own items small fits typed flags-is words-are items-are signed = record {
  flags = rw flags-is small;
  words = subst (λ (l : List ℕ). AreWords l) (sym words-are) (words_typed (word_count opcode) 0 own fits);
  items = subst (λ (l : List WireItem). AreTyped l) (sym items-are) typed;
  signed = signed;
}
