-- Items as they are read: what each says, and where the first one stands that breaks the format.
use Rattle.std.specs.Prelude.{ℕ, ◌+◌, ◌-◌, Bool, true, false, not, ◌&&◌, nat_lt, nat_le, ◌==◌, if◌then◌else◌, List, [], ◌∷◌, ◌++◌, length, drop, Option, Some, None, Result, Ok, Err}
use Rattle.std.specs.Str.{is_utf8}
use Rattle.kd_item.specs.Spelling.{Entry, number}
use Rattle.kd_item.specs.Reading.{split, placed}
use Rattle.kd_types.specs.declared.refusal.Refusal.{Refusal}
use Rattle.kd_types.specs.declared.refusal.Refusal.TheVariants.{Malformed}
use Rattle.kd_wire.specs.declared.item.WireItem.{WireItem}
use Rattle.kd_wire.specs.declared.item.WireItem.TheVariants.{Payload, Sealed, DstName, Filter, Mask, Name, Access, Bus, Endpoint, Description, Id, IdAdd, IdRemove, NameAdd, NameRemove, NameChange}
use Rattle.kd_wire.specs.declared.kinds.TheConstants.{PAYLOAD, ACCESS}
use Rattle.kd_wire.specs.Items.{kind_of}
use Rattle.kd_wire.specs.Kinds.{is_one_of, how_many, ends_in_group}

-- an item whose body is a text
abbrev pub text_item : ℕ → List ℕ → Option WireItem
text_item kind text =
    if kind == 3 then Some (DstName text)
    else if kind == 6 then Some (Name text)
    else if kind == 8 then Some (Bus text)
    else if kind == 9 then Some (Endpoint text)
    else if kind == 10 then (if nat_le (length text) 255 then Some (Description text) else None)
    else None

-- an item of one word
abbrev pub id_item : ℕ → ℕ → Option WireItem
id_item kind id =
    if kind == 11 then Some (Id id)
    else if kind == 12 then Some (IdAdd id)
    else if kind == 13 then Some (IdRemove id)
    else None

-- an item of two ids and a name
abbrev pub change_item : ℕ → ℕ → ℕ → List ℕ → Option WireItem
change_item kind old new name =
    if kind == 14 then Some (NameAdd old new name)
    else if kind == 15 then Some (NameRemove old new name)
    else if kind == 16 then Some (NameChange old new name)
    else None

-- the same, of its body
abbrev pub change_item_in : ℕ → List ℕ → Option WireItem
change_item_in kind body =
    let name : List ℕ = drop 16 body in
    if nat_lt (length body) 16 then None
    else if is_utf8 name then change_item kind (number body) (number (drop 8 body)) name
    else None

-- the same of an item of one word
abbrev pub id_item_in : ℕ → List ℕ → Option WireItem
id_item_in kind body = if length body == 8 then id_item kind (number body) else None

-- a filter has a word and then bits; a range of a sealed message and an access have three words
abbrev pub filter_item_in : List ℕ → Option WireItem
filter_item_in body =
    if nat_lt (length body) 8 then None else Some (Filter (number body) (drop 8 body))

abbrev pub sealed_item_in : List ℕ → Option WireItem
sealed_item_in body =
    if length body == 24
    then Some (Sealed (number body) (number (drop 8 body)) (number (drop 16 body)))
    else None

abbrev pub access_item_in : List ℕ → Option WireItem
access_item_in body =
    if length body == 24
    then Some (Access (number body) (number (drop 8 body)) (number (drop 16 body)))
    else None

-- what an item says; None where its body isn't one of its kind
unfoldable pub item_in : ℕ → List ℕ → Option WireItem
item_in kind body =
    if kind == 1 then Some (Payload body)
    else if kind == 5 then Some (Mask body)
    else if kind == 4 then filter_item_in body
    else if kind == 2 then sealed_item_in body
    else if kind == 7 then access_item_in body
    else if nat_lt 13 kind then change_item_in kind body
    else if nat_lt 10 kind then id_item_in kind body
    else if is_utf8 body then text_item kind body
    else None

-- whether an item of this kind may stand behind those before it: the command takes the kind; an
-- ACCESS belongs to a group; and there are no more than sixteen PAYLOADs
abbrev pub item_may_follow : List ℕ → List WireItem → ℕ → Bool
item_may_follow kinds before kind =
    if not (is_one_of kinds kind) then false
    else if kind == ACCESS then ends_in_group before
    else if kind == PAYLOAD then nat_lt (how_many PAYLOAD before) 16
    else true

-- an item has the form of its kind: a text is UTF-8, and a description has at most 255 bytes
abbrev pub has_form : WireItem → Bool
has_form (DstName text) = is_utf8 text
has_form (Name text) = is_utf8 text
has_form (Bus text) = is_utf8 text
has_form (Endpoint text) = is_utf8 text
has_form (Description text) = is_utf8 text && nat_le (length text) 255
has_form (NameAdd old new text) = is_utf8 text
has_form (NameRemove old new text) = is_utf8 text
has_form (NameChange old new text) = is_utf8 text
has_form item = true

-- the items have their forms, and each may stand behind those before it
abbrev pub stand : List ℕ → List WireItem → List WireItem → Bool
stand kinds before [] = true
stand kinds before (item ∷ items) =
    item_may_follow kinds before (kind_of item) && has_form item
    && stand kinds (before ++ item ∷ []) items

-- what an item says behind those before it; None where it may not stand there or its body isn't one
-- of its kind
abbrev pub item_behind : List ℕ → List WireItem → Entry → Option WireItem
item_behind kinds before e =
    if item_may_follow kinds before e.kind then item_in e.kind e.body else None

-- what items say behind those before them, or the place of the first that breaks the format
unfoldable pub items_behind :
    List ℕ → List WireItem → List (Entry × ℕ) → Result (List WireItem) Refusal
items_behind kinds before [] = Ok before
items_behind kinds before (e ∷ es) =
    elim (item_behind kinds before e.0) [
      | None ↦ Err (Malformed e.1)
      | Some item ↦ items_behind kinds (before ++ item ∷ []) es
    ]

-- what was read, unless bytes are left over from this place on
abbrev pub if_ended : ℕ → List ℕ → Result (List WireItem) Refusal → Result (List WireItem) Refusal
if_ended end rest (Err refusal) = Err refusal
if_ended end rest (Ok items) =
    if length rest == 0 then Ok items else Err (Malformed (end - length rest))

-- the items that bytes from this place to the end of a frame spell, or the place of the first that
-- breaks the format
unfoldable pub items_in : List ℕ → ℕ → List ℕ → Result (List WireItem) Refusal
items_in kinds at bytes =
    if_ended (at + length bytes) (split bytes).1
    (items_behind kinds [] (placed at (split bytes).0))
