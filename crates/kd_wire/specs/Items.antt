-- What the items of commands say, and how each is spelled.
use Rattle.std.specs.Prelude.{ℕ, ◌+◌, ◌*◌, List, [], ◌∷◌, ◌++◌, length}
use Rattle.std.specs.List.{flat_map}
use Rattle.kd_item.specs.Spelling.{Entry, words, item_length, spelling}
use Rattle.kd_wire.specs.declared.item.WireItem.{WireItem}
use Rattle.kd_wire.specs.declared.item.WireItem.TheVariants.{Payload, Sealed, DstName, Filter, Mask, Name, Access, Bus, Endpoint, Description, Id, IdAdd, IdRemove, NameAdd, NameRemove, NameChange}

-- the kind word
abbrev pub kind_of : WireItem → ℕ
kind_of (Payload bytes) = 1
kind_of (Sealed number start length) = 2
kind_of (DstName text) = 3
kind_of (Filter generation bits) = 4
kind_of (Mask bits) = 5
kind_of (Name text) = 6
kind_of (Access subject level id) = 7
kind_of (Bus text) = 8
kind_of (Endpoint text) = 9
kind_of (Description text) = 10
kind_of (Id id) = 11
kind_of (IdAdd id) = 12
kind_of (IdRemove id) = 13
kind_of (NameAdd old new text) = 14
kind_of (NameRemove old new text) = 15
kind_of (NameChange old new text) = 16

-- the words that the body begins with
abbrev pub words_in : WireItem → List ℕ
words_in (Sealed number start size) = number ∷ start ∷ size ∷ []
words_in (Filter generation bits) = generation ∷ []
words_in (Access subject level id) = subject ∷ level ∷ id ∷ []
words_in (Id id) = id ∷ []
words_in (IdAdd id) = id ∷ []
words_in (IdRemove id) = id ∷ []
words_in (NameAdd old new text) = old ∷ new ∷ []
words_in (NameRemove old new text) = old ∷ new ∷ []
words_in (NameChange old new text) = old ∷ new ∷ []
words_in item = []

-- the bytes or the text behind them
abbrev pub bytes_in : WireItem → List ℕ
bytes_in (Payload bytes) = bytes
bytes_in (DstName text) = text
bytes_in (Filter generation bits) = bits
bytes_in (Mask bits) = bits
bytes_in (Name text) = text
bytes_in (Bus text) = text
bytes_in (Endpoint text) = text
bytes_in (Description text) = text
bytes_in (NameAdd old new text) = text
bytes_in (NameRemove old new text) = text
bytes_in (NameChange old new text) = text
bytes_in item = []

abbrev pub body_of : WireItem → List ℕ
body_of item = words (words_in item) ++ bytes_in item

abbrev pub wire_entry : WireItem → Entry
wire_entry item = record { kind = kind_of item; body = body_of item }

-- the bytes of items, one after the other
abbrev pub spelled : List WireItem → List ℕ
spelled items = flat_map (λ item. spelling (wire_entry item)) items

-- how many bytes an item takes
abbrev pub wire_length : WireItem → ℕ
wire_length item = item_length (8 * length (words_in item) + length (bytes_in item))
