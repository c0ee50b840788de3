-- The kinds of items, and which of them each command takes.
use Rattle.std.specs.Prelude.{ℕ, ◌-◌, Bool, false, ◌||◌, ◌==◌, nat_eq, if◌then◌else◌, List, [], ◌∷◌, length, filter, Some, None, slice_get, slice_index}
use Rattle.std.specs.List.{list_any}
use Rattle.kd_types.specs.Flags.{has_bits}
use Rattle.kd_wire.specs.declared.opcode.Opcode.{Opcode}
use Rattle.kd_wire.specs.declared.opcode.Opcode.TheVariants.{Hello, Send, NameAcquire, NameRelease, MatchAdd, PolicySet, EndpointMake, MakeBus, Seal}
use Rattle.kd_wire.specs.declared.item.WireItem.{WireItem}
use Rattle.kd_wire.specs.declared.kinds.TheConstants.{PAYLOAD, SEALED, DST_NAME, FILTER, MASK, NAME, ACCESS, BUS, ENDPOINT, DESCRIPTION, ID, ID_ADD, ID_REMOVE, NAME_ADD, NAME_REMOVE, NAME_CHANGE}
use Rattle.kd_wire.specs.Items.{kind_of}

-- the flags of a HELLO that decide on its items: an activator brings one name; a holder, unless it
-- is an activator too, brings groups
abbrev pub has_activator_flag : ℕ → Bool
has_activator_flag flags = has_bits flags 2

abbrev pub has_holder_flag : ℕ → Bool
has_holder_flag flags = has_bits flags 4

-- the kinds that a command takes, by the flags of its frame; a group is a NAME and the ACCESS items
-- behind it
abbrev pub kinds_of : Opcode → ℕ → List ℕ
kinds_of Hello flags =
    if has_activator_flag flags then NAME ∷ BUS ∷ ENDPOINT ∷ DESCRIPTION ∷ []
    else if has_holder_flag flags then NAME ∷ ACCESS ∷ BUS ∷ ENDPOINT ∷ DESCRIPTION ∷ []
    else BUS ∷ ENDPOINT ∷ DESCRIPTION ∷ []
kinds_of Send flags = PAYLOAD ∷ SEALED ∷ DST_NAME ∷ FILTER ∷ []
kinds_of NameAcquire flags = NAME ∷ []
kinds_of NameRelease flags = NAME ∷ []
kinds_of MatchAdd flags =
    MASK ∷ NAME ∷ ID ∷ ID_ADD ∷ ID_REMOVE ∷ NAME_ADD ∷ NAME_REMOVE ∷ NAME_CHANGE ∷ []
kinds_of PolicySet flags = NAME ∷ ACCESS ∷ []
kinds_of EndpointMake flags = NAME ∷ ACCESS ∷ BUS ∷ ENDPOINT ∷ []
kinds_of MakeBus flags = BUS ∷ []
kinds_of Seal flags = PAYLOAD ∷ []
kinds_of opcode flags = []

-- the kinds of which it takes one at most
abbrev pub single_kinds : Opcode → ℕ → List ℕ
single_kinds Hello flags =
    if has_activator_flag flags then NAME ∷ BUS ∷ ENDPOINT ∷ DESCRIPTION ∷ []
    else BUS ∷ ENDPOINT ∷ DESCRIPTION ∷ []
single_kinds Send flags = SEALED ∷ DST_NAME ∷ FILTER ∷ []
single_kinds NameAcquire flags = NAME ∷ []
single_kinds NameRelease flags = NAME ∷ []
single_kinds EndpointMake flags = BUS ∷ ENDPOINT ∷ []
single_kinds MakeBus flags = BUS ∷ []
single_kinds Seal flags = PAYLOAD ∷ []
single_kinds opcode flags = []

-- the word at a place of a list
abbrev pub nth : List ℕ → ℕ → ℕ
nth = slice_index

-- the kinds of which it needs one. A message to the id 0 goes to a name, one to all ones goes to
-- whom its filter fits
abbrev pub needed_kinds : Opcode → ℕ → List ℕ → List ℕ
needed_kinds Hello flags words = if has_activator_flag flags then NAME ∷ [] else []
needed_kinds Send flags words =
    if nth words 3 == 0 then DST_NAME ∷ []
    else if nth words 3 == 18446744073709551615 then FILTER ∷ [] else []
needed_kinds NameAcquire flags words = NAME ∷ []
needed_kinds NameRelease flags words = NAME ∷ []
needed_kinds EndpointMake flags words = ENDPOINT ∷ []
needed_kinds MakeBus flags words = BUS ∷ []
needed_kinds Seal flags words = PAYLOAD ∷ []
needed_kinds opcode flags words = []

abbrev pub is_one_of : List ℕ → ℕ → Bool
is_one_of kinds kind = list_any (λ k. nat_eq k kind) kinds

-- how many of the items are of this kind
abbrev pub how_many : ℕ → List WireItem → ℕ
how_many kind items = length (filter (λ item. kind_of item == kind) items)

-- the last of the items is a NAME, or an ACCESS of its group
abbrev pub ends_in_group : List WireItem → Bool
ends_in_group items =
    elim (slice_get items (length items - 1)) [
      | None ↦ false
      | Some item ↦ kind_of item == NAME || kind_of item == ACCESS
    ]
