-- What the items of a command say.
use Rattle.std.specs.Prelude.{ℕ, ◌+◌, ◌/◌, ◌==◌, Bool, true, false, not, List, [], ◌∷◌, length, Option, Some, None, filter_map}
use Rattle.kd_wire.specs.declared.item.WireItem.{WireItem}
use Rattle.kd_wire.specs.declared.item.WireItem.TheVariants as item
use Rattle.kd_types.specs.declared.creds.Level.{Level}
use Rattle.kd_types.specs.declared.creds.Level.TheVariants.{See, Talk, Own}
use Rattle.kd_policy.specs.declared.entry.Entry.{Entry}
use Rattle.kd_policy.specs.declared.entry.Subject.{Subject}
use Rattle.kd_policy.specs.declared.entry.Subject.TheVariants.{User, Group, World}
use Rattle.kd_bloom.specs.Bits.{pieces}
use Rattle.kd_bloom.specs.Bloom.{is_mask_length}
use Rattle.kd_match.specs.declared.condition.Condition.{Condition}
use Rattle.kd_match.specs.declared.condition.Condition.TheVariants as condition
use Rattle.kd_image.specs.declared.message.SealedRange.{SealedRange}

-- ---- of a message

-- the name that it is sent to
abbrev pub destination_name : List WireItem → Option (List ℕ)
destination_name [] = None
destination_name (item.DstName n ∷ is) = Some n
destination_name (_ ∷ is) = destination_name is

-- its payloads, in order
abbrev pub payloads : List WireItem → List (List ℕ)
payloads [] = []
payloads (item.Payload bytes ∷ is) = bytes ∷ payloads is
payloads (_ ∷ is) = payloads is

-- a filter: its generation and its bits
pub record Filter : Type 0 where
  pub generation : ℕ
  pub bits : List ℕ

-- the filter of a broadcast
abbrev pub filter_among : List WireItem → Option Filter
filter_among [] = None
filter_among (item.Filter generation bits ∷ is) =
    Some (record { generation = generation; bits = bits })
filter_among (_ ∷ is) = filter_among is

-- a seal that is named, and the range of it that is meant
pub record Named : Type 0 where
  pub number : ℕ
  pub range : SealedRange

-- behind so many payloads
abbrev pub seal_behind : ℕ → List WireItem → Option Named
seal_behind place [] = None
seal_behind place (item.Payload bytes ∷ is) = seal_behind (place + 1) is
seal_behind place (item.Sealed number start len ∷ is) =
    Some (record {
      number = number;
      range = record { place = place; start = start; length = len };
    })
seal_behind place (_ ∷ is) = seal_behind place is

-- its sealed range
abbrev pub sealed_among : List WireItem → Option Named
sealed_among is = seal_behind 0 is

-- ---- of a HELLO

-- the name that an activator stands for
abbrev pub activator_name : List WireItem → List ℕ
activator_name [] = []
activator_name (item.Name n ∷ is) = n
activator_name (_ ∷ is) = activator_name is

-- the label of an endpoint
abbrev pub endpoint_in : List WireItem → Option (List ℕ)
endpoint_in [] = None
endpoint_in (item.Endpoint label ∷ is) = Some label
endpoint_in (_ ∷ is) = endpoint_in is

-- what a connection calls itself
abbrev pub description_in : List WireItem → Option (List ℕ)
description_in [] = None
description_in (item.Description text ∷ is) = Some text
description_in (_ ∷ is) = description_in is

-- the name of a bus
abbrev pub bus_in : List WireItem → Option (List ℕ)
bus_in [] = None
bus_in (item.Bus name ∷ is) = Some name
bus_in (_ ∷ is) = bus_in is

-- ---- of a policy

-- the id of an access for all the world means nothing
abbrev pub subject_named : ℕ → ℕ → Subject
subject_named kind id =
    elim (kind == 1) [
      | true ↦ User id
      | false ↦ elim (kind == 2) [ true ↦ Group id | false ↦ World ]
    ]

-- what an access grants
abbrev pub level_named : ℕ → Level
level_named n = elim (n == 1) [ true ↦ See | false ↦ elim (n == 2) [ true ↦ Talk | false ↦ Own ] ]

-- each access is to the name before it
abbrev pub entries_for : List ℕ → List WireItem → List Entry
entries_for n [] = []
entries_for n (item.Name m ∷ is) = entries_for m is
entries_for n (item.Access subject level id ∷ is) =
    record { pattern = n; subject = subject_named subject id; level = level_named level }
    ∷ entries_for n is
entries_for n (_ ∷ is) = entries_for n is

-- all entries
abbrev pub entries_in : List WireItem → List Entry
entries_in is = entries_for [] is

-- ---- of a rule

-- a mask is cut into its generations
abbrev pub condition_of : ℕ → WireItem → Option Condition
condition_of size (item.Mask bytes) =
    Some (condition.Mask (pieces (length bytes / size) size bytes))
condition_of size (item.Name n) = Some (condition.Name n)
condition_of size (item.Id id) = Some (condition.Id id)
condition_of size (item.IdAdd id) = Some (condition.IdAdd id)
condition_of size (item.IdRemove id) = Some (condition.IdRemove id)
condition_of size (item.NameAdd old new n) = Some (condition.NameAdd old new n)
condition_of size (item.NameRemove old new n) = Some (condition.NameRemove old new n)
condition_of size (item.NameChange old new n) = Some (condition.NameChange old new n)
condition_of size _ = None

-- by the size of the bus's filters
abbrev pub conditions_in : ℕ → List WireItem → List Condition
conditions_in size is = filter_map (condition_of size) is

-- a mask that isn't one to four times the size
abbrev pub is_bad_mask : ℕ → WireItem → Bool
is_bad_mask size (item.Mask bytes) = not (is_mask_length size (length bytes))
is_bad_mask size _ = false
