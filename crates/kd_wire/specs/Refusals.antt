-- Which refusal a frame has, in their order.
use Rattle.std.specs.Prelude.{◌≡◌, ℕ, zero, suc, ◌+◌, ◌*◌, ◌-◌, ◌%◌, ◌^◌, ◌<◌, ◌≤◌, ◌⊎◌, ⊤, Bool, true, false, not, ◌&&◌, ◌||◌, nat_lt, nat_le, ◌==◌, if◌then◌else◌, List, [], ◌∷◌, length, drop, map, Option, Some, None, Result, Ok, Err}
use Rattle.std.specs.List.{list_any}
use Rattle.kd_model.specs.Words.{first_that_holds}
use Rattle.kd_item.specs.Spelling.{number}
use Rattle.kd_types.specs.Flags.{has_bits, has_only}
use Rattle.kd_types.specs.declared.refusal.Refusal.{Refusal}
use Rattle.kd_types.specs.declared.refusal.Refusal.TheVariants.{Malformed, Unsupported, BadFlags, MissingItem, DoubledItem, OutOfMemory}
use Rattle.kd_wire.specs.declared.port.Port.{Port}
use Rattle.kd_wire.specs.declared.opcode.Opcode.{Opcode}
use Rattle.kd_wire.specs.declared.opcode.Opcode.TheVariants.{Hello, Send, Recv, Read, NameAcquire, NameRelease, NameList, MatchAdd, PolicySet, EndpointMake, MakeBus, Seal, Enter}
use Rattle.kd_wire.specs.declared.item.WireItem.{WireItem}
use Rattle.kd_wire.specs.declared.item.WireItem.TheVariants.{Access}
use Rattle.kd_wire.specs.declared.kinds.TheConstants.{PAYLOAD, NAME, ACCESS, BUS}
use Rattle.kd_wire.specs.declared.command.Command.{Command}
use Rattle.kd_wire.specs.Commands.{opcode_in, flags_of, command_words, items_of}
use Rattle.kd_wire.specs.Ports.{takes_caller, takes_opcode}
use Rattle.kd_wire.specs.Opcodes.{opcode_of, word_count}
use Rattle.kd_wire.specs.Items.{kind_of, spelled}
use Rattle.kd_wire.specs.Frames.{command_word, caller_word, flags_word, frame_length}
use Rattle.kd_wire.specs.Kinds.{has_holder_flag, kinds_of, single_kinds, needed_kinds, nth, is_one_of, how_many}
use Rattle.kd_wire.specs.Reading.{items_in, stand}
use Rattle.kd_model.specs.Filters.{is_bloom_size, is_hash_count}

-- so many words, the first one at this place
abbrev pub words_from : ℕ → ℕ → List ℕ → List ℕ
words_from zero at bytes = []
words_from (suc n) at bytes = number (drop at bytes) ∷ words_from n (at + 8) bytes

-- the words of a command, in the bytes behind the head of its frame
abbrev pub own_words : Opcode → List ℕ → List ℕ
own_words opcode bytes = words_from (word_count opcode) 0 bytes

-- an item of which one at most may stand stands twice
abbrev pub has_double : List ℕ → List WireItem → Bool
has_double single items = list_any (λ kind. nat_lt 1 (how_many kind items)) single

-- an item of which one must stand doesn't
abbrev pub lacks_one : List ℕ → List WireItem → Bool
lacks_one needed items = list_any (λ kind. how_many kind items == 0) needed

-- the first of the items is an ACCESS
abbrev pub begins_with_access : List WireItem → Bool
begins_with_access [] = false
begins_with_access (item ∷ items) = kind_of item == ACCESS

-- a NAME has no ACCESS directly behind it
abbrev pub has_bare_name : List WireItem → Bool
has_bare_name [] = false
has_bare_name (item ∷ items) =
    (kind_of item == NAME && not (begins_with_access items)) || has_bare_name items

-- the items have groups, of which one has no ACCESS
abbrev pub has_empty_group : List ℕ → List WireItem → Bool
has_empty_group kinds items = is_one_of kinds ACCESS && has_bare_name items

-- a flag that the command doesn't have
abbrev pub has_unknown_flag : Opcode → ℕ → Bool
has_unknown_flag Hello flags = not (has_only flags 14)
has_unknown_flag Recv flags = nat_lt 7 flags
has_unknown_flag Read flags = nat_lt 1 flags
has_unknown_flag NameAcquire flags = nat_lt 7 flags
has_unknown_flag NameList flags = nat_lt 15 flags
has_unknown_flag MatchAdd flags = nat_lt 1 flags
has_unknown_flag opcode flags = nat_lt 0 flags

-- two of the flags ACTIVATOR, HOLDER and MONITOR
abbrev pub is_two_kinds : ℕ → Bool
is_two_kinds flags = has_bits flags 6 || has_bits flags 10 || has_bits flags 12

-- from 256 bytes to 1 MiB, in words
abbrev pub is_pool_size : ℕ → Bool
is_pool_size size = nat_le 256 size && nat_le size 1048576 && (size % 8 == 0)

-- a holder has no pool
abbrev pub is_pool_of : ℕ → ℕ → Bool
is_pool_of flags size = if has_holder_flag flags then size == 0 else is_pool_size size

-- a choice or a size that is outside its values
abbrev pub has_bad_word : Opcode → ℕ → List ℕ → Bool
has_bad_word Hello flags words =
    is_two_kinds flags || not (is_pool_of flags (nth words 0)) || nat_lt 15 (nth words 1)
    || nat_lt 15 (nth words 2)
has_bad_word Send flags words = nat_lt 7 (nth words 1)
has_bad_word Recv flags words = has_bits flags 3
has_bad_word MakeBus flags words =
    not (is_bloom_size (nth words 0)) || not (is_hash_count (nth words 1))
has_bad_word Enter flags words =
    nat_lt 4294967295 (nth words 0) || nat_lt 4294967295 (nth words 1) || nat_lt 1 (nth words 2)
has_bad_word opcode flags words = false

-- an ACCESS whose subject or level isn't 1, 2 or 3, or whose user or group isn't a number of one
abbrev pub is_bad_access : WireItem → Bool
is_bad_access (Access subject level id) =
    not (nat_le 1 subject && nat_le subject 3) || not (nat_le 1 level && nat_le level 3)
    || (nat_lt subject 3 && nat_lt 4294967295 id)
is_bad_access item = false

-- what is wrong with the values of a frame whose format isn't broken
unfoldable pub flaw_of : Opcode → ℕ → List ℕ → List WireItem → Option Refusal
flaw_of opcode flags words items = first_that_holds (
    (has_double (single_kinds opcode flags) items, DoubledItem)
    ∷ (
      lacks_one (needed_kinds opcode flags words) items
          || has_empty_group (kinds_of opcode flags) items,
      MissingItem,
    )
    ∷ (
      has_unknown_flag opcode flags || has_bad_word opcode flags words
          || list_any is_bad_access items,
      BadFlags,
    )
    ∷ [])

-- the command's words don't fit the frame, or the first word of a message isn't the size of its
-- header and items
abbrev pub has_broken_words : Opcode → List ℕ → Bool
has_broken_words Send frame =
    nat_lt (length frame) 96 || not (number (drop 32 frame) == length frame - 32)
has_broken_words opcode frame = nat_lt (length frame) (32 + 8 * word_count opcode)

-- where a command's items begin
abbrev pub items_at : Opcode → ℕ
items_at opcode = 32 + 8 * word_count opcode

-- what a frame's items say, by the kinds that its command takes
abbrev pub frame_items : Opcode → List ℕ → Result (List WireItem) Refusal
frame_items opcode frame =
    let start = items_at opcode in
    items_in (kinds_of opcode (flags_word frame)) start (drop start frame)

-- what is wrong with a frame whose items were read, or why they weren't
abbrev pub flaw_if_read : Opcode → List ℕ → Result (List WireItem) Refusal → Option Refusal
flaw_if_read opcode frame (Err refusal) = Some refusal
flaw_if_read opcode frame (Ok items) =
    flaw_of opcode (flags_word frame) (own_words opcode (drop 32 frame)) items

-- the refusal of a frame that has this command, or None
abbrev pub refusal_in : Port → Opcode → List ℕ → Option Refusal
refusal_in port opcode frame =
    if not (takes_caller port (caller_word frame)) then Some (Malformed 16)
    else if has_broken_words opcode frame then Some (Malformed 32)
    else flaw_if_read opcode frame (frame_items opcode frame)

-- the refusal of a frame that names this command, or names none
abbrev pub refusal_by : Option Opcode → Port → List ℕ → Option Refusal
refusal_by None port frame = Some (Unsupported (command_word frame))
refusal_by (Some opcode) port frame =
    if takes_opcode port opcode then refusal_in port opcode frame
    else Some (Unsupported (command_word frame))

-- the first refusal of a frame: Unsupported, Malformed, DoubledItem, MissingItem, BadFlags, in this
-- order, or None
unfoldable pub refusal_of : Port → List ℕ → Option Refusal
refusal_of port frame = refusal_by (opcode_of (command_word frame)) port frame

-- the first word of a message is the size of its header and items
abbrev pub IsSized : Opcode → List ℕ → List WireItem → Type 0
IsSized Send words items = nth words 0 ≡ 64 + length (spelled items)
IsSized opcode words items = ⊤

-- the flags, words and items of some command
abbrev pub AreParts : Opcode → ℕ → List ℕ → List WireItem → Type 0
AreParts Hello flags words items = nth words 0 < 2 ^ 32
AreParts Send flags words items = (flags ≡ 0) × (nth words 0 ≡ 64 + length (spelled items))
AreParts Recv flags words items = items ≡ []
AreParts Read flags words items = (flags ≤ 1) × (items ≡ [])
AreParts NameAcquire flags words items = map kind_of items ≡ NAME ∷ []
AreParts NameRelease flags words items = (flags ≡ 0) × (map kind_of items ≡ NAME ∷ [])
AreParts NameList flags words items = items ≡ []
AreParts MatchAdd flags words items = flags ≤ 1
AreParts PolicySet flags words items = flags ≡ 0
AreParts EndpointMake flags words items = flags ≡ 0
AreParts MakeBus flags words items =
    (flags ≡ 0) × (nth words 0 < 2 ^ 32) × (nth words 1 < 2 ^ 32) × (map kind_of items ≡ BUS ∷ [])
AreParts Seal flags words items = (flags ≡ 0) × (map kind_of items ≡ PAYLOAD ∷ [])
AreParts Enter flags words items =
    (flags ≡ 0) × (nth words 0 < 2 ^ 32) × (nth words 1 < 2 ^ 32) × (nth words 2 ≤ 1) × (items ≡ [])
AreParts opcode flags words items = (flags ≡ 0) × (items ≡ [])

-- what is wrong with the values of a command
abbrev pub command_flaw : Command → Option Refusal
command_flaw command =
    flaw_of (opcode_in command) (flags_of command) (command_words command) (items_of command)

-- a command that has a frame, and whose frame has no refusal but Unsupported
pub record IsWellFormed (command : Command) : Type 0 where
  pub size : frame_length command ≤ 131072
  pub items : stand (kinds_of (opcode_in command) (flags_of command)) [] (items_of command) ≡ true
  pub values : command_flaw command ≡ None

-- why a call failed: memory ran out, or this is the refusal
abbrev pub IsWhy : Refusal → Option Refusal → Type 0
IsWhy refusal why = (refusal ≡ OutOfMemory) ⊎ (why ≡ Some refusal)
