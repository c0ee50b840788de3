-- Frames as bytes.
use Rattle.std.specs.Prelude.{ℕ, ◌+◌, ◌*◌, ◌%◌, Bool, ◌||◌, nat_lt, ◌==◌, not, if◌then◌else◌, List, [], ◌∷◌, ◌++◌, length, drop}
use Rattle.kd_item.specs.Spelling.{words, number}
use Rattle.kd_wire.specs.declared.item.WireItem.{WireItem}
use Rattle.kd_wire.specs.declared.command.Command.{Command}
use Rattle.kd_wire.specs.declared.frame.Cut.{Cut}
use Rattle.kd_wire.specs.declared.frame.Cut.TheVariants.{Frame, Need, Bad}
use Rattle.kd_wire.specs.Items.{spelled}
use Rattle.kd_wire.specs.Opcodes.{opcode_number}
use Rattle.kd_wire.specs.Commands.{opcode_in, flags_of, command_words, items_of}

-- four words, further words, and items
abbrev pub layout : ℕ → ℕ → ℕ → List ℕ → List WireItem → List ℕ
layout command caller flags own items =
    words ((32 + 8 * length own + length (spelled items)) ∷ command ∷ caller ∷ flags ∷ [])
    ++ words own ++ spelled items

-- how many bytes a command's frame has
abbrev pub frame_length : Command → ℕ
frame_length command = 32 + 8 * length (command_words command) + length (spelled (items_of command))

-- the one spelling of a command from this caller
abbrev pub frame_of : ℕ → Command → List ℕ
frame_of caller command =
    layout (opcode_number (opcode_in command)) caller (flags_of command) (command_words command)
    (items_of command)

-- no frame has such a size
abbrev pub is_no_size : ℕ → Bool
is_no_size size = nat_lt size 32 || nat_lt 131072 size || not (size % 8 == 0)

-- what stands at the front of the bytes, by the size word alone
abbrev pub cut_of : List ℕ → Cut
cut_of bytes =
    if nat_lt (length bytes) 8 then Need 8
    else if is_no_size (number bytes) then Bad
    else if nat_lt (length bytes) (number bytes) then Need (number bytes)
    else Frame (number bytes)

-- the words of a frame's head, each at its place
abbrev pub command_word : List ℕ → ℕ
command_word bytes = number (drop 8 bytes)

abbrev pub caller_word : List ℕ → ℕ
caller_word bytes = number (drop 16 bytes)

abbrev pub flags_word : List ℕ → ℕ
flags_word bytes = number (drop 24 bytes)
