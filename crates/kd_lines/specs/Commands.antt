-- A command as a line.
use Rattle.std.specs.Prelude.{ℕ, ℤ, ◌==◌, if◌then◌else◌, List, [], ◌++◌, codes, decimal}
use Rattle.std.specs.List.{flat_map}
use Rattle.kd_wire.specs.declared.opcode.Opcode.{Opcode}
use Rattle.kd_wire.specs.declared.opcode.Opcode.TheVariants as opcodes
use Rattle.kd_wire.specs.declared.item.WireItem.{WireItem}
use Rattle.kd_wire.specs.declared.item.WireItem.TheVariants.{Payload, Sealed, DstName, Filter, Mask, Name, Access, Bus, Endpoint, Description, Id, IdAdd, IdRemove, NameAdd, NameRemove, NameChange}
use Rattle.kd_wire.specs.declared.command.Command.{Command}
use Rattle.kd_wire.specs.declared.command.Command.TheVariants as commands
use Rattle.kd_wire.specs.Commands.{opcode_in, flags_of, items_of}
use Rattle.kd_lines.specs.Marks.{text, named, field, some_field, signed_field, some_id_field, flag, flag_of, word_text, word_id, change_text}
use Rattle.kd_lines.specs.Names.{command_name}

-- the flags of a message
unfoldable pub reply_flag : ℕ → List ℕ
reply_flag w = flag_of w (codes "EXPECT_REPLY") 1

unfoldable pub start_flag : ℕ → List ℕ
start_flag w = flag_of w (codes "NO_AUTO_START") 2

unfoldable pub signal_flag : ℕ → List ℕ
signal_flag w = flag_of w (codes "SIGNAL") 4

-- the flags of a command that are set in a word
abbrev pub flags_text : Opcode → ℕ → List ℕ
flags_text opcodes.Hello w =
    flag_of w (codes "ACTIVATOR") 2 ++ flag_of w (codes "HOLDER") 4 ++ flag_of w (codes "MONITOR") 8
flags_text opcodes.Send w = reply_flag w ++ start_flag w ++ signal_flag w
flags_text opcodes.Recv w =
    flag_of w (codes "PEEK") 1 ++ flag_of w (codes "DROP") 2 ++ flag_of w (codes "PRIORITY") 4
flags_text opcodes.Read w = flag_of w (codes "SHARED") 1
flags_text opcodes.NameAcquire w =
    flag_of w (codes "REPLACE") 1 ++ flag_of w (codes "ALLOW") 2 ++ flag_of w (codes "QUEUE") 4
flags_text opcodes.NameList w =
    flag_of w (codes "UNIQUE") 1 ++ flag_of w (codes "NAMES") 2 ++ flag_of w (codes "ACTIVATORS") 4
    ++ flag_of w (codes "QUEUED") 8
flags_text opcodes.MatchAdd w = flag_of w (codes "REPLACE") 1
flags_text opcode w = []

-- the word in which a command's flags stand: that of a message is in its header
abbrev pub flag_word : Command → ℕ
flag_word (commands.Send flags priority dst source payload_type cookie last its) = flags.0
flag_word command = flags_of command

-- who may do something with a name, and what
abbrev pub subject_name : ℕ → List ℕ
subject_name n =
    if n == 1 then codes "user" else if n == 2 then codes "group" else if n == 3 then codes "world"
    else decimal n

abbrev pub level_name : ℕ → List ℕ
level_name n =
    if n == 1 then codes "see" else if n == 2 then codes "talk" else if n == 3 then codes "own"
    else decimal n

-- an item: its kind, its numbers, its bytes
abbrev pub item_text : WireItem → List ℕ
item_text (Payload bytes) = word_text (codes " PAYLOAD") bytes
item_text (Sealed number start size) =
    codes " SEALED" ++ field (codes "seal") number ++ field (codes "start") start
    ++ field (codes "length") size
item_text (DstName name) = word_text (codes " DST_NAME") name
item_text (Filter generation bits) =
    codes " FILTER" ++ field (codes "generation") generation ++ text bits
item_text (Mask bits) = word_text (codes " MASK") bits
item_text (Name name) = word_text (codes " NAME") name
item_text (Access subject level id) =
    codes " ACCESS" ++ named (subject_name subject) (decimal id) ++ codes " " ++ level_name level
item_text (Bus name) = word_text (codes " BUS") name
item_text (Endpoint label) = word_text (codes " ENDPOINT") label
item_text (Description words) = word_text (codes " DESCRIPTION") words
item_text (Id id) = word_id (codes " ID") id
item_text (IdAdd id) = word_id (codes " ID_ADD") id
item_text (IdRemove id) = word_id (codes " ID_REMOVE") id
item_text (NameAdd old new name) =
    change_text (codes " NAME_ADD") old new name
item_text (NameRemove old new name) =
    change_text (codes " NAME_REMOVE") old new name
item_text (NameChange old new name) =
    change_text (codes " NAME_CHANGE") old new name

-- whom a message is for, and whom it is from
unfoldable pub way_text : ℕ → ℕ → ℤ → List ℕ
way_text dst source priority =
    some_id_field (codes "to") dst ++ some_field (codes "from") source
    ++ signed_field (codes "priority") priority

-- what it means to its two ends
unfoldable pub sense_text : ℕ → ℕ → ℕ → List ℕ
sense_text payload_type cookie last =
    some_field (codes "type") payload_type ++ some_field (codes "cookie") cookie
    ++ some_field (codes "last") last

-- the command's own numbers
abbrev pub fields_text : Command → List ℕ
fields_text (commands.Hello flags pool send_mask receive_mask its) =
    field (codes "size") pool ++ some_field (codes "send") send_mask
    ++ some_field (codes "receive") receive_mask
fields_text (commands.Send flags priority dst source payload_type cookie last its) =
    way_text dst source priority ++ sense_text payload_type cookie last
fields_text (commands.Recv flags limit) = signed_field (codes "limit") limit
fields_text (commands.Read sealed number) = field (codes "slice") number
fields_text (commands.Free number) = field (codes "slice") number
fields_text (commands.MatchAdd replace cookie its) = field (codes "cookie") cookie
fields_text (commands.MatchRemove cookie) = field (codes "cookie") cookie
fields_text (commands.MakeBus size hashes bus) =
    field (codes "size") size ++ field (codes "hashes") hashes
fields_text (commands.Tick moment) = field (codes "moment") moment
fields_text (commands.Unseal number) = field (codes "seal") number
fields_text (commands.Enter creds) =
    flag (codes "PRIVILEGED") creds.privileged ++ field (codes "uid") creds.uid
    ++ field (codes "gid") creds.gid
fields_text command = []

-- the caller, and a command's name
abbrev pub start_text : ℕ → List ℕ → List ℕ
start_text caller name = codes "c" ++ decimal caller ++ codes " " ++ name

-- its flags, its numbers, its items
unfoldable pub body_text : Command → List ℕ
body_text command =
    flags_text (opcode_in command) (flag_word command) ++ fields_text command
    ++ flat_map item_text (items_of command)

-- a command from this caller
abbrev pub command_line : ℕ → Command → List ℕ
command_line caller command =
    start_text caller (command_name (opcode_in command)) ++ body_text command ++ codes "\n"
