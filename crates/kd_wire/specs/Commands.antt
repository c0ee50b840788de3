-- What each command has in its frame.
use Rattle.std.specs.Prelude.{ℕ, ◌+◌, Bool, if◌then◌else◌, List, [], ◌∷◌, length}
use Rattle.std.specs.Int.{w64, cast_unsigned}
use Rattle.kd_wire.specs.declared.opcode.Opcode.{Opcode}
use Rattle.kd_wire.specs.declared.opcode.Opcode.TheVariants as opcodes
use Rattle.kd_wire.specs.declared.item.WireItem.{WireItem}
use Rattle.kd_wire.specs.declared.item.WireItem.TheVariants as items
use Rattle.kd_wire.specs.declared.command.Command.{Command}
use Rattle.kd_wire.specs.declared.command.Command.TheVariants.{Hello, Send, Recv, Read, Free, Byebye, Close, NameAcquire, NameRelease, NameList, MatchAdd, MatchRemove, PolicySet, EndpointMake, MakeBus, Tick, Seal, Unseal, Enter}
use Rattle.kd_wire.specs.Items.{spelled}

-- which command it is
abbrev pub opcode_in : Command → Opcode
opcode_in (Hello flags pool send_mask receive_mask its) = opcodes.Hello
opcode_in (Send flags priority dst source payload_type cookie last its) = opcodes.Send
opcode_in (Recv flags limit) = opcodes.Recv
opcode_in (Read sealed number) = opcodes.Read
opcode_in (Free number) = opcodes.Free
opcode_in Byebye = opcodes.Byebye
opcode_in Close = opcodes.Close
opcode_in (NameAcquire flags name) = opcodes.NameAcquire
opcode_in (NameRelease name) = opcodes.NameRelease
opcode_in (NameList flags) = opcodes.NameList
opcode_in (MatchAdd replace cookie its) = opcodes.MatchAdd
opcode_in (MatchRemove cookie) = opcodes.MatchRemove
opcode_in (PolicySet its) = opcodes.PolicySet
opcode_in (EndpointMake its) = opcodes.EndpointMake
opcode_in (MakeBus size hashes bus) = opcodes.MakeBus
opcode_in (Tick moment) = opcodes.Tick
opcode_in (Seal payload) = opcodes.Seal
opcode_in (Unseal number) = opcodes.Unseal
opcode_in (Enter creds) = opcodes.Enter

-- 1 for yes, 0 for no
abbrev pub bit : Bool → ℕ
bit b = if b then 1 else 0

-- the flags word; the flags of a message stand in its header
abbrev pub flags_of : Command → ℕ
flags_of (Hello flags pool send_mask receive_mask its) = flags.0
flags_of (Recv flags limit) = flags.0
flags_of (Read sealed number) = bit sealed
flags_of (NameAcquire flags name) = flags.0
flags_of (NameList flags) = flags.0
flags_of (MatchAdd replace cookie its) = bit replace
flags_of command = 0

-- the items
abbrev pub items_of : Command → List WireItem
items_of (Hello flags pool send_mask receive_mask its) = its
items_of (Send flags priority dst source payload_type cookie last its) = its
items_of (NameAcquire flags name) = items.Name name ∷ []
items_of (NameRelease name) = items.Name name ∷ []
items_of (MatchAdd replace cookie its) = its
items_of (PolicySet its) = its
items_of (EndpointMake its) = its
items_of (MakeBus size hashes bus) = items.Bus bus ∷ []
items_of (Seal payload) = items.Payload payload ∷ []
items_of command = []

-- the command's own words; those of a SEND are the header of its message, of which the first is the
-- size of header and items
abbrev pub command_words : Command → List ℕ
command_words (Hello flags pool send_mask receive_mask its) = pool ∷ send_mask ∷ receive_mask ∷ []
command_words (Send flags priority dst source payload_type cookie last its) =
    (64 + length (spelled its)) ∷ flags.0 ∷ cast_unsigned w64 priority ∷ dst ∷ source ∷ payload_type
    ∷ cookie ∷ last ∷ []
command_words (Recv flags limit) = cast_unsigned w64 limit ∷ []
command_words (Read sealed number) = number ∷ []
command_words (Free number) = number ∷ []
command_words (MatchAdd replace cookie its) = cookie ∷ []
command_words (MatchRemove cookie) = cookie ∷ []
command_words (MakeBus size hashes bus) = size ∷ hashes ∷ []
command_words (Tick moment) = moment ∷ []
command_words (Unseal number) = number ∷ []
command_words (Enter creds) = creds.uid ∷ creds.gid ∷ bit creds.privileged ∷ []
command_words command = []
