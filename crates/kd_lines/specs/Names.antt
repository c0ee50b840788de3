-- The names of commands and refusals.
use Rattle.std.specs.Prelude.{ℕ, List, [], ◌++◌, codes, decimal, Option, Some, None}
use Rattle.kd_wire.specs.declared.opcode.Opcode.{Opcode}
use Rattle.kd_wire.specs.declared.opcode.Opcode.TheVariants.{Hello, Send, Recv, Read, Free, Byebye, Close, NameAcquire, NameRelease, NameList, MatchAdd, MatchRemove, PolicySet, EndpointMake, MakeBus, Tick, Seal, Unseal, Enter}
use Rattle.kd_wire.specs.Opcodes.{opcode_of}
use Rattle.kd_types.specs.declared.refusal.Refusal.{Refusal}
use Rattle.kd_types.specs.declared.refusal.Refusal.TheVariants as refusals
use Rattle.kd_lines.specs.Marks.{field}

unfoldable pub command_name : Opcode → List ℕ
command_name Hello = codes "HELLO"
command_name Send = codes "SEND"
command_name Recv = codes "RECV"
command_name Read = codes "READ"
command_name Free = codes "FREE"
command_name Byebye = codes "BYEBYE"
command_name Close = codes "CLOSE"
command_name NameAcquire = codes "NAME_ACQUIRE"
command_name NameRelease = codes "NAME_RELEASE"
command_name NameList = codes "NAME_LIST"
command_name MatchAdd = codes "MATCH_ADD"
command_name MatchRemove = codes "MATCH_REMOVE"
command_name PolicySet = codes "POLICY_SET"
command_name EndpointMake = codes "ENDPOINT_MAKE"
command_name MakeBus = codes "MAKE_BUS"
command_name Tick = codes "TICK"
command_name Seal = codes "SEAL"
command_name Unseal = codes "UNSEAL"
command_name Enter = codes "ENTER"

-- the name of the command of this number; the number itself where no command has it
abbrev pub name_of : Option Opcode → ℕ → List ℕ
name_of None number = decimal number
name_of (Some opcode) number = command_name opcode

abbrev pub number_name : ℕ → List ℕ
number_name number = name_of (opcode_of number) number

-- a refusal's name
unfoldable pub refusal_name : Refusal → List ℕ
refusal_name (refusals.Malformed at) = codes "Malformed"
refusal_name (refusals.Unsupported cmd) = codes "Unsupported"
refusal_name refusals.BadFlags = codes "BadFlags"
refusal_name refusals.MissingItem = codes "MissingItem"
refusal_name refusals.DoubledItem = codes "DoubledItem"
refusal_name refusals.BadName = codes "BadName"
refusal_name refusals.NotPermitted = codes "NotPermitted"
refusal_name refusals.NoSuchName = codes "NoSuchName"
refusal_name refusals.NoSuchConnection = codes "NoSuchConnection"
refusal_name (refusals.NameMoved owner) = codes "NameMoved"
refusal_name refusals.NameTaken = codes "NameTaken"
refusal_name refusals.AlreadyOwned = codes "AlreadyOwned"
refusal_name refusals.NotOwner = codes "NotOwner"
refusal_name (refusals.TooMany limit) = codes "TooMany"
refusal_name refusals.PoolFull = codes "PoolFull"
refusal_name refusals.Quota = codes "Quota"
refusal_name refusals.NotStarted = codes "NotStarted"
refusal_name (refusals.NoMessage dropped) = codes "NoMessage"
refusal_name refusals.NoSuchPriority = codes "NoSuchPriority"
refusal_name refusals.NoSuchSlice = codes "NoSuchSlice"
refusal_name refusals.NotReceived = codes "NotReceived"
refusal_name (refusals.Busy slice) = codes "Busy"
refusal_name refusals.BloomSize = codes "BloomSize"
refusal_name refusals.TooLong = codes "TooLong"
refusal_name refusals.BroadcastMisuse = codes "BroadcastMisuse"
refusal_name (refusals.NoSuchBus generation) = codes "NoSuchBus"
refusal_name refusals.BusExists = codes "BusExists"
refusal_name refusals.WrongPrefix = codes "WrongPrefix"
refusal_name refusals.NoSuchEndpoint = codes "NoSuchEndpoint"
refusal_name refusals.EndpointExists = codes "EndpointExists"
refusal_name refusals.WrongState = codes "WrongState"
refusal_name refusals.MessagesQueued = codes "MessagesQueued"
refusal_name refusals.NoSuchMatch = codes "NoSuchMatch"
refusal_name refusals.NoSuchSeal = codes "NoSuchSeal"
refusal_name refusals.BadCookie = codes "BadCookie"
refusal_name refusals.SlicesSpent = codes "SlicesSpent"
refusal_name refusals.TurnsSpent = codes "TurnsSpent"
refusal_name refusals.OutOfMemory = codes "OutOfMemory"

-- its field, where it has one
abbrev pub refusal_field : Refusal → List ℕ
refusal_field (refusals.Malformed at) = field (codes "at") at
refusal_field (refusals.Unsupported cmd) = field (codes "command") cmd
refusal_field (refusals.NameMoved owner) = field (codes "owner") owner
refusal_field (refusals.TooMany limit) = field (codes "limit") limit
refusal_field (refusals.NoMessage dropped) = field (codes "dropped") dropped
refusal_field (refusals.Busy slice) = field (codes "slice") slice
refusal_field (refusals.NoSuchBus generation) = field (codes "generation") generation
refusal_field refusal = []

abbrev pub refusal_text : Refusal → List ℕ
refusal_text refusal = refusal_name refusal ++ refusal_field refusal
