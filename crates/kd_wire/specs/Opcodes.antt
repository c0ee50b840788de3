-- The numbers of commands.
use Rattle.std.specs.Prelude.{ℕ, ◌==◌, if◌then◌else◌, Option, Some, None}
use Rattle.kd_wire.specs.declared.opcode.Opcode.{Opcode}
use Rattle.kd_wire.specs.declared.opcode.Opcode.TheVariants.{Hello, Send, Recv, Read, Free, Byebye, Close, NameAcquire, NameRelease, NameList, MatchAdd, MatchRemove, PolicySet, EndpointMake, MakeBus, Tick, Seal, Unseal, Enter}

-- the command word of a frame
abbrev pub opcode_number : Opcode → ℕ
opcode_number Hello = 1
opcode_number Send = 2
opcode_number Recv = 3
opcode_number Read = 4
opcode_number Free = 5
opcode_number Byebye = 6
opcode_number Close = 7
opcode_number NameAcquire = 8
opcode_number NameRelease = 9
opcode_number NameList = 10
opcode_number MatchAdd = 11
opcode_number MatchRemove = 12
opcode_number PolicySet = 13
opcode_number EndpointMake = 14
opcode_number MakeBus = 15
opcode_number Tick = 16
opcode_number Seal = 17
opcode_number Unseal = 18
opcode_number Enter = 19

-- the command that has this number
abbrev pub opcode_of : ℕ → Option Opcode
opcode_of n =
    if n == 1 then Some Hello
    else if n == 2 then Some Send
    else if n == 3 then Some Recv
    else if n == 4 then Some Read
    else if n == 5 then Some Free
    else if n == 6 then Some Byebye
    else if n == 7 then Some Close
    else if n == 8 then Some NameAcquire
    else if n == 9 then Some NameRelease
    else if n == 10 then Some NameList
    else if n == 11 then Some MatchAdd
    else if n == 12 then Some MatchRemove
    else if n == 13 then Some PolicySet
    else if n == 14 then Some EndpointMake
    else if n == 15 then Some MakeBus
    else if n == 16 then Some Tick
    else if n == 17 then Some Seal
    else if n == 18 then Some Unseal
    else if n == 19 then Some Enter
    else None

-- how many words of its own a command has
abbrev pub word_count : Opcode → ℕ
word_count Hello = 3
word_count Send = 8
word_count Recv = 1
word_count Read = 1
word_count Free = 1
word_count MatchAdd = 1
word_count MatchRemove = 1
word_count MakeBus = 2
word_count Tick = 1
word_count Unseal = 1
word_count Enter = 3
word_count opcode = 0
