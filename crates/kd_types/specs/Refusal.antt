-- The codes of refusals.
use Rattle.std.specs.Prelude.{ℕ}
use Rattle.kd_types.specs.declared.refusal.Refusal.{Refusal}
use Rattle.kd_types.specs.declared.refusal.Refusal.TheVariants.{Malformed, Unsupported, BadFlags, MissingItem, DoubledItem, BadName, NotPermitted, NoSuchName, NoSuchConnection, NameMoved, NameTaken, AlreadyOwned, NotOwner, TooMany, PoolFull, Quota, NotStarted, NoMessage, NoSuchPriority, NoSuchSlice, NotReceived, Busy, BloomSize, TooLong, BroadcastMisuse, NoSuchBus, BusExists, WrongPrefix, NoSuchEndpoint, EndpointExists, WrongState, MessagesQueued, NoSuchMatch, NoSuchSeal, BadCookie, SlicesSpent, TurnsSpent, OutOfMemory}

-- the code of a reply; 0 for want of memory, which has none
abbrev pub refusal_number : Refusal → ℕ
refusal_number (Malformed at) = 1
refusal_number (Unsupported cmd) = 2
refusal_number BadFlags = 3
refusal_number MissingItem = 4
refusal_number DoubledItem = 5
refusal_number BadName = 6
refusal_number NotPermitted = 7
refusal_number NoSuchName = 8
refusal_number NoSuchConnection = 9
refusal_number (NameMoved owner) = 10
refusal_number NameTaken = 11
refusal_number AlreadyOwned = 12
refusal_number NotOwner = 13
refusal_number (TooMany limit) = 14
refusal_number PoolFull = 15
refusal_number Quota = 16
refusal_number NotStarted = 17
refusal_number (NoMessage dropped) = 18
refusal_number NoSuchPriority = 19
refusal_number NoSuchSlice = 20
refusal_number NotReceived = 21
refusal_number (Busy slice) = 22
refusal_number BloomSize = 23
refusal_number TooLong = 24
refusal_number BroadcastMisuse = 25
refusal_number (NoSuchBus generation) = 26
refusal_number BusExists = 27
refusal_number WrongPrefix = 28
refusal_number NoSuchEndpoint = 29
refusal_number EndpointExists = 30
refusal_number WrongState = 31
refusal_number MessagesQueued = 32
refusal_number NoSuchMatch = 33
refusal_number NoSuchSeal = 34
refusal_number BadCookie = 35
refusal_number SlicesSpent = 36
refusal_number TurnsSpent = 37
refusal_number OutOfMemory = 0

-- the word behind the code: the field, else 0
abbrev pub refusal_value : Refusal → ℕ
refusal_value (Malformed at) = at
refusal_value (Unsupported cmd) = cmd
refusal_value (NameMoved owner) = owner
refusal_value (TooMany limit) = limit
refusal_value (NoMessage dropped) = dropped
refusal_value (Busy slice) = slice
refusal_value (NoSuchBus generation) = generation
refusal_value _ = 0
