-- A refusal is known by its number and its value.
use Rattle.std.proofs.Common.{◌≡◌, ℕ, refl, sym, ap, ◌∙◌}
use Rattle.std.specs.Prelude.{unwrap_or}
use Rattle.kd_types.specs.declared.refusal.Refusal.{Refusal}
use Rattle.kd_types.specs.declared.refusal.Refusal.TheVariants.{Malformed, Unsupported, BadFlags, MissingItem, DoubledItem, BadName, NotPermitted, NoSuchName, NoSuchConnection, NameMoved, NameTaken, AlreadyOwned, NotOwner, TooMany, PoolFull, Quota, NotStarted, NoMessage, NoSuchPriority, NoSuchSlice, NotReceived, Busy, BloomSize, TooLong, BroadcastMisuse, NoSuchBus, BusExists, WrongPrefix, NoSuchEndpoint, EndpointExists, WrongState, MessagesQueued, NoSuchMatch, NoSuchSeal, BadCookie, SlicesSpent, TurnsSpent, OutOfMemory}
use Rattle.kd_types.specs.Refusal.{refusal_number, refusal_value}
use Rattle.kd_wire.specs.ReplyReading.{refusal_from}

-- the refusal of these words; want of memory has none
refusal_by : ℕ → ℕ → Refusal
refusal_by code value = unwrap_or (refusal_from code value) OutOfMemory

is_by : (why : Refusal) → refusal_by (refusal_number why) (refusal_value why) ≡ why
unfolding refusal_by
is_by (Malformed at) = refl
is_by (Unsupported cmd) = refl
is_by BadFlags = refl
is_by MissingItem = refl
is_by DoubledItem = refl
is_by BadName = refl
is_by NotPermitted = refl
is_by NoSuchName = refl
is_by NoSuchConnection = refl
is_by (NameMoved owner) = refl
is_by NameTaken = refl
is_by AlreadyOwned = refl
is_by NotOwner = refl
is_by (TooMany limit) = refl
is_by PoolFull = refl
is_by Quota = refl
is_by NotStarted = refl
is_by (NoMessage dropped) = refl
is_by NoSuchPriority = refl
is_by NoSuchSlice = refl
is_by NotReceived = refl
is_by (Busy slice) = refl
is_by BloomSize = refl
is_by TooLong = refl
is_by BroadcastMisuse = refl
is_by (NoSuchBus generation) = refl
is_by BusExists = refl
is_by WrongPrefix = refl
is_by NoSuchEndpoint = refl
is_by EndpointExists = refl
is_by WrongState = refl
is_by MessagesQueued = refl
is_by NoSuchMatch = refl
is_by NoSuchSeal = refl
is_by BadCookie = refl
is_by SlicesSpent = refl
is_by TurnsSpent = refl
is_by OutOfMemory = refl

pub same_refusal : (one other : Refusal) → refusal_number one ≡ refusal_number other → refusal_value one ≡ refusal_value other → one ≡ other
same_refusal one other e f =
    sym (is_by one) ∙ ap (λ (k : ℕ). refusal_by k (refusal_value one)) e ∙ ap (refusal_by (refusal_number other)) f ∙ is_by other
