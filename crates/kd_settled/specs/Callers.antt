-- Callers after a command: the one that gave it, and all others.
use Rattle.std.specs.Prelude.{◌≡◌, ◌≢◌, ◌⊎◌, ℕ, true, false, [], Ok, Some}
use Rattle.kd_types.specs.declared.creds.Creds.{Creds}
use Rattle.kd_types.specs.declared.creds.Kind.{Kind}
use Rattle.kd_wire.specs.declared.command.Command.{Command}
use Rattle.kd_wire.specs.Commands.{opcode_in}
use Rattle.kd_wire.specs.Replies.{IsReplyTo}
use Rattle.kd_wire.specs.Opcodes.{opcode_number}
use Rattle.kd_commands.specs.declared.who.Who.{Who}
use Rattle.kd_commands.specs.declared.who.WhoKind.{WhoKind}
use Rattle.kd_commands.specs.declared.who.WhoKind.TheVariants as who
use Rattle.kd_commands.specs.State.{Desk, unblocked}
use Rattle.kd_commands.specs.Hello.{is_free}
use Rattle.kd_commands.specs.Plans.{Plan}
use Rattle.kd_commands.specs.Seating.{IsElsewhere}
use Rattle.kd_commands.specs.Step.{plan}
use Rattle.kd_settled.specs.Owners.{is_there}
use Rattle.kd_settled.specs.Room.{BySettled, IsAtHome}

-- it isn't the caller: a connection on another seat, or the keeper of another endpoint
abbrev pub IsApart : WhoKind → WhoKind → Type 0
IsApart own (who.Conn id s) = IsElsewhere s own
IsApart own (who.Keeper e) = own ≢ who.Keeper e
IsApart own _ = Unit {0}

-- all others stay at home: they stay who they are or wait to learn that they are gone, and only its
-- keeper removes an endpoint
abbrev pub OthersStayAtHome : Type 0
OthersStayAtHome =
    BySettled (λ d k w x p.
    (l : Kind) (m : WhoKind) → IsAtHome d l m → IsApart w.member m → IsAtHome p.next l m)

-- the caller is at home, whatever it becomes
abbrev pub CallersAreAtHome : Type 0
CallersAreAtHome = BySettled (λ d k w x p. (l : Kind) × IsAtHome p.next l p.becomes)

-- a keeper keeps its endpoint, or is none any more and the endpoint is gone
abbrev pub IsKept : Desk → ℕ → WhoKind → Type 0
IsKept after e becomes =
    ((becomes ≡ who.Keeper e) × (is_there after.endpoints e ≡ true))
    ⊎ ((becomes ≡ who.Fresh) × (is_there after.endpoints e ≡ false))

abbrev pub KeepersKeep : Type 0
KeepersKeep =
    BySettled (λ d k w x p. (e : ℕ) → w.member ≡ who.Keeper e → IsKept p.next e p.becomes)

-- whoever becomes a keeper keeps an endpoint that wasn't there
abbrev pub KeepersAreNew : Type 0
KeepersAreNew =
    BySettled (λ d k w x p.
    (e : ℕ) → p.becomes ≡ who.Keeper e
    → (w.member ≡ who.Keeper e) ⊎ (is_there d.endpoints e ≡ false))

-- a seat that its caller left is free
abbrev pub LeftSeatsAreFree : Type 0
LeftSeatsAreFree =
    BySettled (λ d k w x p.
    (id s : ℕ) → w.member ≡ who.Conn id s → p.becomes ≡ who.Fresh → is_free p.next s ≡ true)

-- of a bus that was removed since a connection frees its own seat, and nothing else changes
abbrev pub OldFreeTheirSeats : Type 0
OldFreeTheirSeats =
    (d : Desk) (creds : Creds) (s : ℕ) (x : Command) (p : Plan)
    → plan d (record { creds = creds; member = who.Old (Some s) }) x ≡ Ok p
    → (p.parts ≡ []) × (p.next ≡ unblocked s d) × (p.becomes ≡ who.Fresh)

-- each reply is one of its command's
abbrev pub RepliesAnswer : Type 0
RepliesAnswer =
    (d : Desk) (w : Who) (x : Command) (p : Plan) → plan d w x ≡ Ok p
    → IsReplyTo (opcode_number (opcode_in x)) p.reply
