-- What follows of a settled desk: its tables have the room that they need, and whoever something
-- belongs to is found.
use Rattle.std.specs.Prelude.{◌≡◌, ◌<◌, ◌≤◌, ◌*◌, ◌==◌, ℕ, Bool, true, false, List, length, Some, Option, Ok}
use Rattle.std.specs.List.{AllByRecursion}
use Rattle.kd_types.specs.declared.creds.Kind.{Kind}
use Rattle.kd_model.specs.Words.{contains, those}
use Rattle.kd_wire.specs.declared.command.Command.{Command}
use Rattle.kd_registry.specs.declared.claim.Claim.{Claim}
use Rattle.kd_registry.specs.Claims.{owner}
use Rattle.kd_seal.specs.Book.{has_counted, is_seal_of}
use Rattle.kd_match.specs.Rules.{rules_left, rules_of}
use Rattle.kd_match.specs.declared.rule.Rule.{Rule}
use Rattle.kd_replies.specs.Requests.{is_asked_by}
use Rattle.kd_commands.specs.declared.conn.Conn.{Conn}
use Rattle.kd_commands.specs.declared.sent.Sent.{Sent}
use Rattle.kd_commands.specs.declared.who.Who.{Who}
use Rattle.kd_commands.specs.declared.who.WhoKind.{WhoKind}
use Rattle.kd_commands.specs.declared.who.WhoKind.TheVariants as who
use Rattle.kd_commands.specs.State.{Desk, conn_of, opening_desk}
use Rattle.kd_commands.specs.Hello.{free_seat}
use Rattle.kd_commands.specs.Messages.{is_broadcast}
use Rattle.kd_commands.specs.Plans.{Plan}
use Rattle.kd_commands.specs.Send.{receiver, send}
use Rattle.kd_commands.specs.Seating.{IsPlaced}
use Rattle.kd_commands.specs.Step.{plan}
use Rattle.kd_settled.specs.Owners.{is_there, lives, may_claim, sends}
use Rattle.kd_settled.specs.Settled.{IsSettled}

-- a new bus has a settled desk
abbrev pub OpensSettled : Type 0
OpensSettled = (creator size hashes : ℕ) → IsSettled (opening_desk creator size hashes)

-- ---- callers

-- a caller that the desk knows; a keeper's endpoint is there
abbrev pub IsAtHome : Desk → Kind → WhoKind → Type 0
IsAtHome d k who.Fresh = Unit {0}
IsAtHome d k (who.Conn id s) = IsPlaced d id s k
IsAtHome d k (who.Keeper e) = is_there d.endpoints e ≡ true
IsAtHome d k (who.Old s) = ⊥

-- ---- what holds of every plan, for a desk that is settled and a caller that it knows

abbrev pub BySettled : (Desk → Kind → Who → Command → Plan → Type 0) → Type 0
BySettled P =
    (d : Desk) (k : Kind) (w : Who) (x : Command) (p : Plan) → IsSettled d → IsAtHome d k w.member
    → plan d w x ≡ Ok p → P d k w x p

-- the desk stays settled
abbrev pub SettledStays : Type 0
SettledStays = BySettled (λ d k w x p. IsSettled p.next)

-- ---- room

-- where each thing is somebody's among so many, and nobody has more than so many, there are no more
-- than the product of both
abbrev pub ManyAreFew : Type 0
ManyAreFew =
    (ids owners : List ℕ) (most : ℕ) → AllByRecursion (λ o. contains o ids ≡ true) owners
    → ((id : ℕ) → length (those (λ o. o == id) owners) ≤ most)
    → length owners ≤ length ids * most

-- 64 connections, and what 64 of them can have
pub record HasRoom (d : Desk) : Type 0 where
  pub conns : length d.conns ≤ 64
  pub claims : length d.registry ≤ 4096
  pub rules : length d.rules.rules ≤ 4096
  pub seals : length d.seals.seals ≤ 1024
  pub counters : length d.seals.counters ≤ 64
  pub requests : length d.requests ≤ 8192

abbrev pub TablesHaveRoom : Type 0
TablesHaveRoom = (d : Desk) → IsSettled d → HasRoom d

-- a connection that has less than it may finds room for more; of rules, also in place of those that
-- a new one replaces
pub record HasRoomFor (d : Desk) (id : ℕ) : Type 0 where
  pub rules :
      (cookie : ℕ) (replace : Bool)
      → let left : List Rule = rules_left d.rules.rules id cookie replace in
      length (rules_of id left) < 64 → length left < 4096
  pub seals : length (those (is_seal_of id) d.seals.seals) < 16 → length d.seals.seals < 1024
  pub counters : has_counted d.seals id ≡ false → length d.seals.counters < 64
  pub requests : length (those (is_asked_by id) d.requests) < 128 → length d.requests < 8192

abbrev pub SendersHaveRoom : Type 0
SendersHaveRoom =
    (d : Desk) (id : ℕ) → IsSettled d → lives sends d.conns id ≡ true → HasRoomFor d id

-- where a seat is free there is room for a connection
abbrev pub FreeSeatsHaveRoom : Type 0
FreeSeatsHaveRoom =
    (d : Desk) (seat : ℕ) → IsSettled d → free_seat d ≡ Some seat → length d.conns < 64

-- ---- who is there

-- the owner of a name is a live connection of the claim's kind
abbrev pub OwnersAreLive : Type 0
OwnersAreLive =
    (d : Desk) (n : List ℕ) (x : Claim) → IsSettled d → owner d.registry n ≡ Some x
    → (c : Conn) × (conn_of d x.id ≡ Some c) × (may_claim x c ≡ true)

-- a message to one that isn't refused reaches somebody
abbrev pub UnicastsReach : Type 0
UnicastsReach =
    (d : Desk) (c : Conn) (m : Sent) (p : Plan) → IsSettled d → send d c m ≡ Ok p
    → is_broadcast m ≡ false → (r : Conn) × (receiver d m ≡ Some r)
