-- The world of a bus: one desk, its holder, 64 pools and 64 callers.
use Rattle.std.specs.Prelude.{ℕ, ◌-◌, false, List, [], replicate, get_or, Option, None}
use Rattle.kd_types.specs.declared.creds.Kind.{Kind}
use Rattle.kd_types.specs.declared.creds.Kind.TheVariants.{Ordinary}
use Rattle.kd_wire.specs.declared.command.Command.{Command}
use Rattle.kd_acts.specs.State.{Hold, Answer, Content}
use Rattle.kd_commands.specs.declared.who.Who.{Who}
use Rattle.kd_commands.specs.declared.who.WhoKind.TheVariants as who
use Rattle.kd_commands.specs.State.{Desk, opening_desk}
use Rattle.kd_world.specs.declared.told.Told.{Told}
use Rattle.kd_world.specs.Hands.{empty_hand}

-- an offer that was placed and isn't published; the generation is its pool's
pub record Pending : Type 0 where
  pub seat : ℕ
  pub generation : ℕ
  pub number : ℕ
  pub content : Content

-- the kind stays known after the connection is gone; the hand has what was told of each slice
-- number, and the pendings stand in the order of their making
pub record Caller : Type 0 where
  pub who : Who
  pub kind : Kind
  pub hand : List (Option Told)
  pub pendings : List Pending

-- who has taken the desk, with which command, and what the pools answered so far
pub record Holder : Type 0 where
  pub caller : ℕ
  pub who : Who
  pub command : Command
  pub outs : List Answer

-- the pool of each seat, and the callers 1 to 64
pub record World : Type 0 where
  pub desk : Desk
  pub holder : Option Holder
  pub pools : List Hold
  pub callers : List Caller

abbrev pub closed_pool : Hold
closed_pool = record { generation = 0; pool = None }

-- a caller that hasn't said who it is
abbrev pub stranger : Caller
stranger = record {
  who = record { creds = record { uid = 1000; gid = 1000; privileged = false }; member = who.Fresh };
  kind = Ordinary;
  hand = empty_hand;
  pendings = [];
}

-- the opening, by the bus's creator, and the size and hashes of its filters
unfoldable pub new_world : ℕ → ℕ → ℕ → World
new_world creator size hashes = record {
  desk = opening_desk creator size hashes;
  holder = None;
  pools = replicate 64 closed_pool;
  callers = replicate 64 stranger;
}

abbrev pub caller_at : World → ℕ → Caller
caller_at w n = get_or w.callers (n - 1) stranger

abbrev pub pool_at : World → ℕ → Hold
pool_at w s = get_or w.pools s closed_pool
