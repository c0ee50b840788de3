-- What one turn did, as an entry of a lock's list says it. A list has each entry with the number of
-- the pass that made it.
use Rattle.std.specs.Prelude.{ℕ, List, Option}
use Rattle.kd_wire.specs.declared.command.Command.{Command}
use Rattle.kd_wire.specs.declared.reply.Reply.{Reply}
use Rattle.kd_acts.specs.State.{Act, Answer}
use Rattle.kd_commands.specs.declared.who.Who.{Who}
use Rattle.kd_commands.specs.declared.who.WhoKind.{WhoKind}

-- a command that left the desk, or was refused by it
pub record Left : Type 0 where
  -- of which bus of the slot the desk was
  pub generation : ℕ
  -- of a HELLO or an ENDPOINT_MAKE, the bus at which its pass was aimed, if it was
  pub aim : Option ℕ
  pub who : Who
  pub command : Command
  -- what the pools answered to its visits; that of a drain has the drained messages
  pub outs : List Answer
  pub reply : Reply
  -- what its caller is then
  pub becomes : WhoKind

-- a new bus in the slot, with its generation
pub record Started : Type 0 where
  pub generation : ℕ
  pub creator : ℕ
  pub size : ℕ
  pub hashes : ℕ

-- an act on a pool of this generation: the marked numbers that its sweep freed before it, and what
-- it was answered
pub record Did : Type 0 where
  pub generation : ℕ
  pub freed : List ℕ
  pub act : Act
  pub answer : Answer

-- one turn; one that wanted memory, or found another bus than the one to remove, did nothing
pub data Turn : Type 0 where
  left : (l : Left) → Turn
  started : (b : Started) → Turn
  removed : (generation : ℕ) → Turn
  did : (d : Did) → Turn
  idle : Turn
