-- A holder's visit of its next part.
use Rattle.std.specs.Prelude.{◌≡◌, ◌<◌, ◌+◌, ◌++◌, [], ◌∷◌, List, length, drop, set, get_or, Option}
use Rattle.std.specs.List.{AllByRecursion}
use Rattle.kd_acts.specs.State.{Batch, Content, Hold, by_desk}
use Rattle.kd_acts.specs.Steps.{after, answer}
use Rattle.kd_tables.specs.declared.part.Part as code
use Rattle.kd_tables.specs.declared.part.Out.{Out}
use Rattle.kd_tables.specs.Drafts.{IsVisitable, seat_in}
use Rattle.kd_holds.specs.declared.holder.Holder as holder
use Rattle.kd_holds.specs.Handing.{IsDrainedBy, IsMadeFor, answer_told, visit_met}
use Rattle.kd_world.specs.State.{closed_pool}

-- a part is left, and the memory of the parts is made
pub record IsReady (h : holder.Holder) : Type 0 where
  pub left : length h.outs.items < length h.plan.parts
  pub parts : AllByRecursion IsVisitable h.plan.parts
  pub made : IsMadeFor h.made (drop (length h.outs.items) h.plan.parts)

-- the holder has one answer more
pub record HasVisited (old new : holder.Holder) (out : Out) : Type 0 where
  pub caller : new.caller ≡ old.caller
  pub who : new.who ≡ old.who
  pub command : new.command ≡ old.command
  pub creds : new.creds ≡ old.creds
  pub plan : new.plan ≡ old.plan
  pub made : IsMadeFor new.made (drop (length old.outs.items + 1) old.plan.parts)
  pub outs : new.outs.items ≡ old.outs.items ++ out ∷ []

-- the pool of the part's seat has done what the part asks for, whatever its content, with what was
-- drained then
pub record IsVisited (p : code.Part) (old new : List Hold) (out : Out) (was now : Option Batch)
    : Type 0 where
  pub after :
      (c : Option Content)
      → new
      ≡ set old (seat_in p)
      (after (get_or old (seat_in p) closed_pool) (by_desk (visit_met c p now)))
  pub answer :
      (c : Option Content)
      → answer_told p out now
      ≡ answer (get_or old (seat_in p) closed_pool) (by_desk (visit_met c p now))
  pub drained : IsDrainedBy p out was now

-- nothing but the room of its answers may be another
pub record IsSameHolder (old new : holder.Holder) : Type 0 where
  pub caller : new.caller ≡ old.caller
  pub who : new.who ≡ old.who
  pub command : new.command ≡ old.command
  pub creds : new.creds ≡ old.creds
  pub plan : new.plan ≡ old.plan
  pub made : new.made ≡ old.made
  pub outs : new.outs.items ≡ old.outs.items
