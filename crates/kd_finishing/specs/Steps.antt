-- A command's step at the desk: it is planned, its parts are visited, and it is finished.
use Rattle.std.specs.Prelude.{◌≡◌, List, Ok}
use Rattle.kd_types.specs.declared.creds.Kind.{Kind}
use Rattle.kd_wire.specs.declared.command.Command.{Command}
use Rattle.kd_commands.specs.declared.who.Who.{Who}
use Rattle.kd_commands.specs.State.{Desk}
use Rattle.kd_commands.specs.Step.{Ended, ended_by, plan}
use Rattle.kd_settled.specs.Room.{IsAtHome}
use Rattle.kd_settled.specs.Settled.{IsSettled}
use Rattle.kd_tables.specs.declared.part.Out.{Out}
use Rattle.kd_tables.specs.Drafts.{Draft, drafted}
use Rattle.kd_tables.specs.Outs.{answers_of, ended_on}

-- the step of a command, by what the pools answered to its visits
abbrev pub step : Desk → Who → Command → List Out → Ended
step d w x outs = ended_by d w (plan d w x) (answers_of outs)

-- what finishing a plan leaves is what the step leaves of the command that was planned
abbrev pub FinishingIsTheStep : Type 0
FinishingIsTheStep =
    (d : Desk) (w : Who) (x : Command) (p : Draft) (outs : List Out)
    → plan d w x ≡ Ok (drafted d p)
    → ((ended_on d p outs).reply ≡ (step d w x outs).reply)
    × ((ended_on d p outs).next ≡ (step d w x outs).next)

-- and a settled desk stays settled
abbrev pub FinishedAreSettled : Type 0
FinishedAreSettled =
    (d : Desk) (k : Kind) (w : Who) (x : Command) (p : Draft) (outs : List Out) → IsSettled d
    → IsAtHome d k w.member → plan d w x ≡ Ok (drafted d p) → IsSettled (ended_on d p outs).next
