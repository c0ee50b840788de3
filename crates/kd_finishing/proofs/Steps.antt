-- A command's step at the desk.
use Rattle.std.proofs.Common.{◌≡◌, Option, Some, None, Result, sym, subst}
use Rattle.kd_types.specs.declared.refusal.Refusal.{Refusal}
use Rattle.kd_commands.specs.Plans.{Plan}
use Rattle.kd_commands.specs.Step.{ended_by}
use Rattle.kd_commands.specs.Visits.{first_ends}
use Rattle.kd_settled.specs.Settled.{IsSettled}
use Rattle.kd_settled.proofs.Always.{settled_stays}
use Rattle.kd_tables.specs.Drafts.{drafted}
use Rattle.kd_tables.specs.Outs.{answers_of, end, ended_on}
use Rattle.kd_finishing.specs.Steps.{FinishedAreSettled, FinishingIsTheStep}
use Rattle.kd_tables.proofs.Ending.{ended_alike}

pub finishing_is_the_step : FinishingIsTheStep
finishing_is_the_step d w x p outs e =
    let alike = ended_alike d w p outs in
    subst (λ (r : Result Plan Refusal). ((ended_on d p outs).reply ≡ (ended_by d w r (answers_of outs)).reply) × ((ended_on d p outs).next ≡ (ended_by d w r (answers_of outs)).next)) (sym e)
    (sym alike.0, sym alike.1)

pub finished_desks_are_settled : FinishedAreSettled
unfolding ended_on
finished_desks_are_settled d k w x p outs s home e = go (first_ends (drafted d p).parts (answers_of outs))
  where
    go : (o : Option Refusal) → IsSettled (end d (drafted d p) o).next
    go (Some why) = s
    go None = settled_stays d k w x (drafted d p) s home e
