-- Whoever holds the desk is answered by its plan's reply, or refused.
use Rattle.std.specs.Prelude.{List, Option, Some, None}
use Rattle.std.proofs.Common.{ap, sym, subst, arith}
use Rattle.kd_types.specs.declared.refusal.Refusal.{Refusal}
use Rattle.kd_acts.specs.State.{Hold}
use Rattle.kd_commands.specs.Plans.{Plan}
use Rattle.kd_commands.specs.State.{Desk}
use Rattle.kd_commands.specs.Step.{Ended, ended, ended_by}
use Rattle.kd_commands.specs.Visits.{first_ends}
use Rattle.kd_settled.specs.Settled.{IsSettled}
use Rattle.kd_world.specs.Holding.{command_end}
use Rattle.kd_world.specs.Planner.{desk_end}
use Rattle.kd_world.specs.State.{Caller, Holder}
use Rattle.kd_world.proofs.Holders.{Kept, hold, plans}
use Rattle.kd_world.proofs.Reached.{reached_keeps}
use Rattle.kd_world.proofs.Tied.{of}
use Rattle.kd_runs.proofs.Answered.{leavers_are_answered}
use Rattle.kd_runs.proofs.Home.{desks_are_settled}
use Rattle.kd_answers.specs.Short.{IsShort, LeaversAreAnsweredShortly}
use Rattle.kd_answers.proofs.Listings.{plans_answer_shortly}

module _ (d : Desk) (h : Holder) (pools : List Hold) (callers : List Caller) (k : Kept (of d (Some h) pools callers)) (s : IsSettled d) where
  abbrev p : Plan
  p = (hold d h pools callers k).plan

  ends : (o : Option Refusal) → IsShort (ended d h.who p o).reply
  ends (Some why) = omega arith
  ends None = plans_answer_shortly d h.who h.command p s (plans d h pools callers k)

  short : IsShort (command_end (of d (Some h) pools callers) h).reply
  unfolding desk_end
  short = subst (λ (x : Ended). IsShort x.reply) (sym (ap (λ x. ended_by d h.who x h.outs) (hold d h pools callers k).planned)) (ends (first_ends p.parts h.outs))

pub leavers_are_answered_shortly : LeaversAreAnsweredShortly
leavers_are_answered_shortly w h r e = record { fits = leavers_are_answered w h r e; short = go (reached_keeps w r) }
  where
    go : Kept (of w.desk w.holder w.pools w.callers) → IsShort (command_end w h).reply
    go k0 =
        let k = subst (λ o. Kept (of w.desk o w.pools w.callers)) e k0 in
        subst (λ o. IsShort (command_end (of w.desk o w.pools w.callers) h).reply) (sym e) (short w.desk h w.pools w.callers k (desks_are_settled w r))
