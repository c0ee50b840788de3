-- Taking the desk.
use Rattle.std.specs.Prelude.{ℕ, Bool, true, false, ◌&&◌, [], Some, None, Result, Ok, Err, IfOk, IsTrue, is_none}
use Rattle.std.proofs.Common.{◌≡◌, refl, sym, ap, ◌∙◌}
use Rattle.kd_model.proofs.Truth.{left_true, none_is, right_true}
use Rattle.kd_types.specs.declared.refusal.Refusal.{Refusal}
use Rattle.kd_types.specs.declared.refusal.Refusal.TheVariants.{NoSuchBus}
use Rattle.kd_wire.specs.declared.command.Command.{Command}
use Rattle.kd_wire.specs.WellFormed.{is_well_formed}
use Rattle.kd_commands.specs.declared.who.Who.{Who}
use Rattle.kd_commands.specs.State.{Desk}
use Rattle.kd_commands.specs.Plans.{Plan}
use Rattle.kd_commands.specs.Step.{plan}
use Rattle.kd_tables.specs.Drafts.{Draft, PlanResult, drafted}
use Rattle.kd_holds.specs.Handing.{AreInOrder}
use Rattle.kd_holds.proofs.Orders.{plans_are_in_order}
use Rattle.kd_world.specs.State.{World, caller_at}
use Rattle.kd_world.specs.Planner.{names_other_bus, is_fresh, planned}
use Rattle.kd_world.specs.Legal.{take, is_caller, is_for_desk, legal}
use Rattle.kd_world.specs.Pools.{pools_after, act_of}
use Rattle.kd_world.specs.Callers.{callers_after}
use Rattle.kd_world.specs.Step.{holder_by, holder_after, desk_after, step}
use Rattle.kd_world.specs.Answers.{says, taken_answer}

-- what may be taken
pub takes_form : (w : World) (n : ℕ) (x : Command) → IsTrue (legal w (take n x)) → IsTrue (is_well_formed x)
unfolding legal
takes_form w n x h = right_true (is_caller n && is_none w.holder && is_for_desk x) (is_well_formed x) h

pub takes_as_caller : (w : World) (n : ℕ) (x : Command) → IsTrue (legal w (take n x)) → IsTrue (is_caller n)
unfolding legal
takes_as_caller w n x h = left_true (is_caller n) (is_none w.holder) (left_true (is_caller n && is_none w.holder) (is_for_desk x) (left_true (is_caller n && is_none w.holder && is_for_desk x) (is_well_formed x) h))

pub takes_free_desk : (w : World) (n : ℕ) (x : Command) → IsTrue (legal w (take n x)) → w.holder ≡ None
unfolding legal
takes_free_desk w n x h = none_is w.holder (right_true (is_caller n) (is_none w.holder) (left_true (is_caller n && is_none w.holder) (is_for_desk x) (left_true (is_caller n && is_none w.holder && is_for_desk x) (is_well_formed x) h)))

-- a world whose desk was taken
pub after_taking : (w : World) (n : ℕ) (x : Command) (p : Plan) → planned w.desk (caller_at w n).who x ≡ Ok p
    → step w (take n x) ≡ record w { holder = Some (record { caller = n; who = (caller_at w n).who; command = x; outs = [] }) }
unfolding desk_after holder_after pools_after callers_after act_of
after_taking w n x p e = ap (λ r. record w { holder = holder_by n (caller_at w n).who x r }) e

pub says_taken : (w : World) (n : ℕ) (x : Command) (p : Plan) → planned w.desk (caller_at w n).who x ≡ Ok p → says w (take n x) ≡ taken_answer (Ok p)
unfolding says
says_taken w n x p e = ap taken_answer e

-- a world where it wasn't
pub after_refusing : (w : World) (n : ℕ) (x : Command) (why : Refusal) → planned w.desk (caller_at w n).who x ≡ Err why → w.holder ≡ None → step w (take n x) ≡ w
unfolding desk_after holder_after pools_after callers_after act_of
after_refusing w n x why e f = ap (λ r. record w { holder = holder_by n (caller_at w n).who x r }) e ∙ ap (λ h. record w { holder = h }) (sym f)

pub says_refused : (w : World) (n : ℕ) (x : Command) (why : Refusal) → planned w.desk (caller_at w n).who x ≡ Err why → says w (take n x) ≡ taken_answer (Err why)
unfolding says
says_refused w n x why e = ap taken_answer e

-- what isn't refused is the desk's plan
plan_of : (there : Bool) (r : Result Plan Refusal) (p : Plan) → elim there as (λ b. Result Plan Refusal) [ true ↦ Err (NoSuchBus 0) | false ↦ r ] ≡ Ok p → r ≡ Ok p
plan_of true r p e = absurd cc
plan_of false r p e = e

-- so its parts are in order
pub in_order : (d : Desk) (w : Who) (x : Command) (p : Draft) → is_well_formed x ≡ true → planned d w x ≡ Ok (drafted d p) → AreInOrder p.parts
unfolding planned drafted
in_order d w x p form e = plans_are_in_order d w x (drafted d p) p.contents p.parts form (plan_of (is_fresh w.member && names_other_bus x) (plan d w x) (drafted d p) e) refl

pub orders : (d : Desk) (w : Who) (x : Command) (result : Result Draft Refusal) → is_well_formed x ≡ true → PlanResult d (planned d w x) result → IfOk result (λ p. AreInOrder p.parts)
orders d w x (Ok p) form r = in_order d w x p form r.0
orders d w x (Err e) form r = tt
