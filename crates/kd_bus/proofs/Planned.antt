-- What a command comes to at a slot.
use Rattle.std.specs.Prelude.{◌≡◌, ◌≢◌, ℕ, ◌&&◌, Bool, true, false, not, Option, Result, Ok, Err, IfOk, IsTrue, refl}
use Rattle.std.proofs.Common.{ap}
use Rattle.kd_types.specs.declared.refusal.Refusal.{Refusal}
use Rattle.kd_types.specs.declared.refusal.Refusal.TheVariants.{NoSuchBus, OutOfMemory}
use Rattle.kd_wire.specs.declared.command.Command.{Command}
use Rattle.kd_wire.specs.WellFormed.{is_well_formed}
use Rattle.kd_commands.specs.State.{Desk}
use Rattle.kd_commands.specs.Plans.{Plan}
use Rattle.kd_commands.specs.Step.{plan}
use Rattle.kd_commands.specs.declared.who.Who.{Who}
use Rattle.kd_tables.specs.Drafts.{Draft, PlanResult, drafted}
use Rattle.kd_holds.specs.Handing.{AreInOrder}
use Rattle.kd_holds.proofs.Orders.{plans_are_in_order}
use Rattle.kd_world.specs.Planner.{is_fresh}
use Rattle.kd_histories.specs.Slots.{finds_bus, planned, seeks_bus}

pub astray : (g : ℕ) (aim : Option ℕ) (d : Desk) (w : Who) (x : Command) (b : Bool) → (is_fresh w.member && (seeks_bus x && not (finds_bus g aim))) ≡ b → planned g aim d w x ≡ elim b [ true ↦ Err (NoSuchBus g) | false ↦ plan d w x ]
unfolding planned
astray g aim d w x b e = ap (λ b. elim b as (λ b. Result Plan Refusal) [ true ↦ Err (NoSuchBus g) | false ↦ plan d w x ]) e

pub err_is : (d : Desk) (w : Result Plan Refusal) (e : Refusal) → PlanResult d w (Err e) → e ≢ OutOfMemory → w ≡ Err e
err_is d w OutOfMemory a ne = absurd (ne refl)
err_is d w e a ne = a

pub in_order : (d : Desk) (w : Who) (x : Command) (r : Result Draft Refusal) → IsTrue (is_well_formed x) → PlanResult d (plan d w x) r → IfOk r (λ p. AreInOrder p.parts)
unfolding drafted
in_order d w x (Ok p) form it = plans_are_in_order d w x (drafted d p) p.contents p.parts form it.0 refl
in_order d w x (Err why) form it = tt
