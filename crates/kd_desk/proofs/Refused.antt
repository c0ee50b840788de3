-- A refusal that is the definition's.
use Rattle.std.proofs.Common.{◌≡◌, Result, Ok, Err, ap, sym, ◌∙◌}
use Rattle.std.specs.Result.{IsErrAnd}
use Rattle.kd_types.specs.declared.refusal.Refusal.{Refusal}
use Rattle.kd_types.specs.declared.refusal.Refusal.TheVariants as why
use Rattle.kd_commands.specs.State.{Desk}
use Rattle.kd_commands.specs.Plans.{Plan}
use Rattle.kd_tables.specs.Drafts.{PlanResult, Draft}

pub refused_so : (d : Desk) (w : Result Plan Refusal) (e : Refusal) → w ≡ Err e → PlanResult d w (Err e)
refused_so d w why.OutOfMemory h = tt
refused_so d w e h = h

pub refused_with : (d : Desk) (w : Result Plan Refusal) (x : Result Draft Refusal) (e : Refusal) → IsErrAnd x (λ f. f ≡ e) → w ≡ Err e → PlanResult d w x
refused_with d w (Ok p) e h k = absurd h
refused_with d w (Err f) e h k = refused_so d w f (k ∙ ap Err (sym h))
