use Rattle.std.proofs.Common.{◌≡◌, suc, ◌+◌, true, false, sym, ap, subst, ◌∙◌, arith, refl}
use Rattle.kd_acts.specs.State.{free}
use Rattle.kd_acts.specs.Steps.{after}
use Rattle.kd_histories.specs.Pools.{hold_freed, marked_below}
use Rattle.kd_histories.proofs.Marks.{freed_next}
use Rattle.kd_bus.specs.Slips.{words_in}
use Rattle.kd_bus.proofs.visiting.free_marked.Goals.{then-has_mark, else-has_mark}
use Rattle.kd_bus.proofs.visiting.free_marked.Goals as goal

pub freeing-init : goal.freeing-init
unfolding marked_below hold_freed
freeing-init c = refl

pub freeing-preserved : goal.freeing-preserved
freeing-preserved c =
    let words = words_in c.args.marks.now in
    let one : suc c.freeing.number ≡ c.freeing.number + 1 = omega arith in
    subst (λ k. c.if-has_mark.hold ≡ hold_freed (marked_below k words) c.args.hold.now) one (elim c.if-has_mark.branch [
      | then-has_mark w ↦ w.hold-is ∙ (w.free.ensures ∙ (ap (λ h. after h (free c.freeing.number)) c.freeing.invariant ∙ sym (freed_next c.freeing.number words c.args.hold.now true (sym c.has_mark.ensures ∙ w.if-has_mark.true))))
      | else-has_mark w ↦ w.hold-is ∙ (c.freeing.invariant ∙ sym (freed_next c.freeing.number words c.args.hold.now false (sym c.has_mark.ensures ∙ w.if-has_mark.false)))
    ])
