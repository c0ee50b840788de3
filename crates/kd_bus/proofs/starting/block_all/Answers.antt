use Rattle.std.proofs.Common.{◌≡◌, ◌+◌, ℕ, List, suc, sym, ap, subst, ◌∙◌, arith}
use Rattle.kd_commands.specs.State.{Desk, with_blocked}
use Rattle.kd_bus.proofs.Begun.{waiting_below, waits_all, waits_more, waits_none, waits_same}
use Rattle.kd_bus.proofs.starting.block_all.Goals.{then-is_taken, else-is_taken}
use Rattle.kd_bus.proofs.starting.block_all.Goals as goal

pub seats-init : goal.seats-init
seats-init c = (ap (λ (ns : List ℕ). record c.args.next.now { blocked = ns }) (c.requires ∙ sym (waits_none c.args.desk.now)), omega arith)

pub seats-preserved : goal.seats-preserved
seats-preserved c =
    let d : Desk = c.args.desk.now in
    let old : Desk = c.args.next.now in
    let one : suc c.seats.seat ≡ c.seats.seat + 1 = omega arith in
    let lt = c.seats-test.true in (
      subst (λ k. c.if-is_taken.next ≡ record old { blocked = waiting_below k d }) one (elim c.if-is_taken.branch [
        | then-is_taken w ↦ w.next-is ∙ (w.block.ensures ∙ (ap (λ (x : Desk). with_blocked c.seats.seat x) c.seats.invariant.0 ∙ ap (λ (ns : List ℕ). record old { blocked = ns }) (waits_more d c.seats.seat c.seats-test.true (sym c.is_taken.ensures ∙ w.if-is_taken.true))))
        | else-is_taken w ↦ w.next-is ∙ (c.seats.invariant.0 ∙ ap (λ (ns : List ℕ). record old { blocked = ns }) (waits_same d c.seats.seat (sym c.is_taken.ensures ∙ w.if-is_taken.false)))
      ]),
      omega (arith, lt),
    )

pub returns : goal.returns
returns c =
    let test = c.seats-test.false in
    let within = c.seats.invariant.1 in
    let at : c.seats.seat ≡ 64 = omega (arith, test, within) in
    c.seats.invariant.0 ∙ ap (λ (ns : List ℕ). record c.args.next.now { blocked = ns }) (ap (λ (k : ℕ). waiting_below k c.args.desk.now) at ∙ waits_all c.args.desk.now)
