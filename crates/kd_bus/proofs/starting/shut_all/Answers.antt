use Rattle.std.proofs.Common.{◌≡◌, ◌+◌, ℕ, suc, sym, subst, ◌∙◌, arith}
use Rattle.kd_turn.specs.Sight.{Sight}
use Rattle.kd_holds.specs.Handing.{Stock}
use Rattle.kd_bus.specs.Begins.{shut_below}
use Rattle.kd_bus.specs.Visited.{AreVisits}
use Rattle.kd_bus.proofs.Begun.{Shutting, shuts_more, shuts_none, shuts_same, turns_low}
use Rattle.kd_bus.proofs.starting.shut_all.Goals.{then-occupied, else-occupied}
use Rattle.kd_bus.proofs.starting.shut_all.Goals as goal

pub seats-init : goal.seats-init
seats-init g c = shuts_none c.args.gate.now c.args.desk.now c.args.pass.now c.args.made.now c.requires.desk c.requires.made

pub shut-requires-clause-turns : goal.shut-requires-clause-turns
shut-requires-clause-turns g c = turns_low c.args.gate.now c.args.desk.now c.args.pass.now c.seats.pass c.seats.made c.seats.seat c.seats-test.true c.seats.invariant c.requires.turns

pub seats-preserved : goal.seats-preserved
seats-preserved g c =
    let gate = c.args.gate.now in
    let d = c.args.desk.now in
    let old = c.args.pass.now in
    let n = c.seats.seat in
    let one : suc n ≡ n + 1 = omega arith in
    subst (λ k. Shutting gate d old c.if-occupied.pass c.if-occupied.made k) one (elim c.if-occupied.branch [
      | then-occupied w ↦
          subst (λ (p : Sight _). Shutting gate d old p c.if-occupied.made (suc n)) (sym w.pass-is) (subst (λ (m : Stock). Shutting gate d old w.shut.new.pass m (suc n)) (sym w.made-is)
          (shuts_more gate d old c.seats.pass w.shut.new.pass c.seats.made w.shut.new.made n w.shut.ensures.shut.1 w.shut.ensures.shut.0 c.seats-test.true (sym c.occupied.ensures ∙ w.if-occupied.true) c.seats.invariant w.shut.ensures.desk w.shut.ensures.made w.shut.ensures.shut.2))
      | else-occupied w ↦
          subst (λ (p : Sight _). Shutting gate d old p c.if-occupied.made (suc n)) (sym w.pass-is) (subst (λ (m : Stock). Shutting gate d old c.seats.pass m (suc n)) (sym w.made-is)
          (shuts_same gate d old c.seats.pass c.seats.made n c.seats-test.true (sym c.occupied.ensures ∙ w.if-occupied.false) c.seats.invariant))
    ])

pub returns-clause-shut : goal.returns-clause-shut
returns-clause-shut g c =
    let w = c.seats.invariant in
    let test = c.seats-test.false in
    let within = w.within in
    let at : c.seats.seat ≡ 64 = omega (arith, test, within) in
    (w.entries, subst (λ (k : ℕ). AreVisits (shut_below k c.args.desk.now) w.entries c.args.pass.now.view c.seats.pass.view) at w.each)
