use Rattle.std.proofs.Common.{◌≡◌, ℕ, true, sym, ap, subst, ◌∙◌, arith}
use Rattle.std.proofs.lemmas.Bool.{true≢false}
use Rattle.kd_world.specs.State.{World}
use Rattle.kd_world.specs.Legal.{legal}
use Rattle.kd_world.specs.Step.{step}
use Rattle.kd_core.specs.Running.{Running, event_of, stepped}
use Rattle.kd_trace.specs.Right.{outcome_of}
use Rattle.kd_trace.specs.Judging.{HoldsNumber}
use Rattle.kd_trace.proofs.Runs.{answer_same, number_after, same_ok}
use Rattle.kd_trace.proofs.judging.Run.is_right.Goals as goal

pub returns-clause-right : goal.returns-clause-right
returns-clause-right c = λ ok.
    let w : World = c.args.self.now.world.world in
    let e = event_of c.args.pair.event in
    let m : legal w e ≡ true = sym c.if-not-may.ensures in
    let same = ap (λ (k : ℕ). outcome_of k c.in_ok-answer.answer) c.number_with-self.ensures ∙ answer_same w e c.args.self.now.number c.in_ok-answer.answer m c.requires.number c.in_ok-answer.ensures.answer in
    record { allowed = m; answer = c.is_outcome.ensures.0 (same_ok _ _ ok) ∙ same }

pub returns-clause-next : goal.returns-clause-next
unfolding stepped
returns-clause-next c = λ ok. ap (λ (r : Running). r.world) c.in_ok-answer.ensures.ok

pub returns-clause-number : goal.returns-clause-number
unfolding stepped
returns-clause-number c = λ ok.
    let w : World = c.args.self.now.world.world in
    let e = event_of c.args.pair.event in
    let next : c.step.new.self.world ≡ step w e = ap (λ (r : Running). r.world) c.in_ok-answer.ensures.ok in
    subst (λ (v : World). HoldsNumber v c.number_with-self.result) (sym next)
    (subst (λ (k : ℕ). HoldsNumber (step w e) k) (sym c.number_with-self.ensures) (number_after w e c.args.self.now.number c.requires.number))

pub returns-clause-wrong : goal.returns-clause-wrong
returns-clause-wrong c = λ no one.
    let w : World = c.args.self.now.world.world in
    let e = event_of c.args.pair.event in
    let same = ap (λ (k : ℕ). outcome_of k c.in_ok-answer.answer) c.number_with-self.ensures ∙ answer_same w e c.args.self.now.number c.in_ok-answer.answer one.allowed c.requires.number c.in_ok-answer.ensures.answer in
    true≢false (sym (c.is_outcome.ensures.1 (one.answer ∙ sym same)) ∙ same_ok _ _ no)

pub returns-clause-steps : goal.returns-clause-steps
unfolding stepped
returns-clause-steps c = omega (arith, ap (λ (r : Running). r.steps) c.in_ok-answer.ensures.ok)
