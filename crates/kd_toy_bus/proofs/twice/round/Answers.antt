use Rattle.std.proofs.Common.{◌≡◌, ℕ, true, [], ◌∷◌, length, ap, ◌∙◌, arith, length-append}
use mathlib.Core.Logic.{dite}
use native.Mathlib.Decide.{ℕ_discrete}
use Rattle.kd_hands.specs.Views.{part}
use Rattle.kd_toy_bus.proofs.Chains.{put_back}
use Rattle.kd_toy_bus.proofs.Twins.{inner_owes, outer_owes, others, longer}
use Rattle.kd_toy_bus.proofs.twice.round.Goals as goal
use Rattle.kd_toy_bus.proofs.twice.round.Goals.{After-put, After-put-2}

near : (z : Path ℕ 0 1) → ⊥
near z = omega arith

-- after one turn on the second lock, and after two
once : (g : _) (c : After-put g) → (part c.put.new.self.view 0).holds ≡ true
once g c = ap (λ p. p.holds) (others c.of.result c.take-turns.result c.take-first.new.self.view c.take-turns.new.self.view c.put.new.self.view c.take-turns.ensures.took c.put.ensures.passed 0 near) ∙ c.take-first.ensures.took.holds

again : (g : _) (c : After-put-2 g) (k : ℕ) → (k ≡ 1 → ⊥) → part c.put-2.new.self.view k ≡ part c.take-first.new.self.view k
again g c k ne =
    others c.of-2.result c.take-turns-2.result c.put.new.self.view c.take-turns-2.new.self.view c.put-2.new.self.view c.take-turns-2.ensures.took c.put-2.ensures.passed k ne
    ∙ others c.of.result c.take-turns.result c.take-first.new.self.view c.take-turns.new.self.view c.put.new.self.view c.take-turns.ensures.took c.put.ensures.passed k ne

two_open : (g : _) (c : After-put-2 g) → length c.put-2.new.self.view.opened ≡ 2
two_open g c =
    let held : (part c.put.new.self.view 0).holds ≡ true = ap (λ p. p.holds) (others c.of.result c.take-turns.result c.take-first.new.self.view c.take-turns.new.self.view c.put.new.self.view c.take-turns.ensures.took c.put.ensures.passed 0 near) ∙ c.take-first.ensures.took.holds in
    let a = longer c.of.result c.take-turns.result c.take-first.new.self.view c.take-turns.new.self.view c.put.new.self.view c.take-turns.ensures.took c.put.ensures.passed c.take-first.ensures.took.holds in
    let b = longer c.of-2.result c.take-turns-2.result c.put.new.self.view c.take-turns-2.new.self.view c.put-2.new.self.view c.take-turns-2.ensures.took c.put-2.ensures.passed held in
    let none : length c.take-first.new.self.view.opened ≡ 0 = ap length (c.take-first.ensures.took.shut (c.requires.rests.holds 0)) in
    omega arith

pub put-requires-2-clause-tie : goal.put-requires-2-clause-tie
put-requires-2-clause-tie g c = inner_owes c.of-2.result c.take-turns-2.new.self.view (ap (λ p. p.holds) (c.take-turns-2.ensures.took.others 0 near) ∙ once g (goal.at.put-requires-2-clause-tie g c).After-put)

pub put-requires-3-clause-stands : goal.put-requires-3-clause-stands
put-requires-3-clause-stands g c =
    let at = (goal.at.put-requires-3-clause-stands g c).After-put-2 in
    let value = c.take-first.ensures.took.value in
    let same = ap (λ p. length p.seen) (again g at 0 near) in
    let long = length-append (part c.put-2.new.self.view 0).seen ((c.put-2.new.self.view.name, c.of-3.result) ∷ []) in
    omega arith

pub put-requires-3-clause-tie : goal.put-requires-3-clause-tie
put-requires-3-clause-tie g c =
    let at = (goal.at.put-requires-3-clause-tie g c).After-put-2 in
    outer_owes c.of-3.result c.put-2.new.self.view (ap (λ p. p.holds) (again g at 0 near) ∙ c.take-first.ensures.took.holds) (two_open g at)

pub returns-clause-rests : goal.returns-clause-rests
returns-clause-rests g c =
    let at = (goal.at.returns-clause-rests g c).After-put-2 in
    let two = put_back 1 c.take-turns.new.self.held c.take-first.new.self.held c.put.new.self.held c.take-turns.ensures.held c.put.ensures.held in
    let four = put_back 1 c.take-turns-2.new.self.held c.put.new.self.held c.put-2.new.self.held c.take-turns-2.ensures.held c.put-2.ensures.held in
    record {
      same = c.put-3.ensures.gate ∙ (c.put-2.ensures.gate ∙ (c.take-turns-2.ensures.gate ∙ (c.put.ensures.gate ∙ (c.take-turns.ensures.gate ∙ (c.take-first.ensures.gate ∙ c.requires.rests.same)))));
      held = put_back 0 c.put-2.new.self.held c.args.pass.now.held c.put-3.new.self.held (four ∙ (two ∙ c.take-first.ensures.held)) c.put-3.ensures.held ∙ c.requires.rests.held;
      holds = λ k. dite (ℕ_discrete k 0)
          (λ z. ap (λ (i : ℕ). (part c.put-3.new.self.view i).holds) z ∙ ap (λ p. p.holds) c.put-3.ensures.passed.here)
          (λ n. ap (λ p. p.holds) (c.put-3.ensures.passed.others k n) ∙ dite (ℕ_discrete k 1)
          (λ z. ap (λ (i : ℕ). (part c.put-2.new.self.view i).holds) z ∙ ap (λ p. p.holds) c.put-2.ensures.passed.here)
          (λ m. ap (λ p. p.holds) (again g at k m ∙ c.take-first.ensures.took.others k n) ∙ c.requires.rests.holds k));
    }
