use Rattle.std.proofs.Common.{◌≡◌, ℕ, ◌+◌, length, ap, ◌∙◌, arith}
use Rattle.kd_hands.specs.Views.{part}
use Rattle.kd_toy_bus.proofs.Runs.{all_told}
use Rattle.kd_toy_bus.proofs.run.run.Goals as goal

pub returns : goal.returns
returns g c =
    let first = c.two_of-member.ensures.first.fresh in
    let second = c.two_of-member.ensures.second.fresh in
    let joined = c.join-joined.ensures in
    let ran = c.both_run-member.ensures in
    let left = c.leave.ensures in
    let none_at : (l : ℕ) → length (part c.two_of-member.result.0.view l).own ≡ 0 = λ l. ap (λ p. length p.own) (first.parts l) in
    let none : length (part c.two_of-member.result.1.view 0).own ≡ 0 = ap (λ p. length p.own) (second.parts 0) in
    let desk : length (part c.leave.new.pass.view 0).own ≡ 2 =
    (let a = joined.entered in let b = ap (λ p. length p.own) ran.desk in let d = left.entered in let z = none_at 0 in omega arith) in
    let pool : length (part c.leave.new.pass.view 1).own ≡ c.args.rounds + 2 =
    (let a = joined.opened c.if-not-joined.false in let b = ran.received in let d = left.closed in let z = none_at 1 in omega arith) in
    let sent : length (part c.both_run-member.result.1.view 0).own ≡ c.args.rounds = (let a = ran.sent in omega arith) in
    record {
      all = all_told c.args.rounds c.in_ok-gate.gate.passes c.leave.new.pass c.both_run-member.result.1 c.in_ok-passes.passes.items c.in_ok-values.values.items c.in_ok-gate.ensures.passes c.in_ok-passes.ensures.items c.in_ok-values.ensures.ended
          (left.name ∙ (ran.member.1 ∙ (joined.name ∙ first.name_is))) (ran.sender.1 ∙ second.name_is) desk pool sent;
    }
