use Rattle.std.proofs.Common.{◌≡◌, ℕ, suc, ◌+◌, ◌≢◌, sym, ap, ◌∙◌, arith}
use Rattle.kd_hands.specs.Views.{part}
use Rattle.kd_hands.specs.Locks.{Fact, hands_after}
use Rattle.kd_toy_bus.specs.declared.act.Act.TheVariants.{Receive}
use Rattle.kd_toy_bus.specs.declared.locked.Locked.TheVariants as locked
use Rattle.kd_toy_bus.specs.Bus.{Tie, stands, lends, out, keeper, slip_hand, empties, received, pool_after, pool_of, is_seated}
use Rattle.kd_toy_bus.proofs.Chains.{alone_adds}
use Rattle.kd_toy_bus.proofs.Puts.{pool_still, pool_is, stands_as, idle_owes, receive_owes}
use Rattle.kd_toy_bus.proofs.bus.receive.Goals as goal

pub put-requires-clause-stands : goal.put-requires-clause-stands
put-requires-clause-stands g c =
    let eq : suc c.args.seat ≡ c.args.seat + 1 = omega arith in
    let seen = (part c.take.new.self.view (c.args.seat + 1)).seen in
    stands_as c.args.seat (c.args.seat + 1) eq seen _ c.in-Pool.pool (ap (λ a. pool_after a (pool_of seen)) c.of.ensures ∙ pool_is c.args.seat (c.args.seat + 1) eq seen c.in-Pool.pool c.in-Pool.ensures.took.value)

pub put-requires-clause-tie : goal.put-requires-clause-tie
put-requires-clause-tie g c =
    let eq : suc c.args.seat ≡ c.args.seat + 1 = omega arith in
    let far : 0 ≢ c.args.seat + 1 = λ z. omega arith in
    let took = c.in-Pool.ensures.took in
    idle_owes c.args.seat (c.args.seat + 1) eq c.of.result c.take.new.self.view took.holds (ap (λ p. p.holds) (took.others 0 far) ∙ c.requires.idle.holds 0) c.of.ensures took.swept

pub put-requires-2-clause-stands : goal.put-requires-2-clause-stands
put-requires-2-clause-stands g c =
    let eq : suc c.args.seat ≡ c.args.seat + 1 = omega arith in
    let seen = (part c.take.new.self.view (c.args.seat + 1)).seen in
    stands_as c.args.seat (c.args.seat + 1) eq seen _ _ (ap (λ a. pool_after a (pool_of seen)) c.of-2.ensures ∙ ap received (pool_is c.args.seat (c.args.seat + 1) eq seen c.in-Pool.pool c.in-Pool.ensures.took.value ∙ c.is_placed-placed.ensures.placed c.if-not-placed.false))

pub put-requires-2-clause-tie : goal.put-requires-2-clause-tie
put-requires-2-clause-tie g c =
    let eq : suc c.args.seat ≡ c.args.seat + 1 = omega arith in
    let far : 0 ≢ c.args.seat + 1 = λ z. omega arith in
    let took = c.in-Pool.ensures.took in
    let seen = (part c.take.new.self.view (c.args.seat + 1)).seen in
    receive_owes c.args.seat (c.args.seat + 1) eq c.of-2.result c.take.new.self.view took.holds (ap (λ p. p.holds) (took.others 0 far) ∙ c.requires.idle.holds 0) c.of-2.ensures
    (pool_is c.args.seat (c.args.seat + 1) eq seen c.in-Pool.pool took.value ∙ c.is_placed-placed.ensures.placed c.if-not-placed.false) (ap (λ p. is_seated c.args.seat p.own) (took.others 0 far) ∙ c.requires.seated)

pub returns-then-not-placed-clause-nothing : goal.returns-then-not-placed-clause-nothing
returns-then-not-placed-clause-nothing g c = λ _ now.
    let eq : suc c.args.seat ≡ c.args.seat + 1 = omega arith in
    let l : ℕ = c.args.seat + 1 in
    let seen = (part c.take.new.self.view l).seen in
    let still = pool_still seen (c.take.new.self.view.name, c.of.result) (part c.put.new.self.view l).seen (ap (λ a. pool_after a (pool_of seen)) c.of.ensures) (ap (λ p. p.seen) c.put.ensures.passed.here) in
    c.is_placed-placed.ensures.other c.if-not-placed.true (sym (pool_is c.args.seat l eq seen c.in-Pool.pool c.in-Pool.ensures.took.value) ∙ (sym still ∙ now))

pub returns-clause-took : goal.returns-clause-took
returns-clause-took g c = λ _. alone_adds stands (Fact Tie lends out keeper) (hands_after slip_hand empties) (c.args.seat + 1) Receive (locked.Pool c.in-Pool.pool) c.of-2.result c.args.pass.now.view c.take.new.self.view c.put-2.new.self.view c.in-Pool.ensures.took c.put-2.ensures.passed c.of-2.ensures
