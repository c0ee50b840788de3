use Rattle.std.proofs.Common.{◌≡◌, ℕ, suc, ◌+◌, ◌≢◌, ◌==◌, false, cond, set, [], ◌∷◌, ◌++◌, eq-eqb, ne_eqb, refl, sym, ap, subst, ◌∙◌, arith}
use Rattle.kd_hands.specs.Views.{part}
use Rattle.kd_hands.specs.Locks.{Fact, hands_after}
use Rattle.kd_toy_bus.specs.declared.act.Act.TheVariants.{Leave, Close}
use Rattle.kd_toy_bus.specs.declared.locked.Locked.TheVariants as locked
use Rattle.kd_toy_bus.specs.Bus.{Tie, closed, stands, lends, out, keeper, slip_hand, empties, pool_after, pool_of, is_seated, sits, made_by_one}
use Rattle.kd_toy_bus.proofs.Chains.{desk_gave, pool_gave, desk_still, opened_by, own_left, seated_after}
use Rattle.kd_toy_bus.proofs.Puts.{stands_as, knows, knows_leave, close_owes, one_part}
use Rattle.kd_toy_bus.proofs.Leaves.{leave_leaves}
use Rattle.kd_toy_bus.proofs.bus.leave.Goals as goal
use Rattle.kd_toy_bus.proofs.bus.leave.Goals.{After-put-2}

pub put-requires-clause-stands : goal.put-requires-clause-stands
put-requires-clause-stands g c =
    let eq : suc c.args.seat ≡ c.args.seat + 1 = omega arith in
    let l : ℕ = c.args.seat + 1 in
    let now = (part c.take-2.new.self.view l).seen in
    stands_as c.args.seat l eq now _ _ (ap (λ a. pool_after a (pool_of now)) c.of.ensures)

pub put-requires-clause-tie : goal.put-requires-clause-tie
put-requires-clause-tie g c =
    let eq : suc c.args.seat ≡ c.args.seat + 1 = omega arith in
    let l : ℕ = c.args.seat + 1 in
    let near : 0 ≢ l = λ z. omega arith in
    let two = c.in-Pool.ensures.took in
    close_owes c.args.seat l eq c.of.result c.take-2.new.self.view two.holds (ap (λ p. p.holds) (two.others 0 near) ∙ c.in-Desk.ensures.took.holds) c.of.ensures

pub put-requires-2-clause-stands : goal.put-requires-2-clause-stands
put-requires-2-clause-stands g c =
    let l : ℕ = c.args.seat + 1 in
    let near : 0 ≢ l = λ z. omega arith in
    let list = (part c.take.new.self.view 0).seen in
    let same = ap (λ p. p.seen) (c.put.ensures.passed.others 0 near ∙ c.in-Pool.ensures.took.others 0 near) in
    subst (λ xs. stands 0 (xs ++ (c.put.new.self.view.name, c.of-2.result) ∷ []) (locked.Desk (record { taken = set c.in-Desk.desk.taken c.args.seat false }))) (sym same)
    (knows_leave list c.in-Desk.desk c.put.new.self.view.name c.args.seat c.of-2.result (knows list c.in-Desk.desk c.in-Desk.ensures.took.value) c.of-2.ensures c.requires.seat)

pub put-requires-2-clause-tie : goal.put-requires-2-clause-tie
put-requires-2-clause-tie g c =
    let eq : suc c.args.seat ≡ c.args.seat + 1 = omega arith in
    let l : ℕ = c.args.seat + 1 in
    let far : l ≢ 0 = λ z. omega arith in
    let one = c.in-Desk.ensures.took in
    let two = c.in-Pool.ensures.took in
    let put = c.put.ensures.passed in
    let v₄ = c.put.new.self.view in
    let opened = opened_by stands (Fact Tie lends out keeper) (hands_after slip_hand empties) l far (locked.Desk c.in-Desk.desk) (locked.Pool c.in-Pool.field-0) c.of.result c.of-2.result c.args.pass.now.view c.take.new.self.view c.take-2.new.self.view v₄ v₄ one two put c.requires.idle.holds in
    let still = desk_still stands (Fact Tie lends out keeper) (hands_after slip_hand empties) l far (locked.Desk c.in-Desk.desk) (locked.Pool c.in-Pool.field-0) c.of.result c.of-2.result c.args.pass.now.view c.take.new.self.view c.take-2.new.self.view v₄ v₄ one two put c.requires.idle.holds in
    leave_leaves c.args.seat c.of-2.result v₄ (ap (λ p. p.holds) still ∙ one.holds) c.of-2.ensures
    (one_part c.args.seat l c.take-2.new.self.view.name c.of.result closed v₄.opened eq (ap made_by_one c.of.ensures) opened)
    (ap (λ p. is_seated c.args.seat p.own) still ∙ (ap (is_seated c.args.seat) one.own ∙ c.requires.seated))

now_seated : (g : _) (c : After-put-2 g) (i : ℕ) → is_seated i (part c.put-2.new.self.view 0).own ≡ cond (c.args.seat == i) false (is_seated i (part c.args.pass.now.view 0).own)
now_seated g c i =
    let l : ℕ = c.args.seat + 1 in
    let far : l ≢ 0 = λ z. omega arith in
    let own = own_left stands (Fact Tie lends out keeper) (hands_after slip_hand empties) l far (locked.Desk c.in-Desk.desk) (locked.Pool c.in-Pool.field-0) c.of.result c.of-2.result c.args.pass.now.view c.take.new.self.view c.take-2.new.self.view c.put.new.self.view c.put-2.new.self.view c.in-Desk.ensures.took c.in-Pool.ensures.took c.put.ensures.passed c.requires.idle.holds c.put-2.ensures.passed in
    seated_after i (part c.args.pass.now.view 0).own (part c.put-2.new.self.view 0).own (c.put.new.self.view.name, c.of-2.result) own ∙ ap (λ a. sits i a (is_seated i (part c.args.pass.now.view 0).own)) c.of-2.ensures

pub returns-clause-left : goal.returns-clause-left
returns-clause-left g c = now_seated g (goal.at.returns-clause-left g c).After-put-2 c.args.seat ∙ ap (λ b. cond b false (is_seated c.args.seat (part c.args.pass.now.view 0).own)) (eq-eqb c.args.seat c.args.seat refl)

pub returns-clause-others : goal.returns-clause-others
returns-clause-others g c = λ i far. now_seated g (goal.at.returns-clause-others g c).After-put-2 i ∙ ap (λ b. cond b false (is_seated i (part c.args.pass.now.view 0).own)) (ne_eqb c.args.seat i (λ z. far (sym z)))

pub returns-clause-gave : goal.returns-clause-gave
returns-clause-gave g c =
    let l : ℕ = c.args.seat + 1 in
    let far : l ≢ 0 = λ z. omega arith in
    desk_gave stands (Fact Tie lends out keeper) (hands_after slip_hand empties) l far (locked.Desk c.in-Desk.desk) (locked.Pool c.in-Pool.field-0) c.of.result c.of-2.result c.args.pass.now.view c.take.new.self.view c.take-2.new.self.view c.put.new.self.view c.put-2.new.self.view c.in-Desk.ensures.took c.in-Pool.ensures.took c.put.ensures.passed c.requires.idle.holds c.put-2.ensures.passed (Leave c.args.seat) c.of-2.ensures

pub returns-clause-shut : goal.returns-clause-shut
returns-clause-shut g c =
    let l : ℕ = c.args.seat + 1 in
    let far : l ≢ 0 = λ z. omega arith in
    pool_gave stands (Fact Tie lends out keeper) (hands_after slip_hand empties) l far (locked.Desk c.in-Desk.desk) (locked.Pool c.in-Pool.field-0) c.of.result c.of-2.result c.args.pass.now.view c.take.new.self.view c.take-2.new.self.view c.put.new.self.view c.put-2.new.self.view c.in-Desk.ensures.took c.in-Pool.ensures.took c.put.ensures.passed c.requires.idle.holds c.put-2.ensures.passed Close c.of.ensures
